-- The laws of evaluation by text.
use Rattle.std.proofs.Common.{ℕ, List, [], Option, Some, None, refl, ap}
use Rattle.std.specs.List.{AllByRecursion}
use Rattle.cell_types.specs.declared.cell.KeyItem.{KeyItem}
use Rattle.cell_types.specs.declared.cell.Read.{Read}
use Rattle.cell_types.specs.declared.cell.Read.TheVariants.{Key, Rows}
use Rattle.cell_types.specs.declared.value.ErrKind.TheVariants as err
use Rattle.cell_types.specs.declared.value.RowRef.{RowRef}
use Rattle.formula_parse.specs.FormulaOf.{formula_of}
use Rattle.formula_parse.specs.Tree.{Tree}
use Rattle.value_ops.specs.Raising.{IsValue}
use Rattle.formula_eval.specs.declared.note.Note.{Note}
use Rattle.formula_eval.specs.declared.note.Note.TheVariants as note
use Rattle.formula_eval.specs.Reader.{Reader}
use Rattle.formula_eval.specs.Run.{Stop, raises, reads_of}
use Rattle.formula_eval.specs.OfText.{evaluated_some, evaluated_text}
use Rattle.formula_eval.specs.Likeness.{IsJoined, IsAlikeNote, IsAlikeRead, IsAlike}
use Rattle.formula_eval.specs.Names.{Named}
use Rattle.formula_eval.specs.Obeys.{Obeys}
use Rattle.formula_eval.specs.Laws.{any_stop, IsOfText}
use Rattle.formula_eval.proofs.Alike.{done_same}
use Rattle.formula_eval.proofs.EvAlike.{evaluated_alike}
use Rattle.formula_eval.proofs.ReadsAlike.{evaluated_covers, evaluated_notes}
use Rattle.formula_eval.proofs.Named.{evaluated_named}
use Rattle.formula_eval.proofs.Obeys.{evaluated_obeys}
use Rattle.cell_types.specs.declared.value.CellValue.{CellValue}

module _ (L : Stop → Type 0) (R : Type 0) (x y : Reader) (at : RowRef) where
  some_alike : (o : Option Tree) → IsAlike L R x y (evaluated_some x at o) (evaluated_some y at o)
  some_alike None = done_same L R x y {A = CellValue} (raises err.Syntax) (raises err.Syntax) refl
  some_alike (Some f) = evaluated_alike L R x y at f

  -- runs of a text are alike where the readers are at the notes of the first
  pub text_alike : (text : List ℕ) → IsAlike L R x y (evaluated_text x at text) (evaluated_text y at text)
  unfolding evaluated_text
  text_alike text = some_alike (formula_of text)

  some_covers : IsJoined L → (o : Option Tree) → AllByRecursion (IsAlikeRead L R x y) (reads_of (evaluated_some x at o).notes) → AllByRecursion (IsAlikeNote L R x y) (evaluated_some x at o).notes
  some_covers joined None h = tt
  some_covers joined (Some f) h = evaluated_covers L R joined x y at f h

  -- what is told alike at a text's reads is told alike at its notes
  pub text_covers : IsJoined L → (text : List ℕ) → AllByRecursion (IsAlikeRead L R x y) (reads_of (evaluated_text x at text).notes) → AllByRecursion (IsAlikeNote L R x y) (evaluated_text x at text).notes
  unfolding evaluated_text
  text_covers joined text = some_covers joined (formula_of text)

-- what holds at each read of a text holds, in another form, at each of its notes
module _ (P : Read → Type 0) (Q : Note → Type 0) (of_read : (q : Read) → P q → Q (note.Read q)) (of_all : (t : List ℕ) → P (Rows t) → Q (note.All t))
    (of_met : (t : List ℕ) (ks : List KeyItem) → P (Rows t) → AllByRecursion (λ k. P (Key t k.column)) ks → Q (note.Met t ks)) (x : Reader) (at : RowRef) where
  some_notes : (o : Option Tree) → AllByRecursion P (reads_of (evaluated_some x at o).notes) → AllByRecursion Q (evaluated_some x at o).notes
  some_notes None h = tt
  some_notes (Some f) h = evaluated_notes P Q of_read of_all of_met x at f h

  pub text_notes : (text : List ℕ) → AllByRecursion P (reads_of (evaluated_text x at text).notes) → AllByRecursion Q (evaluated_text x at text).notes
  unfolding evaluated_text
  text_notes text = some_notes (formula_of text)

module _ (x : Reader) (at : RowRef) where
  some_named : (o : Option Tree) → Named x [] (evaluated_some x at o)
  some_named None = tt
  some_named (Some f) = evaluated_named x at f []

  -- each cell for which a text's run stops is needed and named
  pub text_named : (text : List ℕ) → Named x [] (evaluated_text x at text)
  unfolding evaluated_text
  text_named text = some_named (formula_of text)

  some_obeys : (o : Option Tree) → Obeys IsValue (evaluated_some x at o).out
  some_obeys None = tt
  some_obeys (Some f) = evaluated_obeys x at f

  -- what a text's run gives is a value
  pub text_obeys : (text : List ℕ) → Obeys IsValue (evaluated_text x at text).out
  unfolding evaluated_text
  text_obeys text = some_obeys (formula_of text)

  pub of_text : (text : List ℕ) → IsOfText x at text
  unfolding evaluated_text
  of_text text = record { formula = λ f e. ap (evaluated_some x at) e; none = λ e. ap (evaluated_some x at) e }

pub any_joined : IsJoined any_stop
any_joined cs ds h g = tt
