-- Laws of the evaluator.
use Rattle.std.specs.Prelude.{ℕ, List, [], ◌≡◌, Some, None}
use Rattle.std.specs.List.{AllByRecursion}
use Rattle.cell_types.specs.declared.value.ErrKind.TheVariants as err
use Rattle.cell_types.specs.declared.value.RowRef.{RowRef}
use Rattle.formula_parse.specs.FormulaOf.{formula_of}
use Rattle.formula_parse.specs.Tree.{Tree}
use Rattle.value_ops.specs.Raising.{IsValue}
use Rattle.formula_eval.specs.Reader.{Reader}
use Rattle.formula_eval.specs.Run.{Stop, done, raises, reads_of}
use Rattle.formula_eval.specs.Eval.{evaluated}
use Rattle.formula_eval.specs.OfText.{evaluated_text}
use Rattle.formula_eval.specs.Likeness.{IsAlikeNote, IsAlikeRead, IsAlikeRun}
use Rattle.formula_eval.specs.Names.{Named}
use Rattle.formula_eval.specs.Obeys.{Obeys}

-- any stop is excused
abbrev pub any_stop : Stop → Type 0
any_stop s = Unit {0}

-- readers that tell the same at what the first run notes make the same run, but where the first
-- stops
abbrev pub AlikeLaw : Type 0
AlikeLaw = (x y : Reader) (at : RowRef) (text : List ℕ)
    → AllByRecursion (IsAlikeNote any_stop ⊥ x y) (evaluated_text x at text).notes
    → IsAlikeRun any_stop ⊥ (evaluated_text x at text) (evaluated_text y at text)

-- readers that tell the same at what the first run reads tell the same at all that it notes
abbrev pub ReadsLaw : Type 0
ReadsLaw = (x y : Reader) (at : RowRef) (text : List ℕ)
    → AllByRecursion (IsAlikeRead any_stop ⊥ x y) (reads_of (evaluated_text x at text).notes)
    → AllByRecursion (IsAlikeNote any_stop ⊥ x y) (evaluated_text x at text).notes

-- each cell for which evaluation stops is needed, and named by its reads
abbrev pub NamedLaw : Type 0
NamedLaw = (x : Reader) (at : RowRef) (text : List ℕ) → Named x [] (evaluated_text x at text)

-- a value is no error, and what is raised is not the error of a circular cell
abbrev pub ObeysLaw : Type 0
ObeysLaw = (x : Reader) (at : RowRef) (text : List ℕ)
    → Obeys IsValue (evaluated_text x at text).out

-- a text with a formula has its value, and one without raises a syntax error and reads nothing
pub record IsOfText (x : Reader) (at : RowRef) (text : List ℕ) : Type 0 where
  pub formula : (f : Tree) → formula_of text ≡ Some f → evaluated_text x at text ≡ evaluated x at f
  pub none : formula_of text ≡ None → evaluated_text x at text ≡ done (raises err.Syntax)

abbrev pub TextLaw : Type 0
TextLaw = (x : Reader) (at : RowRef) (text : List ℕ) → IsOfText x at text
