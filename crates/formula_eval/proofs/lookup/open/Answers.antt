use Rattle.std.proofs.Common.{ℕ, Bool, true, List, ◌≡◌, map, subst, sym}
use Rattle.formula_parse.specs.declared.tree.LookupKey.{LookupKey}
use Rattle.formula_parse.specs.Tree.{Tree, keys_from}
use Rattle.formula_eval.specs.Reader.{Reader}
use Rattle.formula_eval.specs.Lookup.{columns_of, opened}
use Rattle.formula_eval.specs.Eval.{forms_of}
use Rattle.formula_eval.specs.Halted.{ComesAs}
use Rattle.formula_eval.proofs.Items.{columns-keys}
use Rattle.formula_eval.proofs.lookup.open.Goals as goal

pub returns : goal.returns
returns g c =
    let rd : Reader = g.R.CellSource.told c.args.reader.now in
    let ks : List LookupKey = c.as_slice.result.now in
    let same : map (λ (k : LookupKey). k.name) ks ≡ columns_of (forms_of (keys_from c.args.keys.now)) =
    subst (λ (l : List (List ℕ × Tree)). map (λ (k : LookupKey). k.name) ks ≡ columns_of (forms_of (keys_from l))) c.as_slice.ensures (sym (columns-keys ks)) in
    subst (λ (cs : List (List ℕ)). ComesAs {A = Bool} (λ u. true) c.open_keys.result (g.N.NoteKeeper.noted c.args.notes.now) (g.N.NoteKeeper.noted c.open_keys.new.notes) (opened rd c.args.table.now cs)) same c.open_keys.ensures
