-- Named columns are read exactly.
use Rattle.std.proofs.Common.{◌≡◌, ℕ, List, [], ◌∷◌, ◌++◌, map, true, false, Some, None, refl, sym, ap, ◌∙◌, subst, append_assoc, append-nil}
use Rattle.std.specs.List.{list_all}
use Rattle.serde_json.specs.Data.{Data, object, Members}
use Rattle.doc_model.specs.declared.column.CellColumn.{CellColumn}
use Rattle.doc_model.specs.declared.user_action.UserColumn.{UserColumn}
use Rattle.action_lines.specs.Columns.{AreColumns, columns_in}
use Rattle.action_lines.specs.Values.{has_name_length}
use Rattle.action_lines.proofs.StepLemmas.{bind_some, guard_some, some_same, both_true}
use Rattle.action_lines.proofs.ColumnLemmas.{columns_in_take, columns_in_again}
use Rattle.record_lines.specs.Columns.{unnamed, is_named, AreNamed, name_column, named_onto, named_from}

name_takes : (u : UserColumn) (c : CellColumn) → name_column u ≡ Some c → (u ≡ unnamed c) × (is_named c ≡ true)
unfolding name_column
name_takes u c e =
    let g = guard_some (has_name_length u.id) (record { id = u.id; values = u.values }) c e in
    (ap unnamed g.1, subst (λ x. is_named x ≡ true) g.1 g.0)

name_again : (c : CellColumn) → is_named c ≡ true → name_column (unnamed c) ≡ Some c
unfolding name_column
name_again c h = rw h refl

onto_takes : (us : List UserColumn) (done cs : List CellColumn) → named_onto done us ≡ Some cs
    → (found : List CellColumn) × (done ++ found ≡ cs) × (us ≡ map unnamed found) × (list_all is_named found ≡ true)
onto_takes [] done cs e = ([], append-nil done ∙ some_same done cs e, refl, refl)
onto_takes (u ∷ us) done cs e =
    let c = bind_some (name_column u) _ cs e in
    let is = name_takes u c.0 c.1 in
    let rest = onto_takes us (done ++ c.0 ∷ []) cs c.2 in
    (c.0 ∷ rest.0, sym (append_assoc done (c.0 ∷ []) rest.0) ∙ rest.1, (λ i. is.0 i ∷ rest.2 i), rw (is.1, rest.3) refl)

onto_again : (cs done : List CellColumn) → list_all is_named cs ≡ true → named_onto done (map unnamed cs) ≡ Some (done ++ cs)
onto_again [] done h = ap Some (sym (append-nil done))
onto_again (c ∷ cs) done h =
    let both = both_true (is_named c) (list_all is_named cs) h in
    rw (name_again c both.0) (onto_again cs (done ++ c ∷ []) both.1 ∙ ap Some (append_assoc done (c ∷ []) cs))

-- the columns of an object, named
pub named_take : (count : ℕ) (d : Data) (us : List UserColumn) (cs : List CellColumn) → columns_in false count d ≡ Some us → named_from us ≡ Some cs → (ms : Members) × AreNamed count cs ms × (d ≡ object ms)
named_take count d us cs e f =
    let ms = columns_in_take false count d us e in
    let found = onto_takes us [] cs f in
    let P : List UserColumn → Type 0 = λ l. AreColumns false count None l ms.0 in
    (ms.0, record { filled = subst P (found.2 ∙ ap (map unnamed) found.1) ms.1; named = subst (λ (l : List CellColumn). list_all is_named l ≡ true) found.1 found.3 }, ms.2)

pub named_again : (count : ℕ) (cs : List CellColumn) (ms : Members) → AreNamed count cs ms → (columns_in false count (object ms) ≡ Some (map unnamed cs)) × (named_from (map unnamed cs) ≡ Some cs)
named_again count cs ms h = (columns_in_again false count (map unnamed cs) ms h.filled, onto_again cs [] h.named)
