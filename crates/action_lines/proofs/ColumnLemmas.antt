-- Columns are read exactly from the members that they are.
use Rattle.std.proofs.Common.{◌≡◌, ℕ, List, [], ◌∷◌, ◌++◌, Bool, true, length, nat_eq, Option, Some, None, refl, sym, ap, ◌∙◌, subst, append_assoc, append-nil}
use Rattle.serde_json.specs.Data.{Data, object, Members, no_members, member}
use Rattle.serde_json.specs.Find.{as_object}
use Rattle.cell_types.specs.declared.value.CellValue.{CellValue}
use Rattle.doc_model.specs.declared.user_action.UserColumn.{UserColumn}
use Rattle.action_lines.specs.Items.{given_from}
use Rattle.action_lines.specs.Values.{IsValue}
use Rattle.action_lines.specs.ReadValues.{value_from}
use Rattle.action_lines.specs.Columns.{is_after, AreCells, filled, AreColumns, none, more, cells_from, filled_from, columns_onto, columns_from, columns_in}
use Rattle.action_lines.proofs.StepLemmas.{bind_some, guard_some, guard_then, some_same}
use Rattle.action_lines.proofs.FieldLemmas.{object_takes}
use Rattle.action_lines.proofs.ItemLemmas.{given_takes, given_again}
use Rattle.action_lines.proofs.ValueLemmas.{value_takes, value_again}

module _ (single : Bool) (count : ℕ) where
  cells_take : (d : Data) (vs : List CellValue) → cells_from single count d ≡ Some vs → AreCells single count vs d
  unfolding cells_from
  cells_take d vs e =
      let a = bind_some (given_from value_from single d) _ vs e in
      let g = guard_some (nat_eq (length a.0) count) a.0 vs a.2 in
      subst (λ (l : List CellValue). AreCells single count l d) g.1 (given_takes value_from IsValue value_takes single d a.0 a.1, g.0)

  cells_again : (vs : List CellValue) (d : Data) → AreCells single count vs d → cells_from single count d ≡ Some vs
  unfolding cells_from
  cells_again vs d h = rw (given_again value_from IsValue value_again single vs d h.0, h.1) refl

  filled_takes : (before : Option (List ℕ)) (name : List ℕ) (d : Data) (c : UserColumn) → filled_from single count before name d ≡ Some c
      → (vs : List CellValue) × (c ≡ filled name vs) × (is_after before name ≡ true) × AreCells single count vs d
  unfolding filled_from
  filled_takes before name d c e =
      let g = guard_then (is_after before name) _ c e in
      let vs = bind_some (cells_from single count d) _ c g.1 in
      (vs.0, sym (some_same (filled name vs.0) c vs.2), g.0, cells_take d vs.0 vs.1)

  filled_again : (before : Option (List ℕ)) (name : List ℕ) (vs : List CellValue) (d : Data) → is_after before name ≡ true → AreCells single count vs d → filled_from single count before name d ≡ Some (filled name vs)
  unfolding filled_from
  filled_again before name vs d after cells = rw (after, cells_again vs d cells) refl

  onto_takes : (ms : Members) (done : List UserColumn) (before : Option (List ℕ)) (cs : List UserColumn) → columns_onto single count done before ms ≡ Some cs
      → (found : List UserColumn) × (done ++ found ≡ cs) × AreColumns single count before found ms
  onto_takes no_members done before cs e = ([], append-nil done ∙ some_same done cs e, none)
  onto_takes (member name d ms) done before cs e =
      let c = bind_some (filled_from single count before name d) _ cs e in
      let is = filled_takes before name d c.0 c.1 in
      let rest = onto_takes ms (done ++ c.0 ∷ []) (Some name) cs c.2 in
      (filled name is.0 ∷ rest.0, ap (λ x. done ++ x ∷ rest.0) (sym is.1) ∙ sym (append_assoc done (c.0 ∷ []) rest.0) ∙ rest.1, more is.2 is.3 rest.2)

  columns_take : (ms : Members) (cs : List UserColumn) → columns_from single count ms ≡ Some cs → AreColumns single count None cs ms
  columns_take ms cs e =
      let found = onto_takes ms [] None cs e in
      subst (λ (l : List UserColumn). AreColumns single count None l ms) found.1 found.2

  onto_again : {before : Option (List ℕ)} {cs : List UserColumn} {ms : Members} → AreColumns single count before cs ms → (done : List UserColumn) → columns_onto single count done before ms ≡ Some (done ++ cs)
  onto_again none done = ap Some (sym (append-nil done))
  onto_again (more {before} {name} {vs} {d} {cs} after cells rest) done =
      rw (filled_again before name vs d after cells) (onto_again rest (done ++ filled name vs ∷ []) ∙ ap Some (append_assoc done (filled name vs ∷ []) cs))

  columns_again : (cs : List UserColumn) (ms : Members) → AreColumns single count None cs ms → columns_from single count ms ≡ Some cs
  columns_again cs ms h = onto_again h []

  pub columns_in_take : (d : Data) (cs : List UserColumn) → columns_in single count d ≡ Some cs → (ms : Members) × AreColumns single count None cs ms × (d ≡ object ms)
  unfolding columns_in
  columns_in_take d cs e =
      let ms = bind_some (as_object d) _ cs e in
      (ms.0, columns_take ms.0 cs ms.2, object_takes d ms.0 ms.1)

  pub columns_in_again : (cs : List UserColumn) (ms : Members) → AreColumns single count None cs ms → columns_in single count (object ms) ≡ Some cs
  unfolding columns_in
  columns_in_again cs ms h = columns_again cs ms h
