-- Steps that rename nothing.
use Rattle.std.proofs.Common.{◌≡◌, ℕ, suc, zero, ◌<◌, Bool, true, false, cond, not, ◌&&◌, ◌||◌, List, [], ◌∷◌, ◌++◌, length, get_or, Option, Some, None, refl, ap, ◌∙◌, arith}
use Rattle.std.proofs.lemmas.Bool.{or_parts}
use Rattle.std.proofs.lemmas.List.Folds.{list_any-append}
use Rattle.std.specs.List.{list_any}
use Rattle.cell_types.specs.declared.value.CellValue.{CellValue}
use Rattle.cell_types.specs.declared.value.CellValue.TheVariants.{Null}
use Rattle.cell_types.specs.Conversion.{default_value, fit}
use Rattle.doc_model.specs.declared.action.DocAction.{DocAction}
use Rattle.doc_model.specs.declared.action.DocAction.TheVariants.{BulkUpdate, ModifyColumn}
use Rattle.doc_model.specs.declared.action.Step.{Step}
use Rattle.doc_model.specs.declared.column.ColDef.{ColDef}
use Rattle.doc_model.specs.declared.column.ColInfo.{ColInfo}
use Rattle.doc_model.specs.declared.user_action.UserAction.{UserAction}
use Rattle.doc_model.specs.declared.user_action.UserAction.TheVariants as user
use Rattle.doc_model.specs.declared.user_action.UserCol.{UserCol}
use Rattle.doc_model.specs.ByIds.{find_id}
use Rattle.doc_model.specs.Column.{column_id}
use Rattle.doc_model.specs.Document.{Document}
use Rattle.doc_model.specs.Grid.{Grid}
use Rattle.doc_model.specs.ViewEdits.{if_any}
use Rattle.doc_readers.specs.Parts.{grid_at}
use Rattle.user_actions.specs.declared.referrers.Referrer.{Referrer}
use Rattle.user_actions.specs.CellUpdates.{column_changed, rows_changed, update_changed}
use Rattle.user_actions.specs.Columns.{info_said}
use Rattle.user_actions.specs.Marked.{direct, indirect}
use Rattle.user_actions.specs.Modified.{emptied, filled, modified, modified_to, same_info}
use Rattle.user_actions.specs.References.{cleared, clearings, referrers, rows_staying}
use Rattle.user_actions.specs.Steps.{all_fitted, row_ids, steps_of}
use Rattle.acl_rules.specs.declared.decision.Ctx.{Ctx}
use Rattle.acl_rules.specs.Carried.{is_rename}
use Rattle.acl_rules.proofs.CarryLemmas.{others_stay}
use Rattle.rule_contexts.specs.Context.{carry}
use Rattle.bundle_judge.specs.CarriedContexts.{asks_rename, renames}

-- a context that is kept is not moved
pub not_moved : (b : Bool) → not b ≡ true → b ≡ false
not_moved true h = absurd (cc)
not_moved false h = refl

-- what no item of a list passes, the one at an index does not
pub none_at : {X : Type 0} (test : X → Bool) (xs : List X) (i : ℕ) (x : X) → list_any test xs ≡ false → i < length xs → x ≡ get_or xs i x → test x ≡ false
none_at test [] i x h lt is = absurd (omega (arith, lt))
none_at test (y ∷ xs) zero x h lt is = ap test is ∙ (or_parts (test y) (list_any test xs) h).0
none_at test (y ∷ xs) (suc i) x h lt is = none_at test xs i x (or_parts (test y) (list_any test xs) h).1 (omega (arith, lt)) is

module _ (test : Step → Bool) where
  both : (xs ys : List Step) → list_any test xs ≡ false → list_any test ys ≡ false → list_any test (xs ++ ys) ≡ false
  both xs ys h k = list_any-append test xs ys ∙ ap (λ b. b || list_any test ys) h ∙ k

  -- a step that is there or not
  maybe : (rows : List ℕ) (e : Step) → test e ≡ false → list_any test (if_any rows e) ≡ false
  maybe [] e h = refl
  maybe (r ∷ rows) e h = ap (λ b. b || false) h

  either : (b : Bool) (xs ys : List Step) → list_any test xs ≡ false → list_any test ys ≡ false → list_any test (cond b xs ys) ≡ false
  either true xs ys h k = h
  either false xs ys h k = k

update : (table : List ℕ) (g : Grid ColDef) (c : List ℕ) (f : CellValue → CellValue) (rows : List ℕ) → list_any renames (update_changed table g c f rows) ≡ false
update table g c f rows =
    let changed = rows_changed g c f rows in
    maybe renames changed (indirect (BulkUpdate table changed (column_changed g c f changed ∷ []))) refl

clear : (s : Document) (table gone : List ℕ) (ks : List Referrer) → list_any renames (clearings s table gone ks) ≡ false
clear s table gone [] = refl
clear s table gone (k ∷ ks) =
    let g = grid_at s k.table in
    let f = cleared gone k.column.info.ty in
    let rows = rows_staying s table gone k.table in
    both renames (update_changed k.table g k.column.id f rows) (clearings s table gone ks) (update k.table g k.column.id f rows) (clear s table gone ks)

module _ (table : List ℕ) (g : Grid ColDef) (d : ColDef) (info : ColInfo) where
  empty : list_any renames (emptied table g d info) ≡ false
  empty = either renames (info.is_formula && not d.info.is_formula) (update_changed table g d.id (λ _. Null) g.rows) [] (update table g d.id (λ _. Null) g.rows) refl

  fill : list_any renames (filled table g d info) ≡ false
  fill =
      let start = update_changed table g d.id (λ _. default_value info.ty) g.rows in
      let fits = update_changed table g d.id (fit info.ty) g.rows in
      either renames info.is_formula [] (cond d.info.is_formula start fits) refl
      (either renames d.info.is_formula start fits (update table g d.id (λ _. default_value info.ty) g.rows) (update table g d.id (fit info.ty) g.rows))

  to_info : list_any renames (modified_to table g d info) ≡ false
  to_info =
      let change = direct (ModifyColumn table d.id info) ∷ [] in
      let front = emptied table g d info ++ change in
      either renames (same_info d.info info) [] (front ++ filled table g d info) refl
      (both renames front (filled table g d info) (both renames (emptied table g d info) change empty refl) fill)

modify : (table : List ℕ) (g : Grid ColDef) (c : UserCol) → list_any renames (modified table g c) ≡ false
modify table g c =
    elim (find_id column_id c.id g.columns) as (λ (o : Option ColDef). list_any renames (elim o as (λ _. List Step) [ None ↦ [] | Some d ↦ modified_to table g d (info_said d.info c) ]) ≡ false) [
      | None ↦ refl
      | Some d ↦ to_info table g d (info_said d.info c)
    ]

-- an action that asks for no rename comes to no step that renames
pub no_renames : (s : Document) (a : UserAction) → asks_rename a ≡ false → list_any renames (steps_of s a) ≡ false
no_renames s (user.Add table single count has_row_ids ks) h = refl
no_renames s (user.Update table single rows ks) h = maybe renames (row_ids rows) (direct (BulkUpdate table (row_ids rows) (all_fitted s table ks))) refl
no_renames s (user.Remove table single rows) h = clear s table (row_ids rows) (referrers s table table false)
no_renames s (user.AddTable table cs) h = refl
no_renames s (user.RemoveTable table) h = refl
no_renames s (user.RenameTable table new) h = absurd (cc)
no_renames s (user.AddColumn table c) h = refl
no_renames s (user.RemoveColumn table column) h = refl
no_renames s (user.RenameColumn table column new) h = absurd (cc)
no_renames s (user.ModifyColumn table c) h = modify table (grid_at s table) c

-- an action that renames nothing leaves a context as it is
pub stays_in_force : (a : DocAction) (x : Ctx) → is_rename a ≡ false → x ≡ carry a x
stays_in_force a x h = ap (λ book. let y : Ctx = record { book = book; user = x.user } in y) (others_stay a h x.book)
