-- Steps that only follow from a rename, or from a change of a column.
use Rattle.std.proofs.Common.{◌≡◌, ◌∙◌, ap, refl, ℕ, Bool, true, false, cond, not, ◌&&◌, ◌||◌, List, [], ◌∷◌, ◌++◌, map, codes}
use Rattle.std.proofs.lemmas.List.Folds.{list_any-append}
use Rattle.std.specs.List.{list_any}
use Rattle.cell_types.specs.declared.value.CellValue.TheVariants.{Null}
use Rattle.cell_types.specs.Conversion.{default_value, fit}
use Rattle.doc_model.specs.declared.action.Step.{Step}
use Rattle.doc_model.specs.declared.column.ColDef.{ColDef}
use Rattle.doc_model.specs.declared.column.ColInfo.{ColInfo}
use Rattle.doc_model.specs.Document.{Document}
use Rattle.doc_model.specs.Grid.{Grid}
use Rattle.doc_model.specs.MetadataIds.{resources_id}
use Rattle.doc_readers.specs.Parts.{grid_at}
use Rattle.renamed_resources.specs.Renamed.{columns_renamed, table_renamed}
use Rattle.user_actions.specs.declared.referrers.Referrer.{Referrer}
use Rattle.user_actions.specs.CellUpdates.{update_changed}
use Rattle.user_actions.specs.Modified.{emptied, filled}
use Rattle.user_actions.specs.References.{led_to, referrers}
use Rattle.user_actions.specs.ResourceSteps.{columns_moved, rows_about, tables_moved}
use Rattle.audited_records.proofs.DenialLemmas.{is_direct, update_follows}

either : (b : Bool) (xs ys : List Step) → list_any is_direct xs ≡ false → list_any is_direct ys ≡ false → list_any is_direct (cond b xs ys) ≡ false
either true xs ys h k = h
either false xs ys h k = k

-- ---- behind a rename

all_led : (new : List ℕ) (ks : List Referrer) → list_any is_direct (map (led_to new) ks) ≡ false
all_led new [] = refl
all_led new (k ∷ ks) = all_led new ks

pub tables_follow : (s : Document) (table new : List ℕ) → list_any is_direct (map (led_to new) (referrers s table new true) ++ tables_moved s table new) ≡ false
tables_follow s table new =
    let led : List Step = map (led_to new) (referrers s table new true) in
    let resources : Grid ColDef = grid_at s resources_id in
    list_any-append is_direct led (tables_moved s table new)
    ∙ ap (λ b. b || list_any is_direct (tables_moved s table new)) (all_led new (referrers s table new true))
    ∙ update_follows resources_id resources (codes "tableId") (table_renamed table new) resources.rows

pub columns_follow : (s : Document) (table column new : List ℕ) → list_any is_direct (columns_moved s table column new) ≡ false
columns_follow s table column new =
    let resources : Grid ColDef = grid_at s resources_id in
    update_follows resources_id resources (codes "colIds") (columns_renamed column new) (rows_about resources table)

-- ---- about a change of a column

module _ (table : List ℕ) (g : Grid ColDef) (d : ColDef) (info : ColInfo) where
  pub emptied_follows : list_any is_direct (emptied table g d info) ≡ false
  emptied_follows =
      either (info.is_formula && not d.info.is_formula) (update_changed table g d.id (λ _. Null) g.rows) [] (update_follows table g d.id (λ _. Null) g.rows) refl

  pub filled_follows : list_any is_direct (filled table g d info) ≡ false
  filled_follows =
      let start : List Step = update_changed table g d.id (λ _. default_value info.ty) g.rows in
      let fits : List Step = update_changed table g d.id (fit info.ty) g.rows in
      either info.is_formula [] (cond d.info.is_formula start fits) refl
      (either d.info.is_formula start fits (update_follows table g d.id (λ _. default_value info.ty) g.rows) (update_follows table g d.id (fit info.ty) g.rows))
