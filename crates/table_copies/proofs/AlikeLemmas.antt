-- What is shown of a copy is shown of the table.
use Rattle.std.proofs.Common.{ℕ, Bool, true, false, cond, ◌&&◌, List, [], ◌∷◌, map, filter, ◌≡◌, refl, sym, ap, ◌∙◌, Option, Some, None}
use Rattle.std.specs.List.{AllByRecursion}
use Rattle.std.specs.Option.{is_some, option_map}
use Rattle.std.specs.Str.{bytes_eq}
use Rattle.doc_model.specs.declared.view.ViewTable.{ViewTable}
use Rattle.doc_model.specs.ByIds.{AreDistinct, by_id, find_id}
use Rattle.doc_model.specs.Changes.{shown_table_id}
use Rattle.doc_model.specs.Document.{Document, Table, table_id}
use Rattle.doc_model.specs.LaidOut.{IsLaidOut}
use Rattle.doc_model.proofs.ByIdsLaws.{apart_has, bytes_apart, found_id, has_id-find}
use Rattle.doc_model.proofs.Choices.{each_weaker, filter_none}
use Rattle.censored_view.specs.Parts.{part, shown_part}
use Rattle.censored_view.specs.Readable.{Readable}
use Rattle.censored_view.specs.View.{is_shown, view}
use Rattle.censored_view.specs.ViewLaws.{PartMadeLaw}
use Rattle.table_copies.specs.Alike.{NothingShown, ShownAlike, alone}
use Rattle.table_copies.specs.Copies.{without_row}
use Rattle.table_copies.proofs.TableLemmas.{laid_out_alone}

-- ---- the tables that have an id

module _ (table : List ℕ) (q : Table → Bool) where
  abbrev passes : Table → Bool
  passes t = bytes_eq t.id table && q t

  none_pass : (s : Document) → AllByRecursion (λ (y : Table). bytes_eq table y.id ≡ false) s → filter passes s ≡ []
  none_pass s apart = filter_none passes s (each_weaker (λ (y : Table). bytes_eq table y.id ≡ false) (λ y. passes y ≡ false) (λ y h. ap (λ b. b && q y) (bytes_apart table y.id h)) s apart)

  named_so : (t : Table) → bytes_eq t.id table ≡ true → t.id ≡ table
  named_so t is = found_id table_id table (t ∷ []) t (ap (λ b. cond b (Some t) None) is)

  only_found : (s : Document) (u : Table) → AreDistinct table_id s → find_id table_id table s ≡ Some u → filter passes s ≡ filter passes (u ∷ [])
  only_found [] u distinct found = absurd (cc)
  only_found (t ∷ s) u distinct found =
      elim (bytes_eq t.id table) as (λ b. bytes_eq t.id table ≡ b → cond b (Some t) (find_id table_id table s) ≡ Some u → cond (b && q t) (t ∷ filter passes s) (filter passes s) ≡ filter passes (u ∷ [])) [
        | true ↦ λ is e.
            let same : t ≡ u = cc in
            let rest : filter passes s ≡ [] = none_pass s (each_weaker (λ (y : Table). bytes_eq t.id y.id ≡ false) (λ (y : Table). bytes_eq table y.id ≡ false) (λ y h. sym (ap (λ i. bytes_eq i y.id) (named_so t is)) ∙ h) s distinct.0) in
            ap (λ l. cond (q t) (t ∷ l) l) rest
            ∙ sym (ap (λ b. cond (b && q t) (t ∷ []) []) is)
            ∙ ap (λ (v : Table). cond (bytes_eq v.id table && q v) (v ∷ []) []) same
        | false ↦ λ is e. only_found s u distinct.1 e
      ] refl found

  not_found : (s : Document) → find_id table_id table s ≡ None → filter passes s ≡ []
  not_found s none = none_pass s (apart_has table_id table s (has_id-find table_id table s ∙ ap is_some none))

-- ---- what is shown of them

module _ (part_made : PartMadeLaw) (x : List ℕ → Readable) (table : List ℕ) where
  abbrev shows : Table → Bool
  shows t = is_shown (x t.id) t.grid.columns

  abbrev as_shown : Table → ViewTable
  as_shown t = shown_part (λ r. true) (x t.id) t

  abbrev asked : Document → List ViewTable
  asked s = part (λ c. bytes_eq c table) (λ c r. true) x s

  any_row : (u : Table) → map as_shown (filter (passes table shows) (u ∷ [])) ≡ map as_shown (filter (passes table shows) (without_row u ∷ []))
  any_row u = elim (passes table shows u) as (λ b. map as_shown (cond b (u ∷ []) []) ≡ map as_shown (cond b (without_row u ∷ []) [])) [ true ↦ refl | false ↦ refl ]

  asked_alike : (s : Document) (u : Table) → IsLaidOut s → find_id table_id table s ≡ Some u → asked (without_row u ∷ []) ≡ asked s
  asked_alike s u laid found = ap (by_id shown_table_id) (sym (any_row u) ∙ sym (ap (map as_shown) (only_found table shows s u laid.distinct found)))

  alike_of : (s : Document) (t : Table) (o : Option Table) → IsLaidOut s → find_id table_id table s ≡ o → option_map without_row o ≡ Some t → alone table (view x (t ∷ [])) ≡ alone table (view x s)
  alike_of s t None laid found is = absurd (cc)
  alike_of s t (Some u) laid found is =
      let same : without_row u ≡ t = cc in
      ap (λ (v : Table). alone table (view x (v ∷ []))) (sym same)
      ∙ sym (part_made (λ c. bytes_eq c table) (λ c r. true) x (without_row u ∷ []) (laid_out_alone s table u laid found))
      ∙ asked_alike s u laid found
      ∙ part_made (λ c. bytes_eq c table) (λ c r. true) x s laid

pub shown_alike : PartMadeLaw → ShownAlike
shown_alike part_made x s table t laid is = alike_of part_made x table s t (find_id table_id table s) laid refl is

pub nothing_shown : PartMadeLaw → NothingShown
nothing_shown part_made x s table laid none =
    sym (part_made (λ c. bytes_eq c table) (λ c r. true) x s laid)
    ∙ ap (λ l. by_id shown_table_id (map (as_shown part_made x table) l)) (not_found table (shows part_made x table) s none)
