-- Changes between two views are told by the tables and rows outside of which these agree.
use Rattle.std.proofs.Common.{ℕ, Bool, true, false, cond, not, ◌&&◌, List, [], ◌++◌, map, filter, ◌≡◌, refl, sym, ap, subst, ◌∙◌, Option, Some, None, option_map, is_some}
use Rattle.doc_model.specs.declared.view.ViewTable.{ViewTable}
use Rattle.doc_model.specs.declared.view.ViewAction.{ViewAction}
use Rattle.doc_model.specs.declared.view.ViewAction.TheVariants.{RemoveTable}
use Rattle.doc_model.specs.ByIds.{has_id}
use Rattle.doc_model.specs.Changes.{shown_table_id, grid, IsView, on_table, introduced, revised, for_each, changes}
use Rattle.doc_model.specs.ViewEdits.{IsShown}
use Rattle.doc_model.proofs.Choices.{not_true, map-map, each_weaker, each_passed}
use Rattle.doc_model.proofs.ByIdsLaws.{found_id, found_all, has_id-find, has_found, find_absent, find-filter, AreDistinct-IsByIds, each_found}
use Rattle.doc_model.proofs.ChangesLaws.{named, edits_of, revised-renewed}
use Rattle.doc_model.proofs.ViewEditsLaws.{edits_again}
use Rattle.doc_model.specs.SameRows.{Both}
use Rattle.plain_view.specs.PartsOfViews.{AgreeOutside, AreSame, passing}
use Rattle.plain_view.proofs.PartLemmas.{filter_through, for_each_through, for_each_mapped, find-mapped, keep_by_id}
use Rattle.plain_view.proofs.PartLemmasCells.{passing_all}
use Rattle.plain_view.proofs.PartLemmasEdits.{edits_same}

module _ (affected : List ℕ → Bool) (test : List ℕ → ℕ → Bool) where
  abbrev cut_table : ViewTable → ViewTable
  cut_table t = passing (test t.id) t

  abbrev pub cut : List ViewTable → List ViewTable
  cut v = map cut_table (filter (λ (t : ViewTable). affected t.id) v)

  -- ---- what is found in a part

  cut_named : (c : List ℕ) (o : Option ViewTable) → ((t : ViewTable) → o ≡ Some t → t.id ≡ c) → option_map cut_table o ≡ option_map (passing (test c)) o
  cut_named c None id = refl
  cut_named c (Some t) id = ap (λ n. let o : Option ViewTable = Some (passing (test n) t) in o) (id t refl)

  named-cut : (v : List ViewTable) → IsView v → (c : List ℕ) → named c (cut v) ≡ cond (affected c) (option_map (passing (test c)) (named c v)) None
  named-cut v iv c =
      find-mapped shown_table_id shown_table_id cut_table (λ t. refl) c (filter (λ (t : ViewTable). affected t.id) v)
      ∙ ap (option_map cut_table) (find-filter shown_table_id (λ (t : ViewTable). affected t.id) c v iv.by_ids
      ∙ keep_by_id shown_table_id affected c (named c v) (λ t found. found_id shown_table_id c v t found))
      ∙ elim (affected c) as (λ b. option_map cut_table (cond b (named c v) None) ≡ cond b (option_map (passing (test c)) (named c v)) None) [
        | true ↦ cut_named c (named c v) (λ t found. found_id shown_table_id c v t found)
        | false ↦ refl
      ]

  some_mapped : {X Y : Type 0} (f : X → Y) (o : Option X) → is_some (option_map f o) ≡ is_some o
  some_mapped f None = refl
  some_mapped f (Some x) = refl

  has-cut : (v : List ViewTable) → IsView v → (c : List ℕ) → has_id shown_table_id (cut v) c ≡ (affected c && has_id shown_table_id v c)
  has-cut v iv c =
      has_id-find shown_table_id c (cut v) ∙ ap is_some (named-cut v iv c)
      ∙ elim (affected c) as (λ b. is_some (cond b (option_map (passing (test c)) (named c v)) None) ≡ (b && has_id shown_table_id v c)) [
        | true ↦ some_mapped (passing (test c)) (named c v) ∙ sym (has_id-find shown_table_id c v)
        | false ↦ refl
      ]

  -- the tables of one view that are not in the other
  missing : (v w : List ViewTable) → IsView v → IsView w → ((c : List ℕ) → affected c ≡ false → named c w ≡ named c v)
      → filter (λ (t : ViewTable). not (has_id shown_table_id (cut w) t.id)) (cut v) ≡ map cut_table (filter (λ (t : ViewTable). not (has_id shown_table_id w t.id)) v)
  missing v w iv iw others =
      filter_through cut_table (λ (t : ViewTable). affected t.id) (λ (t : ViewTable). not (has_id shown_table_id (cut w) t.id)) (λ (t : ViewTable). not (has_id shown_table_id w t.id)) v
      (each_found shown_table_id (λ t. (affected t.id && not (has_id shown_table_id (cut w) t.id)) ≡ not (has_id shown_table_id w t.id)) v (AreDistinct-IsByIds shown_table_id v iv.by_ids) (λ t found.
      ap (λ b. affected t.id && not b) (has-cut w iw t.id)
      ∙ elim (affected t.id) as (λ b. affected t.id ≡ b → (b && not (b && has_id shown_table_id w t.id)) ≡ not (has_id shown_table_id w t.id)) [
        | true ↦ λ _. refl
        | false ↦ λ no. sym (ap not (has_found shown_table_id t.id w t (others t.id no ∙ found)))
      ] refl))

  module _ (v w : List ViewTable) (iv : IsView v) (iw : IsView w) (agree : AgreeOutside affected test v w) where
    -- ---- tables that are gone

    abbrev gone : List ViewTable → List ViewTable → List ViewAction
    gone v w = map (λ (s : ViewTable). RemoveTable s.id) (filter (λ (s : ViewTable). not (has_id shown_table_id w s.id)) v)

    gone_same : gone (cut v) (cut w) ≡ gone v w
    gone_same =
        ap (map (λ (s : ViewTable). RemoveTable s.id)) (missing v w iv iw agree.others)
        ∙ sym (map-map (λ (s : ViewTable). RemoveTable s.id) cut_table (filter (λ (s : ViewTable). not (has_id shown_table_id w s.id)) v))

    -- ---- new tables

    abbrev come : List ViewTable → List ViewTable → List ViewAction
    come v w = for_each introduced (filter (λ (t : ViewTable). not (has_id shown_table_id v t.id)) w)

    -- all rows of a new table pass
    all_pass : (t : ViewTable) → named t.id w ≡ Some t → named t.id v ≡ None → (r : ℕ) → test t.id r ≡ true
    all_pass t found new r =
        elim (test t.id r) as (λ b. test t.id r ≡ b → b ≡ true) [
          | true ↦ λ _. refl
          | false ↦ λ no. absurd (subst (λ o. Both (AreSame r) None o) found (subst (λ o. Both (AreSame r) o (named t.id w)) new (agree.rows t.id r no)))
        ] refl

    shown_in : (u : List ViewTable) → IsView u → (c : List ℕ) (t : ViewTable) → named c u ≡ Some t → IsShown (grid t)
    shown_in u iu c t found = found_all shown_table_id (λ t. IsShown (grid t)) c u t iu.tables found

    abbrev IsNew : ViewTable → Type 0
    IsNew t = (named t.id w ≡ Some t) × (not (has_id shown_table_id v t.id) ≡ true)

    new_whole : (t : ViewTable) → IsNew t → introduced (cut_table t) ≡ introduced t
    new_whole t p =
        ap introduced (passing_all (test t.id) t (shown_in w iw t.id t p.0).is_grid.height
        (all_pass t p.0 (find_absent shown_table_id t.id v (not_true (has_id shown_table_id v t.id) p.1))))

    come_same : come (cut v) (cut w) ≡ come v w
    come_same =
        let fresh : List ViewTable = filter (λ (t : ViewTable). not (has_id shown_table_id v t.id)) w in
        ap (for_each introduced) (missing w v iw iv (λ c no. sym (agree.others c no)))
        ∙ for_each_mapped cut_table introduced introduced fresh
        (each_weaker IsNew (λ t. introduced (cut_table t) ≡ introduced t) new_whole fresh
        (each_passed (λ t. named t.id w ≡ Some t) (λ (t : ViewTable). not (has_id shown_table_id v t.id)) w
        (each_found shown_table_id (λ t. named t.id w ≡ Some t) w (AreDistinct-IsByIds shown_table_id w iw.by_ids) (λ t found. found))))

    -- ---- tables of both views

    unaffected : (t : ViewTable) → named t.id w ≡ Some t → affected t.id ≡ false → revised v t ≡ []
    unaffected t found apart =
        revised-renewed v t
        ∙ ap (λ o. map (on_table t.id) (edits_of o t)) (sym (agree.others t.id apart) ∙ found)
        ∙ ap (map (on_table t.id)) (edits_again (grid t) (shown_in w iw t.id t found))

    edits_cut : (t : ViewTable) → named t.id w ≡ Some t → (o : Option ViewTable) → named t.id v ≡ o → edits_of (option_map (passing (test t.id)) o) (cut_table t) ≡ edits_of o t
    edits_cut t found None old = refl
    edits_cut t found (Some s) old =
        edits_same (test t.id) (grid s) (grid t) (shown_in v iv t.id s old) (shown_in w iw t.id t found) (λ r no.
        subst (λ o. Both (AreSame r) (Some s) o) found (subst (λ o. Both (AreSame r) o (named t.id w)) old (agree.rows t.id r no)))

    in_part : (t : ViewTable) → named t.id w ≡ Some t → affected t.id ≡ true → revised (cut v) (cut_table t) ≡ revised v t
    in_part t found is =
        revised-renewed (cut v) (cut_table t)
        ∙ ap (λ o. map (on_table t.id) (edits_of o (cut_table t))) (named-cut v iv t.id ∙ ap (λ b. cond b (option_map (passing (test t.id)) (named t.id v)) None) is)
        ∙ ap (map (on_table t.id)) (edits_cut t found (named t.id v) refl)
        ∙ sym (revised-renewed v t)

    revised_same : for_each (revised (cut v)) (cut w) ≡ for_each (revised v) w
    revised_same =
        for_each_through cut_table (λ (t : ViewTable). affected t.id) (revised (cut v)) (revised v) w
        (each_found shown_table_id (λ t. cond (affected t.id) (revised (cut v) (cut_table t)) [] ≡ revised v t) w (AreDistinct-IsByIds shown_table_id w iw.by_ids) (λ t found.
        elim (affected t.id) as (λ b. affected t.id ≡ b → cond b (revised (cut v) (cut_table t)) [] ≡ revised v t) [
          | true ↦ λ is. in_part t found is
          | false ↦ λ no. sym (unaffected t found no)
        ] refl))

    pub changes_same : changes (cut v) (cut w) ≡ changes v w
    changes_same =
        ap (λ cs. cs ++ come (cut v) (cut w) ++ for_each (revised (cut v)) (cut w)) gone_same
        ∙ ap (λ cs. gone v w ++ cs ++ for_each (revised (cut v)) (cut w)) come_same
        ∙ ap (λ cs. gone v w ++ come v w ++ cs) revised_same
