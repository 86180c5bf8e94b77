-- Checks that are denied alike.
use Rattle.std.proofs.Common.{◌≡◌, ◌∙◌, ap, refl, sym, ℕ, Bool, true, false, cond, ◌&&◌, List, [], ◌∷◌, ◌++◌, Option, Some, None}
use Rattle.std.specs.List.{list_all}
use Rattle.std.proofs.lemmas.Bool.{and_parts}
use Rattle.doc_model.specs.declared.column.CellColumn.{CellColumn}
use Rattle.doc_model.specs.declared.view.ViewCol.{ViewCol}
use Rattle.doc_model.specs.declared.view.ViewTable.{ViewTable}
use Rattle.doc_model.specs.ByIds.{has_id}
use Rattle.doc_model.specs.Document.{Document}
use Rattle.doc_model.specs.Rows.{has}
use Rattle.doc_model.specs.ViewEdits.{shown_id}
use Rattle.acl_formula.specs.RuleRow.{RuleRow}
use Rattle.acl_formula.specs.declared.permissions.Perm.TheVariants as perm
use Rattle.acl_rules.specs.declared.decision.Ctx.{Ctx}
use Rattle.acl_rules.specs.declared.decision.Decision.{Decision}
use Rattle.acl_rules.specs.Chain.{chain_of}
use Rattle.acl_checks.specs.Checks.{Check, add_checks, cell_checks, new_row_checks, remove_checks, row_at, row_check, update_checks}
use Rattle.acl_checks.specs.Denials.{decided, denial_or, first_denied}
use Rattle.acl_checks.proofs.DenialLemmas.{same_parts}
use Rattle.rule_audit.specs.Open.{open_columns}
use Rattle.rule_audit.specs.Reached.{is_safe}
use Rattle.rule_audit.specs.SeenLaws.{asked_of}
use Rattle.rule_audit.proofs.ClosedLemmas.{gone_sealed, writing_same}
use Rattle.rule_audit.proofs.ReachLemmas.{same_decision}
use Rattle.audited_checks.specs.AlikeRows.{AreAlike, AreAllAlike}
use Rattle.audited_checks.specs.CheckLaws.{AddedLaw, AreShown, AreShownColumns, ChangedLaw, RemovedLaw, ShowAlike}
use Rattle.audited_checks.proofs.AlikeLemmas.{asked_alike, new_alike, shown_alike}

-- one check, and those behind it
next : (x : Ctx) (c d : Check) (cs ds : List Check) → decided x c ≡ decided x d → first_denied x cs ≡ first_denied x ds → first_denied x (c ∷ cs) ≡ first_denied x (d ∷ ds)
next x c d cs ds one rest =
    ap (λ (e : Decision). denial_or e (first_denied x cs)) one ∙ ap (denial_or (decided x d)) rest

module _ (x : Ctx) (s t : Document) (v : ViewTable) (both : ShowAlike x s t v) where
  abbrev opened : List ViewCol
  opened = open_columns x v

  -- ---- rows that go

  removed_row : (r : ℕ) → has v.rows r ≡ true
      → decided x (row_check perm.D v.id None (row_at s v.id r) (row_at s v.id r)) ≡ decided x (row_check perm.D v.id None (row_at t v.id r) (row_at t v.id r))
  removed_row r here =
      let alike = shown_alike x s t v r perm.D both.seen both.other here in
      same_decision (is_safe perm.D opened)
      (asked_of x (Some (row_at s v.id r)) (Some (row_at s v.id r))) (asked_of x (Some (row_at t v.id r)) (Some (row_at t v.id r)))
      perm.D (chain_of x.book (Some v.id) None)
      (asked_alike perm.D opened x (row_at s v.id r) (row_at t v.id r) (row_at s v.id r) (row_at t v.id r) alike alike)
      (gone_sealed x s v both.seen both.closed)

  pub removed_rows : (rows : List ℕ) → AreShown v rows → first_denied x (remove_checks s v.id rows) ≡ first_denied x (remove_checks t v.id rows)
  removed_rows [] h = refl
  removed_rows (r ∷ rows) h =
      let parts = and_parts (has v.rows r) (list_all (has v.rows) rows) h in
      next x
      (row_check perm.D v.id None (row_at s v.id r) (row_at s v.id r)) (row_check perm.D v.id None (row_at t v.id r) (row_at t v.id r))
      (remove_checks s v.id rows) (remove_checks t v.id rows)
      (removed_row r parts.0) (removed_rows rows parts.1)

  -- ---- cells that are given

  module _ (a b c d : RuleRow) (before : AreAlike perm.U opened a b) (after : AreAlike perm.U opened c d) where
    given_cell : (n : List ℕ) → has_id shown_id v.columns n ≡ true → decided x (row_check perm.U v.id (Some n) a c) ≡ decided x (row_check perm.U v.id (Some n) b d)
    given_cell n shown =
        (writing_same x s v (asked_of x (Some a) (Some c)) (asked_of x (Some b) (Some d)) both.seen both.closed refl).1
        n shown (asked_alike perm.U opened x a b c d before after)

    pub given_cells : (ks : List CellColumn) → AreShownColumns v ks → first_denied x (cell_checks v.id a c ks) ≡ first_denied x (cell_checks v.id b d ks)
    given_cells [] h = refl
    given_cells (k ∷ ks) h =
        let parts = and_parts (has_id shown_id v.columns k.id) (list_all (λ (k : CellColumn). has_id shown_id v.columns k.id) ks) h in
        next x
        (row_check perm.U v.id (Some k.id) a c) (row_check perm.U v.id (Some k.id) b d)
        (cell_checks v.id a c ks) (cell_checks v.id b d ks)
        (given_cell k.id parts.0) (given_cells ks parts.1)

  -- ---- rows that are changed

  module _ (s_new t_new : Document) (ks : List CellColumn) (columns : AreShownColumns v ks)
      (later : (r : ℕ) → has v.rows r ≡ true → AreAlike perm.U opened (row_at s_new v.id r) (row_at t_new v.id r)) where
    pub changed_rows : (rows : List ℕ) → AreShown v rows → first_denied x (update_checks s s_new v.id rows ks) ≡ first_denied x (update_checks t t_new v.id rows ks)
    changed_rows [] h = refl
    changed_rows (r ∷ rows) h =
        let parts = and_parts (has v.rows r) (list_all (has v.rows) rows) h in
        same_parts x
        (cell_checks v.id (row_at s v.id r) (row_at s_new v.id r) ks) (update_checks s s_new v.id rows ks)
        (cell_checks v.id (row_at t v.id r) (row_at t_new v.id r) ks) (update_checks t t_new v.id rows ks)
        (given_cells (row_at s v.id r) (row_at t v.id r) (row_at s_new v.id r) (row_at t_new v.id r) (shown_alike x s t v r perm.U both.seen both.other parts.0) (later r parts.0) ks columns)
        (changed_rows rows parts.1)

  -- ---- new rows

  module _ (s_new t_new : Document) (ks : List CellColumn) (columns : AreShownColumns v ks) where
    module _ (a b : RuleRow) (alike : AreAlike perm.U opened a b) where
      new_row : first_denied x (new_row_checks v.id a ks) ≡ first_denied x (new_row_checks v.id b ks)
      new_row =
          let news = new_alike opened a b alike in
          next x
          (row_check perm.C v.id None a a) (row_check perm.C v.id None b b)
          (cell_checks v.id a a ks) (cell_checks v.id b b ks)
          ((writing_same x s v (asked_of x (Some a) (Some a)) (asked_of x (Some b) (Some b)) both.seen both.closed refl).0 (asked_alike perm.C opened x a b a b news news))
          (given_cells a b a b alike alike ks columns)

    pub new_rows : (rows others : List ℕ) → AreAllAlike opened v.id s_new t_new rows others → first_denied x (add_checks s_new v.id rows ks) ≡ first_denied x (add_checks t_new v.id others ks)
    new_rows [] [] h = refl
    new_rows [] (q ∷ others) h = absurd h
    new_rows (r ∷ rows) [] h = absurd h
    new_rows (r ∷ rows) (q ∷ others) h =
        same_parts x
        (new_row_checks v.id (row_at s_new v.id r) ks) (add_checks s_new v.id rows ks)
        (new_row_checks v.id (row_at t_new v.id q) ks) (add_checks t_new v.id others ks)
        (new_row (row_at s_new v.id r) (row_at t_new v.id q) h.0)
        (new_rows rows others h.1)

pub removed_same : RemovedLaw
removed_same x s t v rows both shown = removed_rows x s t v both rows shown

pub changed_same : ChangedLaw
changed_same x s t s_new t_new v rows ks both shown columns later = changed_rows x s t v both s_new t_new ks columns later rows shown

pub added_same : AddedLaw
added_same x s t s_new t_new v rows others ks both columns alike = new_rows x s t v both s_new t_new ks columns rows others alike
