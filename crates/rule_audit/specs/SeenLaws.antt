-- What an audit rests on in documents: what the view tells of the rows that rules are asked about.
use Rattle.std.specs.Prelude.{ℕ, true, false, List, ◌≡◌, Option, Some, None}
use Rattle.doc_model.specs.declared.view.ViewTable.{ViewTable}
use Rattle.doc_model.specs.ByIds.{find_id, has_id}
use Rattle.doc_model.specs.Changes.{grid, shown_table_id}
use Rattle.doc_model.specs.Document.{Document}
use Rattle.doc_model.specs.Grid.{cell}
use Rattle.doc_model.specs.LaidOut.{IsLaidOut}
use Rattle.doc_model.specs.MetadataIds.{is_metadata_id}
use Rattle.doc_model.specs.Rows.{has}
use Rattle.doc_model.specs.ViewEdits.{shown_id}
use Rattle.doc_readers.specs.Parts.{grid_at}
use Rattle.acl_formula.specs.Asked.{Asked}
use Rattle.acl_formula.specs.RuleRow.{RuleRow}
use Rattle.acl_formula.specs.declared.permissions.Perm.{Perm}
use Rattle.acl_formula.specs.declared.permissions.Perm.TheVariants as perm
use Rattle.acl_rules.specs.declared.decision.Ctx.{Ctx}
use Rattle.acl_rules.specs.Chain.{chain_of}
use Rattle.acl_rules.specs.Decided.{decision_in}
use Rattle.acl_reading.specs.RulesLet.{rules_let}
use Rattle.censored_view.specs.Readable.{row_of}
use Rattle.censored_view.specs.View.{view}
use Rattle.rule_audit.specs.Closed.{IsClosed}
use Rattle.rule_audit.specs.Laws.{AgreeOn}
use Rattle.rule_audit.specs.Open.{open_columns}
use Rattle.rule_audit.specs.Reached.{is_safe}

-- the table is one that the context shows of the document, and none of the document's own
pub record IsSeen (x : Ctx) (s : Document) (v : ViewTable) : Type 0 where
  pub laid_out : IsLaidOut s
  pub plain : is_metadata_id v.id ≡ false
  pub found : find_id shown_table_id v.id (view (rules_let x) s) ≡ Some v

-- each cell of an open column is told by the view
abbrev pub SeenLaw : Type 0
SeenLaw = (x : Ctx) (s : Document) (v : ViewTable) (c : List ℕ) (r : ℕ) → IsSeen x s v
    → has_id shown_id (open_columns x v) c ≡ true → has (grid_at s v.id).rows r ≡ true
    → (row_of (grid_at s v.id) r).cell c ≡ Some (cell shown_id (grid v) c r)

-- where there is an open column, the rows of the table are those of the view
abbrev pub RowsLaw : Type 0
RowsLaw = (x : Ctx) (s : Document) (v : ViewTable) (c : List ℕ) (r : ℕ) → IsSeen x s v
    → has_id shown_id (open_columns x v) c ≡ true → has v.rows r ≡ has (grid_at s v.id).rows r

-- whether a row of the table may be changed or removed is asked of a column, or of the table
abbrev pub asked_of : Ctx → Option RuleRow → Option RuleRow → Asked
asked_of x before after = record { user = x.user; before = before; after = after }

-- of a closed user no decision on a row that goes rests on more than the view: it is the same in
-- any two documents that show the user the same
abbrev pub RemovalLaw : Type 0
RemovalLaw = (x : Ctx) (s t : Document) (v : ViewTable) (r : ℕ) → IsSeen x s v → IsSeen x t v
    → IsClosed x (view (rules_let x) s)
    → has (grid_at s v.id).rows r ≡ true → has (grid_at t v.id).rows r ≡ true
    → decision_in (asked_of x (Some (row_of (grid_at s v.id) r)) (Some (row_of (grid_at s v.id) r)))
    perm.D (chain_of x.book (Some v.id) None)
    ≡ decision_in (asked_of x (Some (row_of (grid_at t v.id) r)) (Some (row_of (grid_at t v.id) r)))
    perm.D (chain_of x.book (Some v.id) None)

-- nor does one on a new row, or on a cell that is changed in a shown column, where what is asked of
-- two documents agrees on what is safe
abbrev pub WritingLaw : Type 0
WritingLaw = (x : Ctx) (s : Document) (v : ViewTable) (a b : Asked) → IsSeen x s v
    → IsClosed x (view (rules_let x) s) → a.user ≡ x.user
    → (AgreeOn (is_safe perm.C (open_columns x v)) a b
    → decision_in a perm.C (chain_of x.book (Some v.id) None)
    ≡ decision_in b perm.C (chain_of x.book (Some v.id) None))
    × ((c : List ℕ) → has_id shown_id v.columns c ≡ true
    → AgreeOn (is_safe perm.U (open_columns x v)) a b
    → decision_in a perm.U (chain_of x.book (Some v.id) (Some c))
    ≡ decision_in b perm.U (chain_of x.book (Some v.id) (Some c)))
