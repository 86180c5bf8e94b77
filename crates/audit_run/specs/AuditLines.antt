-- The lines that an audit writes: one for each user.
use Rattle.std.specs.Prelude.{ℕ, true, false, List, [], ◌∷◌, ◌++◌, codes, Option, Some, None}
use Rattle.serde_json.specs.Data.{Data, boolean, null, string, object, no_members, member}
use Rattle.serde_json.specs.Written.{compact_text}
use Rattle.doc_model.specs.declared.user.User.{User}
use Rattle.doc_model.specs.Document.{Document}
use Rattle.acl_formula.specs.declared.permissions.Perm.{Perm}
use Rattle.acl_formula.specs.declared.permissions.Perm.TheVariants as perm
use Rattle.grist_json.specs.Replies.{number_data}
use Rattle.rule_contexts.specs.Context.{context, view}
use Rattle.rule_audit.specs.declared.faults.Audit.{Audit}
use Rattle.rule_audit.specs.declared.faults.Audit.TheVariants as fault
use Rattle.rule_audit.specs.Closed.{audit}

-- a permission, as rules write it
abbrev pub letter : Perm → List ℕ
letter perm.R = codes "R"
letter perm.U = codes "U"
letter perm.C = codes "C"
letter perm.D = codes "D"
letter perm.S = codes "S"

-- the column, or null where the rule was met in the chain of the table
abbrev pub column_data : Option (List ℕ) → Data
column_data None = null
column_data (Some column) = string column

-- {"closed":false,"column":..,"perm":..,"rule":..,"table":..,"token":..}
abbrev pub fault_data : Data → List ℕ → Data → List ℕ → List ℕ → Data
fault_data column p rule table token =
    object (member (codes "closed") (boolean false)
    (member (codes "column") column
    (member (codes "perm") (string p)
    (member (codes "rule") rule
    (member (codes "table") (string table)
    (member (codes "token") (string token) no_members))))))

-- what an audit says of the user with this token; a hidden formula is told as S, by no rule
abbrev pub audit_data : List ℕ → Audit → Data
audit_data token fault.Closed =
    object (member (codes "closed") (boolean true)
    (member (codes "token") (string token) no_members))
audit_data token (fault.Leak table column p rule) =
    fault_data (column_data column) (letter p) (number_data rule) table token
audit_data token (fault.HiddenFormula table column) =
    fault_data (string column) (codes "S") null table token

-- the line, with its newline
unfoldable pub audit_line : List ℕ → Audit → List ℕ
audit_line token a = compact_text (audit_data token a) ++ 10 ∷ []

-- the line of a user in a document
abbrev pub line_for : Document → User → List ℕ
line_for s u = audit_line u.token (audit (context u s) (view u s))

-- the lines of users, in their order
abbrev pub lines_for : Document → List User → List ℕ
lines_for s [] = []
lines_for s (u ∷ us) = line_for s u ++ lines_for s us
