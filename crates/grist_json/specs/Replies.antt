-- The JSON of replies.
use Rattle.std.specs.Prelude.{ℕ, List, codes, Option, Some, None}
use Rattle.serde_json.specs.Data.{Data, null, number, unsigned, string, object, Members, no_members, member, put}
use Rattle.doc_model.specs.declared.limit.LimitKind.{LimitKind}
use Rattle.doc_model.specs.declared.limit.LimitKind.TheVariants as limit
use Rattle.doc_model.specs.declared.limit.RuleRef.{RuleRef}
use Rattle.doc_model.specs.declared.refusal.Refusal.{Refusal}
use Rattle.doc_model.specs.declared.refusal.Refusal.TheVariants as refusal
use Rattle.doc_model.specs.declared.verdict.RetValue.{RetValue}
use Rattle.doc_model.specs.declared.verdict.RetValue.TheVariants as ret
use Rattle.doc_model.specs.declared.verdict.Verdict.{Verdict}
use Rattle.doc_model.specs.declared.verdict.Verdict.TheVariants.{Done, Changes, Bundle, Undone, Refused, Limited, Unresolved, Denied}
use Rattle.doc_model.specs.Refusals.{refusal_name, refusal_number}
use Rattle.grist_json.specs.Values.{array_of}
use Rattle.grist_json.specs.Actions.{actions_data}

-- what is counted, by its name
abbrev pub limit_name : LimitKind → List ℕ
limit_name limit.Actions = codes "actions"
limit_name limit.Sessions = codes "sessions"
limit_name limit.Tables = codes "tables"
limit_name limit.Columns = codes "columns"
limit_name limit.Rows = codes "rows"
limit_name limit.RowId = codes "rowId"
limit_name limit.Cells = codes "cells"
limit_name limit.Weight = codes "weight"

abbrev pub number_data : ℕ → Data
number_data n = number (unsigned n)

abbrev pub id_data : Option ℕ → Data
id_data None = null
id_data (Some n) = number_data n

abbrev pub ids_data : List (Option ℕ) → Data
ids_data ids = array_of id_data ids

-- what one action made
abbrev pub ret_data : RetValue → Data
ret_data ret.Null = null
ret_data (ret.Id n) = number_data n
ret_data (ret.Ids ids) = ids_data ids
ret_data (ret.Name t) = string t

abbrev pub rets_data : List RetValue → Data
rets_data values = array_of ret_data values

-- {"ok":..}
abbrev pub ok_data : Data → Data
ok_data d = object (member (codes "ok") d no_members)

-- the fields, with the action where there is one
abbrev pub put_action : Option ℕ → Members → Members
put_action None fields = fields
put_action (Some action) fields = put (codes "action") (number_data action) fields

-- {"error":{..}}, with the action where there is one
abbrev pub error_data : Option ℕ → Members → Data
error_data action fields =
    object (member (codes "error") (object (put_action action fields)) no_members)

-- the fields that each refusal has
abbrev pub refusal_fields : Refusal → Members
refusal_fields r =
    member (codes "code") (number_data (refusal_number r))
    (member (codes "name") (string (refusal_name r)) no_members)

-- the fields of a refusal for a bound
abbrev pub limited_fields : LimitKind → ℕ → Members
limited_fields what bound =
    member (codes "bound") (number_data bound)
    (put (codes "what") (string (limit_name what)) (refusal_fields refusal.Limit))

-- the fields of a refusal of a renaming
abbrev pub unresolved_fields : ℕ → Members
unresolved_fields count =
    put (codes "count") (number_data count) (refusal_fields refusal.Unresolved)

-- the fields of a refusal by a rule
abbrev pub denied_fields : RuleRef → Members
denied_fields rule =
    put (codes "rule") (number_data rule.row)
    (put (codes "memo") (string rule.memo) (refusal_fields refusal.Denied))

-- the reply that tells a verdict
abbrev pub verdict_data : Verdict → Data
verdict_data Done = ok_data null
verdict_data (Changes actions) =
    ok_data (object (member (codes "actions") (actions_data actions) no_members))
verdict_data (Bundle n values) =
    ok_data (object (member (codes "bundle") (number_data n)
    (member (codes "retValues") (rets_data values) no_members)))
verdict_data (Undone n) = ok_data (object (member (codes "bundle") (number_data n) no_members))
verdict_data (Refused r action) = error_data action (refusal_fields r)
verdict_data (Limited what bound action) = error_data action (limited_fields what bound)
verdict_data (Unresolved count) = error_data None (unresolved_fields count)
verdict_data (Denied action rule) = error_data (Some action) (denied_fields rule)
