use Rattle.std.proofs.Common.{◌≡◌, ◌∙◌, ap, map, Some}
use Rattle.std.proofs.lemmas.Result.{IfOk-weaker}
use Rattle.doc_model.specs.ByIds.{find_id}
use Rattle.recalc.specs.declared.kept.KeptTable.{KeptTable}
use Rattle.recalc.specs.Kept.{kept_table_id}
use Rattle.affected_values.specs.Relaid.{blank_of}
use Rattle.affected_values.proofs.RelaidLemmas.{no_other, none_there}
use Rattle.affected_values.proofs.relaying.blank_table.Goals as goal

pub returns-in-Some : goal.returns-in-Some
returns-in-Some c =
    IfOk-weaker c.blank_columns.result (λ v. map (λ w. w.items) v.items ≡ map (blank_of c.args.rows.now) c.deref.result.now)
    (λ v. (k : KeptTable) → find_id kept_table_id c.args.table.now c.args.kept.now ≡ Some k → map (λ w. w.items) v.items ≡ map (blank_of c.args.rows.now) k.columns.items)
    (λ v h k e. h ∙ ap (map (blank_of c.args.rows.now)) (c.deref.ensures.value ∙ ap (λ (k : KeptTable). k.columns.items) (no_other c.in-Some.held.now k (c.in-Some.ensures ∙ e))))
    c.blank_columns.ensures

pub returns-in-None : goal.returns-in-None
returns-in-None c = λ k e. absurd (none_there k (c.in-None.ensures ∙ e))
