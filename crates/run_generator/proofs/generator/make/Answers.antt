use Rattle.std.proofs.Common.{rules, ◌≡◌, ◌∷◌, codes, sym, ap, refl, subst, ◌∙◌, arith}
use Rattle.doc_model.specs.declared.request.Request.TheVariants.{Apply, Open, Sync}
use Rattle.run_generator.specs.Draws.{drawn}
use Rattle.run_generator.specs.Left.{left_from}
use Rattle.run_generator.specs.Script.{adds_rule, adds_table, bundle, first_asks, second_asks}
use Rattle.run_generator.specs.Stages.{IsAtStage, drawn_before}
use Rattle.run_generator.specs.declared.stage.Stage.TheVariants as stage
use Rattle.run_generator.proofs.MakingLemmas.{made_entry, made_there}
use Rattle.run_generator.proofs.ScriptLemmas.{left_rows}
use Rattle.run_generator.proofs.generator.make.Goals as goal
use Rattle.run_generator.proofs.generator.make.Goals.{in-OpenFirst+in_ok-opens-in-OpenFirst+in_ok-entry-in-OpenFirst, in-OpenSecond+in_ok-opens-in-OpenSecond+in_ok-entry-in-OpenSecond, in-AddTable+in_ok-adds_table-in-AddTable+in_ok-bundle-in-AddTable+in_ok-entry-in-AddTable, in-AddRule+in_ok-adds_rule-in-AddRule+in_ok-entry-in-AddRule, in-AddRows+in_ok-add_bundle-in-AddRows, in-Pause+in_ok-entry-in-Pause, in-UpdateRow+in_ok-update_row-in-UpdateRow, in-SyncFirst+in_ok-entry-in-SyncFirst, in-SyncSecond+in_ok-second_asks-in-SyncSecond, in-Done}

pub returns : goal.returns
returns c =
    let rows = c.args.rows in
    let x = c.args.number in
    let o = c.match-stage.result in
    let none : 0 ≡ drawn_before rows 0 = omega arith in
    elim c.match-stage.branch [
      | in-OpenFirst+in_ok-opens-in-OpenFirst+in_ok-entry-in-OpenFirst w ↦
          made_entry rows c.args.stage stage.OpenFirst w.in-OpenFirst.is o w.in_ok-entry-in-OpenFirst.entry (first_asks (Open (codes "g1"))) x stage.OpenSecond
          (search rules) (search rules) refl (search rules) (subst (IsAtStage rows x) w.in-OpenFirst.is c.requires.stage) refl refl refl
      | in-OpenSecond+in_ok-opens-in-OpenSecond+in_ok-entry-in-OpenSecond w ↦
          made_entry rows c.args.stage stage.OpenSecond w.in-OpenSecond.is o w.in_ok-entry-in-OpenSecond.entry (second_asks (Open (codes "g2"))) x stage.AddTable
          (search rules) (search rules) refl (search rules) (subst (IsAtStage rows x) w.in-OpenSecond.is c.requires.stage) refl refl refl
      | in-AddTable+in_ok-adds_table-in-AddTable+in_ok-bundle-in-AddTable+in_ok-entry-in-AddTable w ↦
          made_entry rows c.args.stage stage.AddTable w.in-AddTable.is o w.in_ok-entry-in-AddTable.entry (first_asks (bundle adds_table)) x stage.AddRule
          (search rules) (search rules) refl (search rules) (subst (IsAtStage rows x) w.in-AddTable.is c.requires.stage) refl refl refl
      | in-AddRule+in_ok-adds_rule-in-AddRule+in_ok-entry-in-AddRule w ↦
          made_entry rows c.args.stage stage.AddRule w.in-AddRule.is o w.in_ok-entry-in-AddRule.entry (first_asks (Apply adds_rule)) x w.before_bundle.result
          (search rules) (search rules) (ap (λ l. first_asks (Apply adds_rule) ∷ l) (left_rows rows ∙ sym w.before_bundle.ensures.left)) (search rules)
          (w.before_bundle.ensures.stage x (subst (IsAtStage rows x) w.in-AddRule.is c.requires.stage ∙ ap (drawn rows) none)) refl refl refl
      | in-AddRows+in_ok-add_bundle-in-AddRows w ↦
          made_there rows c.args.stage (stage.AddRows w.in-AddRows.bundle) w.in-AddRows.is o w.in_ok-add_bundle-in-AddRows.field-0 (search rules) (w.in_ok-add_bundle-in-AddRows.ensures)
      | in-Pause+in_ok-entry-in-Pause w ↦
          made_entry rows c.args.stage (stage.Pause w.in-Pause.bundle) w.in-Pause.is o w.in_ok-entry-in-Pause.entry (second_asks Sync) x w.before_bundle-in-Pause.result
          (search rules) (search rules) (ap (λ l. second_asks Sync ∷ l) (sym w.before_bundle-in-Pause.ensures.left)) (search rules)
          (w.before_bundle-in-Pause.ensures.stage x (subst (IsAtStage rows x) w.in-Pause.is c.requires.stage).1) refl refl refl
      | in-UpdateRow+in_ok-update_row-in-UpdateRow w ↦
          made_there rows c.args.stage (stage.UpdateRow w.in-UpdateRow.row) w.in-UpdateRow.is o w.in_ok-update_row-in-UpdateRow.field-0 (search rules) (w.in_ok-update_row-in-UpdateRow.ensures)
      | in-SyncFirst+in_ok-entry-in-SyncFirst w ↦
          made_entry rows c.args.stage stage.SyncFirst w.in-SyncFirst.is o w.in_ok-entry-in-SyncFirst.entry (first_asks Sync) x stage.SyncSecond
          (search rules) (search rules) refl (search rules) tt refl refl refl
      | in-SyncSecond+in_ok-second_asks-in-SyncSecond w ↦
          made_entry rows c.args.stage stage.SyncSecond w.in-SyncSecond.is o w.in_ok-second_asks-in-SyncSecond.field-0 (second_asks Sync) x stage.Done
          (search rules) (search rules) refl (search rules) tt refl refl refl
      | in-Done w ↦ rw w.result-is (ap (left_from rows) w.in-Done.is)
    ]
