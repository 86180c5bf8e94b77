use Rattle.std.proofs.Common.{ℕ, List, map, get_or, Option, Err, ap, sym, subst, ◌∙◌}
use Rattle.std.proofs.lemmas.Option.{IfSome_then}
use Rattle.user_actions.specs.StepLaws.{action_of}
use Rattle.undo_bundles.specs.BundleLog.{Log}
use Rattle.bundle_core.specs.declared.session.BundleNote.{BundleNote}
use Rattle.bundle_core.specs.Dispatch.{Posts, Stays, bundle_reply}
use Rattle.bundle_judge.specs.JudgedBundles.{after_steps, told_changes}
use Rattle.bundle_judge.specs.Losses.{all_lost, cells_told}
use Rattle.bundle_judge.specs.Rollback.{gone_back}
use Rattle.bundle_core.specs.Noting.{MayBeUndone}
use Rattle.bundle_core.proofs.LastChanges.{lost_as}
use Rattle.bundle_core.proofs.Readied.{all_may_post, few_bundles, same_log}
use Rattle.bundle_core.proofs.bundle.accept.Goals as goal

pub post-lines-requires-clause-may : goal.post-lines-requires-clause-may
post-lines-requires-clause-may g c =
    all_may_post (told_changes (gone_back g.D.DocTables.fits g.D.DocTables.undone c.args.trail.traces.items (g.D.DocReader.document c.args.doc.now)) (map action_of c.args.plan.now.steps)) c.args.sessions.now.items c.ready_to_keep.new.sessions.items c.in-Ok.ensures.same c.requires.few c.in-Ok.ensures.ready

pub post-lines-requires-clause-few_bundles : goal.post-lines-requires-clause-few_bundles
post-lines-requires-clause-few_bundles g c = few_bundles c.args.sessions.now.items c.ready_to_keep.new.sessions.items c.in-Ok.ensures.same c.requires.few_bundles

pub post-lines-requires-clause-own : goal.post-lines-requires-clause-own
post-lines-requires-clause-own g c =
    λ d. let r = c.in-Ok.ready.bundle.ready in
    let P : Log → Type 0 = λ log. MayBeUndone c.args.plan.now.undone log in
    let Q : Option ℕ → Type 0 = λ u. MayBeUndone u (get_or c.ready_to_keep.new.sessions.items c.args.index d).holder.log in
    subst Q (sym (ap (λ (n : BundleNote). n.undone) c.in-Ok.ensures.note))
    (subst P (same_log c.args.sessions.now.items c.ready_to_keep.new.sessions.items c.args.index d c.in-Ok.ensures.same) (c.requires.own d))

pub returns-in-Ok-keep-clause-ok : goal.returns-in-Ok-keep-clause-ok
returns-in-Ok-keep-clause-ok g c =
    let s = gone_back g.D.DocTables.fits g.D.DocTables.undone c.args.trail.traces.items (g.D.DocReader.document c.args.doc.now) in
    let old = c.ready_to_keep.new.sessions.items in
    let new = c.post-lines.new.sessions.items in
    let r = c.in-Ok.ready.bundle.ready in
    let P : List ℕ → Type 0 = λ reply. Posts old new c.args.index r.note reply c.post-lines.result.items in
    let Q : BundleNote → Type 0 = λ note. Posts old new c.args.index note (bundle_reply c.args.sessions.now.items c.args.index c.args.plan.now.undone (after_steps s c.args.plan.now.steps) c.args.plan.now.created.items) c.post-lines.result.items in
    record {
      document = c.in-Ok.ensures.document;
      sessions = record {
        prepared = c.ready_to_keep.new.sessions.items;
        same = c.in-Ok.ensures.same;
        ready = c.in-Ok.ensures.ready;
        posts = subst Q c.in-Ok.ensures.note (subst P c.in-Ok.ensures.reply c.post-lines.ensures);
      };
      line = c.in-Ok.ready.record;
      next = c.in-Ok.ensures.record;
      adds = c.in-Ok-keep.ensures.ok;
      count = c.in-Ok-keep.ensures.counted;
    }

pub returns-in-Err-Failed-clause-ok : goal.returns-in-Err-Failed-clause-ok
returns-in-Err-Failed-clause-ok g c =
    let prepared = c.ready_to_keep.new.sessions.items in
    let P : List ℕ → Type 0 = λ reply. Stays prepared c.stay_ready.new.sessions.items c.args.index reply c.stay_ready.result.items in
    record {
      document = c.go_back_all-in-Err-Failed.ensures ∙ c.in-Ok.ensures.back;
      sessions = record {
        prepared = prepared;
        same = c.in-Ok.ensures.same;
        stays = subst P c.in-Ok.ensures.refusal c.stay_ready.ensures;
      };
      told = c.in-Err-Failed.ensures.err;
      count = c.in-Err-Failed.ensures.uncounted;
      failed = c.in-Err-Failed.ensures.cause.failed (ap (λ k. Err k) c.in-Err-Failed.field-0-is);
    }

pub lost_by-lost-requires : goal.lost_by-lost-requires
lost_by-lost-requires g c = IfSome_then c.in-Ok.ready.bundle.room c.in-Ok.ensures.lost (λ room h. h.0)

pub returns-in-Ok-keep-clause-lost : goal.returns-in-Ok-keep-clause-lost
returns-in-Ok-keep-clause-lost g c =
    let s = gone_back g.D.DocTables.fits g.D.DocTables.undone c.args.trail.traces.items (g.D.DocReader.document c.args.doc.now) in
    lost_as cells_told c.args.trail.traces.items c.ready_to_keep.new.trail.traces.items (all_lost s (map action_of c.args.plan.now.steps)) c.in-Ok.ready.bundle.room c.lost_by-lost.result c.in-Ok.ensures.lost c.lost_by-lost.ensures c.requires.done.told.cells
