use Rattle.std.proofs.Common.{◌≡◌, ◌-◌, suc, ap, sym, ◌∙◌, arith, slice_get}
use Rattle.undo_bundles.specs.BundleLog.{LogState, bundle_at, kept_at}
use Rattle.undo_bundles.proofs.LogLaws.{copied_at}
use Rattle.undo_bundles.proofs.log.BundleLog.kept_at.Goals as goal

pub returns-then-number-self : goal.returns-then-number-self
returns-then-number-self c =
    let out : c.args.number - c.self.inside.dropped ≡ 0 = omega arith in
    sym (ap (bundle_at c.self.inside.kept.items) out) ∙ ap (λ (s : LogState). kept_at s.log c.args.number) c.self.view_is

pub returns : goal.returns
returns c =
    let at : c.args.number - c.self.inside.dropped ≡ suc (c.args.number - c.self.inside.dropped - 1) = omega arith in
    copied_at c.deref.result.now (c.args.number - c.self.inside.dropped - 1) c.get.result c.get.ensures.lookup.0 c.get.ensures.lookup.1
    ∙ ap (λ l. slice_get l (c.args.number - c.self.inside.dropped - 1)) c.deref.ensures.value
    ∙ sym (ap (bundle_at c.self.inside.kept.items) at) ∙ ap (λ (s : LogState). kept_at s.log c.args.number) c.self.view_is
