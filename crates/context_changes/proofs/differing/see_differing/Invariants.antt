use Rattle.std.proofs.Common.{List, ◌++◌, Option}
use Rattle.std.specs.List.{AllByRecursion}
use Rattle.doc_model.specs.declared.view.View.{View}
use Rattle.recalc.specs.Evaluated.{filled}
use Rattle.context_changes.specs.Differing.{AreKeptOf, IsSeenIfKept}
use Rattle.context_changes.proofs.differing.see_differing.Given as goal

-- what is kept so far, with whatever is kept of those that are left
abbrev pub invariant-loop-ctx : goal.invariant-loop-ctx
invariant-loop-ctx g l =
    let s = filled (g.D.DocReader.document l.doc) in
    record {
      kept : (vs : List (Option View)) → AreKeptOf s l.fields l.ctx-iterator.a.rest.now l.ctx-iterator.b.rest.now vs → AreKeptOf s l.fields l.contexts l.users (l.views.items ++ vs);
      seen : AllByRecursion IsSeenIfKept l.views.items;
    }
