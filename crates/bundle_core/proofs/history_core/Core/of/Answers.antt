use Rattle.std.proofs.Common.{List, None, rules, subst, sym}
use Rattle.doc_model.specs.declared.entry.Entry.{Entry}
use Rattle.bundle_core.specs.Core.{document_of}
use Rattle.bundle_core.specs.LastChange.{IsLast}
use Rattle.bundle_core.proofs.KeptLaws.{first_kept, opening_told}
use Rattle.bundle_core.proofs.LastChanges.{no_last}
use Rattle.bundle_core.proofs.history_core.Core.of.Goals as goal

pub invariant_of-result : goal.invariant_of-result
invariant_of-result g c =
    let told = g.K.Keeper.records c.args.keeper in
    let start = document_of c.args.loaded.opening in
    let number = c.args.loaded.count in
    let kept = first_kept c.args.users told (g.K.Keeper.failures c.args.keeper) start number c.requires.opens in
    let L : List Entry → Type 0 = λ es. IsLast c.args.users start es c.args.loaded.doc None in (
      record {
        state = search rules;
        whole = search rules;
        counts = search rules;
        by_name = search rules;
        few = search rules;
        few_open = search rules;
        bounded = search rules;
        left = search rules;
      },
      search rules,
      record {
        told = search (rules, kept.told);
        reopens = search rules;
        counted = search rules;
        count = search rules;
      },
      subst L (sym c.new-2.ensures.items) (no_last c.args.users start c.args.loaded.doc),
    )

pub returns : goal.returns
returns g c =
    let told = g.K.Keeper.records c.args.keeper in
    record {
      users = search rules;
      first = search rules;
      number = c.args.loaded.count;
      opens = search rules;
      opening = search (rules, opening_told told (document_of c.args.loaded.opening) c.args.loaded.count c.requires.opens);
      records = search rules;
      later = search rules;
      faults = search rules;
    }
