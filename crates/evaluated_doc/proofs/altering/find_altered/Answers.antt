use Rattle.std.proofs.Common.{◌≡◌, true, false, ◌∙◌, refl, sym, subst, Result, Ok, Err, IfOk, Vec}
use Rattle.std.specs.Global.{Global}
use Rattle.cell_types.specs.declared.cell.CellId.{CellId}
use Rattle.recalc.specs.Evaluated.{sheet_of}
use Rattle.recalc.specs.Stack.{on}
use Rattle.affected_search.specs.Actions.{KeepsOthers}
use Rattle.affected_search.specs.ByAction.{FindsAffected}
use Rattle.affected_search.specs.ExactNotes.{HasNotes}
use Rattle.affected_search.specs.Sheets.{is_found}
use Rattle.evaluated_doc.specs.Altering.{IsAltered}
use Rattle.evaluated_doc.proofs.SpentLemmas.{named_altered}
use Rattle.evaluated_doc.proofs.altering.find_altered.Goals as goal

all_three : {A E : Type 0} {P Q R S : A → Type 0} (r : Result A E) → ((x : A) → P x → Q x → R x → S x) → IfOk r P → IfOk r Q → IfOk r R → IfOk r S
all_three (Ok x) f p q r = f x p q r
all_three (Err e) f p q r = tt

pub returns : goal.returns
returns g c =
    let s = g.D.DocReader.document c.args.tables.now in
    let a = c.args.action.now in
    let found = c.in_ok-found.found in
    let has : HasNotes c.graph.result.now (sheet_of s) = subst (λ gr. HasNotes gr (sheet_of s)) (sym c.graph.ensures) c.requires.known.each in
    let keeps : KeepsOthers s c.args.reads.now.graph a found = subst (λ gr. KeepsOthers s gr a found) c.graph.ensures (c.in_ok-found.ensures.others c.requires.whole has) in
    let finds : FindsAffected s c.graph-2.result.now a found = subst (λ gr. FindsAffected s gr a found) (c.graph.ensures ∙ sym c.graph-2.ensures) (c.in_ok-found.ensures.only c.requires.whole has) in
    record {
      found = all_three {S = λ (v : Vec CellId Global). IsAltered s c.args.reads.now.graph a v.items} c.named_with.result (λ (v : Vec CellId Global) named altered only. record {
        cells = record {
          found = record { found = found; keeps = keeps; named = subst (λ gr. (d : CellId) → is_found gr found d ≡ true → on v.items d ≡ true) c.graph-2.ensures named };
          altered = altered;
        };
        only = named_altered c.altered_law.ensures s a c.graph-2.result.now found v.items (λ ok. record { whole = c.requires.whole; schema = c.requires.schema; ok = ok; done = refl }) finds only;
      }) c.named_with.ensures.named c.named_with.ensures.altered c.named_with.ensures.only;
    }
