use Rattle.std.proofs.Common.{List, [], ◌∷◌, ◌++◌, sym, ap, subst, ◌∙◌}
use Rattle.doc_model.specs.Document.{Document}
use Rattle.shot_tables.specs.TakingBack.{AllFit, taken_back}
use Rattle.shot_tables.proofs.PutLemmas.{AllFit-last, taken_back-last}
use Rattle.shot_tables.proofs.putting.put_valid.Goals as goal

pub returns-clause-led : goal.returns-clause-led
returns-clause-led g c =
    let fits = g.D.DocTables.fits in
    let undone = g.D.DocTables.undone in
    let t = g.D.DocReader.document c.put.new.self in
    let P : List g.row.D-Back.Denot → Type 0 = λ l. AllFit undone fits l t in
    let Q : Document → Type 0 = λ s. AllFit undone fits c.args.backs.now.items s in
    subst P (sym (c.push_reserved.ensures.items ∙ ap (λ l. l ++ c.in_ok-back.back ∷ []) c.in_ok-reserve.ensures.items))
    (AllFit-last undone fits c.args.backs.now.items c.in_ok-back.back t (subst Q (sym c.in_ok-back.ensures.back) c.requires.led) c.in_ok-back.ensures.fit)

pub returns-clause-back : goal.returns-clause-back
returns-clause-back g c =
    let fits = g.D.DocTables.fits in
    let undone = g.D.DocTables.undone in
    let t = g.D.DocReader.document c.put.new.self in
    ap (λ l. taken_back undone fits l t) (c.push_reserved.ensures.items ∙ ap (λ l. l ++ c.in_ok-back.back ∷ []) c.in_ok-reserve.ensures.items)
    ∙ taken_back-last undone fits c.args.backs.now.items c.in_ok-back.back t
    ∙ ap (taken_back undone fits c.args.backs.now.items) c.in_ok-back.ensures.back
