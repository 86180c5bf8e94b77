use Rattle.evaluated_doc.proofs.doc.Doc.refresh.Given as goal

abbrev pub ghosts-refresh_touched : goal.ghosts-refresh_touched
ghosts-refresh_touched g a = record { name = a.blank.name; parts = a.blank.parts }
