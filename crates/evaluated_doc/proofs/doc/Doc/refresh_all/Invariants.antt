use Rattle.evaluated_doc.proofs.doc.Doc.refresh_all.Given as goal

abbrev pub ghosts-start_in_levels : goal.ghosts-start_in_levels
ghosts-start_in_levels g a = record { name = a.blank.name; parts = a.blank.parts }
