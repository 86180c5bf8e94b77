use Rattle.bundle_judge.proofs.rollback.do_one.Given as goal

abbrev pub ghosts-put_alone : goal.ghosts-put_alone
ghosts-put_alone g a = record { name = a.blank.name; parts = a.blank.parts }
