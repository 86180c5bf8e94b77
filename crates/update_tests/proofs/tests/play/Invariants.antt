use Rattle.update_tests.proofs.tests.play.Given as goal

abbrev pub ghosts-change_alone : goal.ghosts-change_alone
ghosts-change_alone g a = record { name = a.blank.name; parts = a.blank.parts }
