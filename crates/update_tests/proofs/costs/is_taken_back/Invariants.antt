use Rattle.update_tests.proofs.costs.is_taken_back.Given as goal

abbrev pub ghosts-change_alone : goal.ghosts-change_alone
ghosts-change_alone a = record { name = a.blank.name; parts = a.blank.parts }
