use Rattle.formula_tests.proofs.values.try_formula.Given as goal

-- the ledger is that of its blank
abbrev pub ghosts-tried : goal.ghosts-tried
ghosts-tried a = record { name = a.blank.name; parts = a.blank.parts }
