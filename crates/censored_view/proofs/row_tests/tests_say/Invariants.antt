use Rattle.std.proofs.Common.{◌≡◌, drop}
use Rattle.censored_view.specs.RowTests.{tests_say}
use Rattle.censored_view.proofs.row_tests.tests_say.Given as goal

-- the tests that are left decide
abbrev pub invariant-loop-test : goal.invariant-loop-test
invariant-loop-test g l = tests_say l.user (g.W.RowReader.told l.row) (drop l.test-index l.tests) ≡ tests_say l.user (g.W.RowReader.told l.row) l.tests
