use Rattle.affected_search.proofs.ExactNotes.{dropped_exact, exact, kept_exact, none_exact}
use Rattle.affected_search.proofs.laws.exact_notes_law.Goals as goal

pub returns-clause-exact : goal.returns-clause-exact
returns-clause-exact c = exact

pub returns-clause-kept : goal.returns-clause-kept
returns-clause-kept c = kept_exact

pub returns-clause-dropped : goal.returns-clause-dropped
returns-clause-dropped c = dropped_exact

pub returns-clause-none : goal.returns-clause-none
returns-clause-none c = none_exact
