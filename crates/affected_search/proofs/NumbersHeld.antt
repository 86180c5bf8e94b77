-- The numbers of what is read are held.
use Rattle.std.proofs.Common.{ℕ, List, [], ◌∷◌}
use Rattle.std.proofs.lemmas.Bool.{or_left, or_right}
use Rattle.std.specs.List.{AllByRecursion}
use Rattle.affected_cells.proofs.Tests.{all_weaker}
use Rattle.dep_graph.specs.declared.numbers.ReadNumber.{ReadNumber}
use Rattle.dep_graph.specs.NumberLaws.{read_itself}
use Rattle.dep_graph.specs.Numbers.{is_read}
use Rattle.dep_graph.specs.Records.{holds}
use Rattle.dep_graph.specs.Sources.{AreNumbers, Source}
use Rattle.affected_search.specs.Noted.{IsHeldSource}

module _ (names : List (List ℕ)) where
  held_more : (numbers : List ReadNumber) (n : ReadNumber) (xs : List Source) → AllByRecursion (IsHeldSource names numbers) xs → AllByRecursion (IsHeldSource names (n ∷ numbers)) xs
  held_more numbers n = all_weaker (IsHeldSource names numbers) (IsHeldSource names (n ∷ numbers)) (λ x h. (h.0, h.1, or_right (is_read h.0 n) (holds numbers h.0) h.2))

  pub numbers_held : (xs : List Source) (numbers : List ReadNumber) → AreNumbers names xs numbers → AllByRecursion (IsHeldSource names numbers) xs
  numbers_held [] numbers h = tt
  numbers_held (x ∷ xs) [] h = absurd h
  numbers_held (x ∷ xs) (n ∷ numbers) h = ((n, h.0, or_left (is_read n n) (holds numbers n) (read_itself n)), held_more numbers n xs (numbers_held xs numbers h.1))
