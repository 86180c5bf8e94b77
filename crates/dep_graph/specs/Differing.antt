-- Where two lists of reads differ.
use Rattle.std.specs.Prelude.{true, ◌||◌, List, ◌≡◌}
use Rattle.dep_graph.specs.declared.numbers.ReadNumber.{ReadNumber}
use Rattle.dep_graph.specs.Records.{holds}

-- parts of two lists, such that what either list has is in the other or in its own part
pub record AreDiffering (left right gone more : List ReadNumber) : Type 0 where
  pub stays : (q : ReadNumber) → holds left q ≡ true → (holds right q || holds gone q) ≡ true
  pub stood : (q : ReadNumber) → holds right q ≡ true → (holds left q || holds more q) ≡ true
  pub of_left : (q : ReadNumber) → holds gone q ≡ true → holds left q ≡ true
  pub of_right : (q : ReadNumber) → holds more q ≡ true → holds right q ≡ true
