use Rattle.user_attrs.proofs.LawLemmas.{first_stands, none_is_null, own_stays}
use Rattle.user_attrs.proofs.LeastLemmas.{absent_finds_none, least_found}
use Rattle.user_attrs.proofs.laws.attributes_law.Goals as goal

pub returns : goal.returns
returns c = record {
  least = least_found;
  absent = absent_finds_none;
  own = own_stays;
  first = first_stands;
  null = none_is_null;
}
