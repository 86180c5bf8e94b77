-- What it says that members and items were found.
use Rattle.std.proofs.Common.{◌≡◌, ℕ, List, true, Option, Some, None, option_map, option_and_then, is_some, refl, ap, ◌∙◌}
use Rattle.std.proofs.lemmas.Slice.Eq.{bytes_eq-Decides}
use Rattle.std.specs.Str.{bytes_eq}
use Rattle.serde_json.specs.Data.{Data, null, boolean, number, string, array, object, Items, no_items, item, Members, no_members, member}
use Rattle.serde_json.specs.Find.{as_object, as_array, as_str, as_null}
use Rattle.action_lines.specs.Fields.{field, field_text, is_done}
use Rattle.action_lines.specs.Items.{first_item, item_text, is_last}
use Rattle.action_lines.proofs.StepLemmas.{guard_some}

pub object_takes : (d : Data) (ms : Members) → as_object d ≡ Some ms → d ≡ object ms
object_takes null ms e = (cc)
object_takes (boolean b) ms e = (cc)
object_takes (number n) ms e = (cc)
object_takes (string s) ms e = (cc)
object_takes (array ds) ms e = (cc)
object_takes (object ns) ms e = (cc)

pub array_takes : (d : Data) (ds : Items) → as_array d ≡ Some ds → d ≡ array ds
array_takes null ds e = (cc)
array_takes (boolean b) ds e = (cc)
array_takes (number n) ds e = (cc)
array_takes (string s) ds e = (cc)
array_takes (array es) ds e = (cc)
array_takes (object ns) ds e = (cc)

pub text_takes : (d : Data) (t : List ℕ) → as_str d ≡ Some t → d ≡ string t
text_takes null t e = (cc)
text_takes (boolean b) t e = (cc)
text_takes (number n) t e = (cc)
text_takes (string s) t e = (cc)
text_takes (array ds) t e = (cc)
text_takes (object ns) t e = (cc)

pub null_takes : (d : Data) → is_some (as_null d) ≡ true → d ≡ null
null_takes null e = refl
null_takes (boolean b) e = (cc)
null_takes (number n) e = (cc)
null_takes (string s) e = (cc)
null_takes (array ds) e = (cc)
null_takes (object ns) e = (cc)

-- a text of the one spelling that was asked for
pub same_text : (t k : List ℕ) → bytes_eq t k ≡ true → t ≡ k
same_text t k e = (bytes_eq-Decides t k).0 e

pub field_takes : (k : List ℕ) (ms : Members) (d : Data) (rest : Members) → field k ms ≡ Some (d, rest) → ms ≡ member k d rest
field_takes k no_members d rest e = (cc)
field_takes k (member l c ms) d rest e =
    let p = guard_some (bytes_eq l k) (c, ms) (d, rest) e in
    let same : l ≡ k = same_text l k p.0 in
    λ i. member (same i) ((p.1 i).0) ((p.1 i).1)

pub done_takes : (ms : Members) → is_done ms ≡ true → ms ≡ no_members
done_takes no_members e = refl
done_takes (member k d ms) e = (cc)

item_pair : (p q : Data × Items) → Some p ≡ Some q → p ≡ q
item_pair p q e = (cc)

pub item_takes : (ds : Items) (d : Data) (rest : Items) → first_item ds ≡ Some (d, rest) → ds ≡ item d rest
item_takes no_items d rest e = (cc)
item_takes (item c ds) d rest e =
    let p = item_pair (c, ds) (d, rest) e in
    λ i. item ((p i).0) ((p i).1)

pub last_takes : (ds : Items) → is_last ds ≡ true → ds ≡ no_items
last_takes no_items e = refl
last_takes (item d ds) e = (cc)

-- a text among what is left, of members or of items
module _ {R : Type 0} where
  pair_same : (p q : List ℕ × R) → Some p ≡ Some q → p ≡ q
  pair_same p q e = (cc)

  text_and_rest : (o : Option (List ℕ)) (r : R) (t : List ℕ) (rest : R) → option_map {U = List ℕ × R} (λ x. (x, r)) o ≡ Some (t, rest) → (o ≡ Some t) × (r ≡ rest)
  text_and_rest (Some x) r t rest e =
      let p = pair_same (x, r) (t, rest) e in
      (ap (λ q. Some q.0) p, ap (λ q. q.1) p)
  text_and_rest None r t rest e = absurd (cc)

  text_found : (o : Option (Data × R)) (t : List ℕ) (rest : R) → option_and_then {U = List ℕ × R} (λ p. option_map (λ x. (x, p.1)) (as_str p.0)) o ≡ Some (t, rest) → (d : Data) × (o ≡ Some (d, rest)) × (d ≡ string t)
  text_found (Some p) t rest e =
      let q = text_and_rest (as_str p.0) p.1 t rest e in
      (p.0, λ i. Some (p.0, q.1 i), text_takes p.0 t q.0)
  text_found None t rest e = absurd (cc)

pub field_text_takes : (k : List ℕ) (ms : Members) (t : List ℕ) (rest : Members) → field_text k ms ≡ Some (t, rest) → ms ≡ member k (string t) rest
field_text_takes k ms t rest e =
    let p = text_found (field k ms) t rest e in
    field_takes k ms p.0 rest p.1 ∙ ap (λ d. member k d rest) p.2

pub item_text_takes : (ds : Items) (t : List ℕ) (rest : Items) → item_text ds ≡ Some (t, rest) → ds ≡ item (string t) rest
item_text_takes ds t rest e =
    let p = text_found (first_item ds) t rest e in
    item_takes ds p.0 rest p.1 ∙ ap (λ d. item d rest) p.2
