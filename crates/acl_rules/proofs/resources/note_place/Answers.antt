use Rattle.std.proofs.Common.{◌≡◌, ◌∙◌, ◌++◌, [], ◌∷◌, ap, refl, subst, bytes_eq, cond, List, ℕ, Option, Some, Vec, Global, IsSome, string_bytes}
use Rattle.std.specs.BTreeMap.{get_by_text}
use Rattle.std.proofs.lemmas.Map.Text.{btree_map_updates_text}
use Rattle.acl_rules.specs.Places.{listed}
use Rattle.acl_rules.proofs.PlaceLemmas.{noted_more}
use Rattle.acl_rules.proofs.resources.note_place.Goals as goal

pub returns-in-Some : goal.returns-in-Some
returns-in-Some c = λ other.
    let new = c.get_mut.follows.lender c.push.new.self in
    noted_more (get_by_text c.args.places.now) (get_by_text new) c.args.table.now other c.args.place c.push.new.self
    (btree_map_updates_text c.args.table.now c.args.places.now new (Some c.push.new.self) ((c.get_mut.follows.holds c.push.new.self).3 (subst IsSome c.in-Some.ensures.value refl)) other)
    (c.in_ok-push.ensures.items ∙ ap (λ (l : List ℕ). l ++ c.args.place ∷ []) (ap listed c.in-Some.ensures.value))

pub returns : goal.returns
returns c = λ other.
    let old = c.get_mut.follows.lender-at-none in
    let stays : get_by_text old ≡ get_by_text c.args.places.now = ap get_by_text c.get_mut.follows.holds-at-none in
    noted_more (get_by_text c.args.places.now) (get_by_text c.insert.new.self) c.args.table.now other c.args.place c.push-2.new.self
    (btree_map_updates_text (string_bytes c.in_ok-key.key) old c.insert.new.self (Some c.push-2.new.self) c.in_ok-insert.ensures.updates other
    ∙ ap (λ (t : List ℕ). cond (bytes_eq t other) (Some c.push-2.new.self) (get_by_text old other)) c.in_ok-key.ensures.ok
    ∙ ap (λ (f : List ℕ → Option (Vec ℕ Global)). cond (bytes_eq c.args.table.now other) (Some c.push-2.new.self) (f other)) stays)
    (c.in_ok-push-2.ensures.items ∙ ap (λ (l : List ℕ). l ++ c.args.place ∷ []) (c.new-noted.ensures.items ∙ ap listed c.in_default.ensures.value))
