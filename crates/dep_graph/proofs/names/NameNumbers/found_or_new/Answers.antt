use Rattle.std.proofs.Common.{ℕ, List, ◌++◌, [], ◌∷◌, Some, None, cond, length, ◌≡◌, subst, sym, ap, ◌∙◌, rules, refl}
use Rattle.std.specs.HashMap.{get_by_text}
use Rattle.std.specs.Str.{bytes_eq}
use Rattle.std.specs.String.{string_bytes}
use Rattle.std.proofs.lemmas.Map.Text.{hash_map_updates_text}
use Rattle.std.proofs.lemmas.Slice.Eq.{bytes_eq-Decides}
use Rattle.dep_graph.specs.Names.{AreNumbered, IsGrown, number_in}
use Rattle.dep_graph.proofs.NameLaws.{added_number, grown_added, numbered_added}
use Rattle.dep_graph.proofs.names.NameNumbers.found_or_new.Goals as goal

items : (c : goal.After-push_reserved) → c.push_reserved.new.self.items ≡ c.self.inside.names.items ++ c.args.name.now ∷ []
items c = search rules

none : (c : goal.After-push_reserved) → number_in c.self.inside.names.items c.args.name.now ≡ None
none c = sym (c.self.invariant.0 c.args.name.now) ∙ ap (get_by_text c.self.inside.numbers) (sym c.as_str.ensures.value) ∙ sym c.in_default.ensures.value

number : (c : goal.After-push_reserved) → c.in-Ok.number ≡ length c.self.inside.names.items
number c = search rules

key : (c : goal.After-push_reserved) → string_bytes c.in_ok-text.text ≡ c.args.name.now
key c = search rules

numbered : (c : goal.After-push_reserved) (q : List ℕ) → get_by_text c.insert.new.self q ≡ number_in c.push_reserved.new.self.items q
numbered c q =
    hash_map_updates_text (string_bytes c.in_ok-text.text) c.self.inside.numbers c.insert.new.self (Some c.in-Ok.number) c.in_ok-insert.ensures.updates q
    ∙ ap (λ bs. cond (bytes_eq bs q) (Some c.in-Ok.number) (get_by_text c.self.inside.numbers q)) (key c)
    ∙ ap (λ o. cond (bytes_eq c.args.name.now q) (Some c.in-Ok.number) o) (c.self.invariant.0 q)
    ∙ ap (λ n. cond (bytes_eq c.args.name.now q) (Some n) (number_in c.self.inside.names.items q)) (number c)
    ∙ sym (added_number c.self.inside.names.items c.args.name.now (none c) q) ∙ ap (λ names. number_in names q) (sym (items c))

pub invariant_of-self-2 : goal.invariant_of-self-2
invariant_of-self-2 c =
    (numbered c, subst AreNumbered (sym (items c)) (numbered_added c.self.inside.names.items c.args.name.now (none c) c.self.invariant.1))

pub returns-clause-ok : goal.returns-clause-ok
returns-clause-ok c =
    ap (λ names. number_in names c.args.name.now) (items c) ∙ added_number c.self.inside.names.items c.args.name.now (none c) c.args.name.now
    ∙ ap (λ b. cond b (Some (length c.self.inside.names.items)) (number_in c.self.inside.names.items c.args.name.now)) ((bytes_eq-Decides c.args.name.now c.args.name.now).1 refl) ∙ ap (λ n. Some n) (sym (number c))

pub returns-clause-grown : goal.returns-clause-grown
returns-clause-grown c =
    subst (λ old. IsGrown old c.push_reserved.new.self.items) c.self.view_is (subst (IsGrown c.self.inside.names.items) (sym (items c)) (grown_added c.self.inside.names.items c.args.name.now (none c)))
