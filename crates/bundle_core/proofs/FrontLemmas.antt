-- The front of what a user is told, at the place of the user's context.
use Rattle.std.proofs.Common.{ℕ, List, [], length, map, get_or, nat_lt, slice_get, ◌≡◌, refl, sym, ap, ◌∙◌, Option, Some, None, option_and_then, option_map, unwrap_or, is_some, Bor, IfSome, MatchOption}
use Rattle.std.proofs.lemmas.Bool.{ltb-false, ltb-true}
use Rattle.std.proofs.lemmas.Option.{slice_get-map, slice_get_past, slice_get_read}
use Rattle.doc_model.specs.declared.user.User.{User}
use Rattle.doc_model.specs.declared.view.ViewAction.{ViewAction}
use Rattle.acl_rules.specs.declared.decision.Ctx.{Ctx}
use Rattle.context_changes.specs.Known.{place_in, told_by}
use Rattle.context_changes.proofs.KnownLemmas.{told_found, told_missing}
use Rattle.bundle_core.specs.Fronts.{front_of}

told_or_none : (o : Option (List ViewAction)) → option_and_then (λ f. f) (option_map front_of o) ≡ front_of (unwrap_or o [])
told_or_none None = refl
told_or_none (Some actions) = refl

-- the front at the place of the user's context, among those of what is told
front_found : (xs : List Ctx) (told : List (List ViewAction)) (fronts : List (Option (List ℕ))) (u : User) (place : ℕ) → fronts ≡ map front_of told → place_in xs u ≡ Some place
    → option_and_then (λ f. f) (slice_get fronts place) ≡ front_of (told_by xs told u)
front_found xs told fronts u place are at =
    ap (λ fs. option_and_then (λ f. f) (slice_get fs place)) are
    ∙ ap (option_and_then (λ f. f)) (slice_get-map front_of told place)
    ∙ told_or_none (slice_get told place)
    ∙ ap front_of (sym (told_found xs told u place at))

-- what a look into the fronts finds at that place
pub front_beside : (xs : List Ctx) (told : List (List ViewAction)) (fronts : List (Option (List ℕ))) (u : User) (place : ℕ) (o : Option (Bor (Option (List ℕ)))) → fronts ≡ map front_of told → place_in xs u ≡ Some place
    → is_some o ≡ nat_lt place (length fronts) → IfSome o (λ x. x.now ≡ get_or fronts place x.now) → MatchOption o (None ≡ front_of (told_by xs told u)) (λ x. x.now ≡ front_of (told_by xs told u))
front_beside xs told fronts u place None are at inside same =
    sym (ap (option_and_then (λ f. f)) (slice_get_past fronts place (ltb-false place (length fronts) (sym inside)))) ∙ front_found xs told fronts u place are at
front_beside xs told fronts u place (Some x) are at inside same =
    sym (ap (option_and_then (λ f. f)) (slice_get_read fronts (length fronts) place x.now refl (ltb-true place (length fronts) (sym inside)) same)) ∙ front_found xs told fronts u place are at

pub front_missing : (xs : List Ctx) (told : List (List ViewAction)) (u : User) → place_in xs u ≡ None → None ≡ front_of (told_by xs told u)
front_missing xs told u none = sym (ap front_of (told_missing xs told u none))
