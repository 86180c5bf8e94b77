-- Contexts of users that are kept from one bundle to the next, and what users are told by them.
use Rattle.std.specs.Prelude.{ℕ, ◌<◌, ◌≡◌, Bool, cond, List, [], ◌∷◌, length, get_or, position, Option, Some, None}
use Rattle.std.specs.List.{AllByRecursion, list_any}
use Rattle.doc_model.specs.declared.user.User.{User}
use Rattle.doc_model.specs.declared.view.ViewAction.{ViewAction}
use Rattle.doc_model.specs.Document.{Document}
use Rattle.acl_rules.specs.declared.decision.Ctx.{Ctx}
use Rattle.acl_rules.specs.Loaded.{book_of}
use Rattle.user_attrs.specs.Attributes.{attributes_of}
use Rattle.agreeing_contexts.specs.Fields.{mentioned_fields}
use Rattle.rule_contexts.specs.Context.{context}
use Rattle.context_changes.specs.Users.{same_user}
use Rattle.context_changes.specs.declared.known.FoundContext.{FoundContext}
use Rattle.context_changes.specs.declared.known.FoundContext.TheVariants.{Kept, Made}
use Rattle.context_changes.specs.declared.known.KnownContexts.{KnownContexts}

-- the user of a context
abbrev pub user_in : Ctx → User
user_in x = x.user.user

-- each is what is in force for its user in a document
abbrev pub AreInForce : Document → List Ctx → Type 0
AreInForce s xs = AllByRecursion (λ x. x ≡ context (user_in x) s) xs

-- contexts in force, with the attributes that the rules of the document say, and the fields of
-- these that the rules mention
pub record AreKnown (s : Document) (k : KnownContexts) : Type 0 where
  pub attributes : k.attributes ≡ attributes_of s
  pub fields : k.fields ≡ mentioned_fields (book_of s)
  pub contexts : AreInForce s k.contexts.items

-- whether the context of a user is among these
abbrev pub is_known : List Ctx → User → Bool
is_known xs u = list_any (λ (x : Ctx). same_user u (user_in x)) xs

-- the first place where it stands
abbrev pub place_in : List Ctx → User → Option ℕ
place_in xs u = position (λ (x : Ctx). same_user u (user_in x)) xs

-- the context at that place is the user's
pub record IsPlaceOf (xs : List Ctx) (u : User) (place : ℕ) : Type 0 where
  pub within : place < length xs
  pub own : (d : Ctx) → user_in (get_or xs place d) ≡ u

-- this one stands at that place
pub record StandsAt (xs : List Ctx) (place : ℕ) (x : Ctx) : Type 0 where
  pub within : place < length xs
  pub is : (d : Ctx) → get_or xs place d ≡ x

-- the context that was found
abbrev pub found_context : FoundContext → Ctx
found_context (Kept x) = x.now
found_context (Made x) = x

-- what a user is told: what stands beside its context
abbrev pub told_by : List Ctx → List (List ViewAction) → User → List ViewAction
told_by [] told u = []
told_by (x ∷ xs) [] u = []
told_by (x ∷ xs) (l ∷ told) u = cond (same_user u (user_in x)) l (told_by xs told u)
