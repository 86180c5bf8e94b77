-- What is known of the rules after a bundle, beside what was known before it.
use Rattle.std.specs.Prelude.{◌≡◌, ℕ, zero, suc, List, [], ◌∷◌, map}
use Rattle.doc_model.specs.Document.{Document}
use Rattle.recalc.specs.Evaluated.{filled}
use Rattle.acl_formula.specs.declared.user_info.UserInfo.{UserInfo}
use Rattle.acl_rules.specs.declared.decision.Ctx.{Ctx}
use Rattle.acl_rules.specs.Loaded.{book_of}
use Rattle.user_attrs.specs.Attributes.{attributes_of}
use Rattle.user_attrs.specs.UserInfos.{user_info}
use Rattle.agreeing_contexts.specs.Agreement.{AreSameIn}
use Rattle.agreeing_contexts.specs.Fields.{mentioned_fields}
use Rattle.agreeing_contexts.specs.declared.field.UserField.{UserField}
use Rattle.context_changes.specs.Known.{AreInForce, AreKnown, user_in}
use Rattle.context_changes.specs.declared.known.KnownContexts.{KnownContexts}
use Rattle.context_changes.specs.declared.renewal.Renewal.{Renewal}
use Rattle.context_changes.specs.declared.renewal.Renewal.TheVariants.{Same, Users, All}

-- what the rules of a document know of the users of these contexts
abbrev pub users_now : Document → List Ctx → List UserInfo
users_now s xs = map (λ x. user_info (attributes_of s) (user_in x) (filled s)) xs

-- the contexts, with these in the place of their users
abbrev pub with_users_now : List Ctx → List UserInfo → List Ctx
with_users_now [] us = []
with_users_now (x ∷ xs) [] = x ∷ xs
with_users_now (x ∷ xs) (u ∷ us) = record { book = x.book; user = u } ∷ with_users_now xs us

-- the contexts, with this one in the place of the user of the one at a place
abbrev pub with_user_at : List Ctx → ℕ → UserInfo → List Ctx
with_user_at [] i u = []
with_user_at (x ∷ xs) zero u = record { book = x.book; user = u } ∷ xs
with_user_at (x ∷ xs) (suc i) u = x ∷ with_user_at xs i u

-- rules that ask for these fields get the same now of the user of each context
abbrev pub AreAllSame : List UserField → List Ctx → List UserInfo → Type 0
AreAllSame fields [] us = Unit {0}
AreAllSame fields (x ∷ xs) [] = Unit {0}
AreAllSame fields (x ∷ xs) (u ∷ us) = AreSameIn fields x.user u × AreAllSame fields xs us

-- what is known, with these in the place of its users
pub record AreRenewed (s : Document) (k : KnownContexts) (us : List UserInfo) : Type 0 where
  pub attributes : k.attributes ≡ attributes_of s
  pub fields : k.fields ≡ mentioned_fields (book_of s)
  pub contexts : AreInForce s (with_users_now k.contexts.items us)

-- what is known of a document by what was known before, and by what is new
abbrev pub IsRenewal : Document → KnownContexts → Renewal → Type 0
IsRenewal s k Same = AreKnown s k
IsRenewal s k (Users us) = AreRenewed s k us.items
IsRenewal s k (All next) = AreKnown s next
