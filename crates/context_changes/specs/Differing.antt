-- Users of whom the rules know something else after a bundle: what they saw before it is kept, and
-- they are told from that. All others are told by the rows that the bundle touched.
use Rattle.std.specs.Prelude.{◌≡◌, ℕ, zero, suc, List, [], ◌∷◌, Option, Some, None, IfSome}
use Rattle.doc_model.specs.declared.view.View.{View}
use Rattle.doc_model.specs.declared.view.ViewAction.{ViewAction}
use Rattle.doc_model.specs.Changes.{changes}
use Rattle.doc_model.specs.Document.{Document}
use Rattle.recalc.specs.Evaluated.{filled}
use Rattle.acl_formula.specs.declared.user_info.UserInfo.{UserInfo}
use Rattle.acl_rules.specs.declared.decision.Ctx.{Ctx}
use Rattle.agreeing_contexts.specs.Agreement.{AreSameIn}
use Rattle.agreeing_contexts.specs.declared.field.UserField.{UserField}
use Rattle.rule_contexts.specs.Context.{context}
use Rattle.context_changes.specs.Known.{user_in}
use Rattle.context_changes.specs.Told.{IsSeen, seen_by, view_of}

-- what is kept of a context where this is known of its user now: nothing where rules that ask for
-- these fields get the same, and otherwise what it shows of the document
abbrev pub IsKeptOf : Document → List UserField → Ctx → UserInfo → Option View → Type 0
IsKeptOf s fields x u None = AreSameIn fields x.user u
IsKeptOf s fields x u (Some v) = v ≡ view_of s x

-- and so of each context, place by place
abbrev pub AreKeptOf
    : Document → List UserField → List Ctx → List UserInfo → List (Option View) → Type 0
AreKeptOf s fields [] us vs = Unit {0}
AreKeptOf s fields (x ∷ xs) [] vs = Unit {0}
AreKeptOf s fields (x ∷ xs) (u ∷ us) [] = ⊥
AreKeptOf s fields (x ∷ xs) (u ∷ us) (v ∷ vs) =
    IsKeptOf s fields x u v × AreKeptOf s fields xs us vs

abbrev pub IsSeenIfKept : Option View → Type 0
IsSeenIfKept v = IfSome v IsSeen

-- what is told beside a context of a bundle to this document: the changes since what is kept, and
-- where nothing is, what was told by the rows
abbrev pub told_with : Document → Ctx → Option View → List ViewAction → List ViewAction
told_with t x None l = l
told_with t x (Some v) l = changes v.tables (seen_by (filled t) (context (user_in x) t))

-- and so beside each context
abbrev pub all_told_with
    : Document → List Ctx → List (Option View) → List (List ViewAction) → List (List ViewAction)
all_told_with t [] vs told = told
all_told_with t (x ∷ xs) [] told = told
all_told_with t (x ∷ xs) (v ∷ vs) [] = []
all_told_with t (x ∷ xs) (v ∷ vs) (l ∷ told) = told_with t x v l ∷ all_told_with t xs vs told

-- beside the one at a place alone
abbrev pub told_with_at
    : Document → List Ctx → ℕ → Option View → List (List ViewAction) → List (List ViewAction)
told_with_at t [] i v told = told
told_with_at t (x ∷ xs) i v [] = []
told_with_at t (x ∷ xs) zero v (l ∷ told) = told_with t x v l ∷ told
told_with_at t (x ∷ xs) (suc i) v (l ∷ told) = l ∷ told_with_at t xs i v told
