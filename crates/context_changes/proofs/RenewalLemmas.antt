-- Contexts whose users are looked up anew, and what their users are told.
use Rattle.std.proofs.Common.{ℕ, zero, suc, ◌<◌, true, List, [], ◌∷◌, ◌++◌, length, map, get_or, set, Option, Some, None, ◌≡◌, refl, sym, ap, subst, ◌∙◌, arith}
use Rattle.doc_model.specs.declared.user.User.{User}
use Rattle.doc_model.specs.declared.view.ViewAction.{ViewAction}
use Rattle.doc_model.specs.declared.view.View.{View}
use Rattle.doc_model.specs.Changes.{changes}
use Rattle.doc_model.specs.Document.{Document}
use Rattle.recalc.specs.Evaluated.{filled}
use Rattle.acl_formula.specs.declared.user_info.UserInfo.{UserInfo}
use Rattle.acl_rules.specs.declared.decision.Ctx.{Ctx}
use Rattle.acl_rules.specs.Loaded.{book_of}
use Rattle.censored_view.specs.Readable.{Readable}
use Rattle.censored_view.specs.View.{view as shown_by}
use Rattle.acl_reading.specs.RulesLet.{rules_let}
use Rattle.user_attrs.specs.Attributes.{attributes_of}
use Rattle.user_attrs.specs.UserInfos.{user_info}
use Rattle.agreeing_contexts.specs.Agreement.{Agree, AreSameIn}
use Rattle.agreeing_contexts.specs.AgreementLaws.{ReadingLaw}
use Rattle.agreeing_contexts.specs.Fields.{mentioned_fields}
use Rattle.agreeing_contexts.specs.declared.field.UserField.{UserField}
use Rattle.rule_contexts.specs.ChangedContexts.{HaveOneBook}
use Rattle.rule_contexts.specs.Context.{context, view}
use Rattle.context_changes.specs.Known.{AreInForce, AreKnown, is_known, told_by, user_in}
use Rattle.context_changes.specs.Differing.{AreKeptOf, all_told_with}
use Rattle.context_changes.specs.Renewal.{AreAllSame, AreRenewed, users_now, with_user_at, with_users_now}
use Rattle.context_changes.specs.Told.{seen_by, told_of}
use Rattle.context_changes.specs.declared.known.KnownContexts.{KnownContexts}
use Rattle.context_changes.proofs.KnownLemmas.{told_mapped}

-- ---- users put in their places

pub none_put : (xs : List Ctx) → with_users_now xs [] ≡ xs
none_put [] = refl
none_put (x ∷ xs) = refl

-- the last user first
pub put_last : (xs : List Ctx) (us : List UserInfo) (u : UserInfo) → with_users_now (with_user_at xs (length us) u) us ≡ with_users_now xs (us ++ u ∷ [])
put_last [] [] u = refl
put_last [] (v ∷ us) u = refl
put_last (x ∷ xs) [] u = ap (λ l. (let y : Ctx = record { book = x.book; user = u } in y) ∷ l) (sym (none_put xs))
put_last (x ∷ xs) (v ∷ us) u = ap (λ l. (let y : Ctx = record { book = x.book; user = v } in y) ∷ l) (put_last xs us u)

-- as the code puts it, whatever stands in for the element at a place past the end
pub put_within : (xs : List Ctx) (i : ℕ) (d : Ctx) (u : UserInfo) → i < length xs → set xs i (let y : Ctx = record { book = (get_or xs i d).book; user = u } in y) ≡ with_user_at xs i u
put_within [] i d u lt = absurd (omega (arith, lt))
put_within (z ∷ xs) zero d u lt = refl
put_within (z ∷ xs) (suc i) d u lt = ap (λ l. z ∷ l) (put_within xs i d u (omega (arith, lt)))

pub put_past : (xs : List Ctx) (i : ℕ) (u : UserInfo) → (i < length xs → ⊥) → xs ≡ with_user_at xs i u
put_past [] i u past = refl
put_past (z ∷ xs) zero u past = absurd (past (omega arith))
put_past (z ∷ xs) (suc i) u past = ap (λ l. z ∷ l) (put_past xs i u (λ lt. past (omega (arith, lt))))

-- ---- users that are compared place by place

module _ (fields : List UserField) (xs more : List Ctx) (us others : List UserInfo) (x : Ctx) (u : UserInfo) (left : xs ≡ x ∷ more) (right : us ≡ u ∷ others) where
  begins : AreSameIn fields x.user u → AreAllSame fields more others → AreAllSame fields xs us
  begins same rest = subst (λ l. AreAllSame fields l us) (sym left) (subst (λ l. AreAllSame fields (x ∷ more) l) (sym right) (same, rest))

  parted : AreAllSame fields xs us → AreSameIn fields x.user u × AreAllSame fields more others
  parted all = subst (λ l. AreAllSame fields (x ∷ more) l) right (subst (λ l. AreAllSame fields l us) left all)

  pub same_next : (all : Type 0) → (AreAllSame fields xs us → all) × (all → AreAllSame fields xs us) → AreSameIn fields x.user u → (AreAllSame fields more others → all) × (all → AreAllSame fields more others)
  same_next all so_far same = (λ rest. so_far.0 (begins same rest), λ h. (parted (so_far.1 h)).1)

  pub same_first : AreAllSame fields xs us → AreSameIn fields x.user u
  same_first all = (parted all).0

pub none_left : (fields : List UserField) (xs : List Ctx) (us : List UserInfo) → length xs ≡ 0 → AreAllSame fields xs us
none_left fields [] us e = tt
none_left fields (x ∷ xs) us e = absurd (omega (arith, e))

pub none_beside : (fields : List UserField) (xs : List Ctx) (us : List UserInfo) → length us ≡ 0 → AreAllSame fields xs us
none_beside fields [] us e = tt
none_beside fields (x ∷ xs) [] e = tt
none_beside fields (x ∷ xs) (u ∷ us) e = absurd (omega (arith, e))

-- ---- bundles that leave the rules as they are

module _ (s t : Document) (one : HaveOneBook t s) where
  -- with the users looked up anew they are in force after it
  in_force_now : (xs : List Ctx) → AreInForce s xs → AreInForce t (with_users_now xs (users_now t xs))
  in_force_now [] all = tt
  in_force_now (x ∷ xs) all =
      (λ i. record { book = (ap (λ (y : Ctx). y.book) all.0 ∙ sym one.book) i; user = user_info (attributes_of t) (user_in x) (filled t) }, in_force_now xs all.1)

  pub renewed_now : (k : KnownContexts) (us : List UserInfo) → AreKnown s k → us ≡ users_now t k.contexts.items → AreRenewed t k us
  renewed_now k us is made = record {
    attributes = is.attributes ∙ sym one.attributes;
    fields = is.fields ∙ ap mentioned_fields (sym one.book);
    contexts = subst (λ vs. AreInForce t (with_users_now k.contexts.items vs)) (sym made) (in_force_now k.contexts.items is.contexts);
  }

  module _ (reading : ReadingLaw) where
    -- a context whose user is the same in what is mentioned lets read what the next one does
    reads_same : (x : Ctx) → x ≡ context (user_in x) s → AreSameIn (mentioned_fields (book_of s)) x.user (user_info (attributes_of t) (user_in x) (filled t)) → rules_let x ≡ rules_let (context (user_in x) t)
    reads_same x is same = reading x (context (user_in x) t) (record {
      book = ap (λ (y : Ctx). y.book) is ∙ sym one.book;
      user = refl;
      fields = subst (λ fs. AreSameIn fs x.user (user_info (attributes_of t) (user_in x) (filled t))) (ap (λ (y : Ctx). mentioned_fields y.book) (sym is)) same;
    })

    shows_same : (x : Ctx) → x ≡ context (user_in x) s → AreSameIn (mentioned_fields (book_of s)) x.user (user_info (attributes_of t) (user_in x) (filled t)) → seen_by (filled t) x ≡ seen_by (filled t) (context (user_in x) t)
    shows_same x is same = ap (λ (r : List ℕ → Readable). shown_by r (filled t)) (reads_same x is same)

    told_same : (xs : List Ctx) → AreInForce s xs → AreAllSame (mentioned_fields (book_of s)) xs (users_now t xs)
        → map (λ x. told_of (filled s) (filled t) x x) xs ≡ map (λ x. told_of (filled s) (filled t) x (context (user_in x) t)) xs
    told_same [] all same = refl
    told_same (x ∷ xs) all same =
        λ i. changes (seen_by (filled s) x) (shows_same x all.0 same.0 i) ∷ told_same xs all.1 same.1 i

    -- by the rows that were touched: the changes of what the user sees
    pub told_agreeing : (k : KnownContexts) (us : List UserInfo) (told : List (List ViewAction)) (u : User) → AreKnown s k → us ≡ users_now t k.contexts.items
        → AreAllSame k.fields k.contexts.items us → is_known k.contexts.items u ≡ true
        → told ≡ map (λ x. told_of (filled s) (filled t) x x) k.contexts.items → told_by k.contexts.items told u ≡ changes (view u s) (view u t)
    told_agreeing k us told u is made same among as_told =
        let alike : AreAllSame (mentioned_fields (book_of s)) k.contexts.items (users_now t k.contexts.items) =
        subst (λ vs. AreAllSame (mentioned_fields (book_of s)) k.contexts.items vs) made (subst (λ fs. AreAllSame fs k.contexts.items us) is.fields same) in
        ap (λ l. told_by k.contexts.items l u) (as_told ∙ told_same k.contexts.items is.contexts alike)
        ∙ told_mapped (λ x. told_of (filled s) (filled t) x (context (user_in x) t)) s k.contexts.items u is.contexts among

    told_each : (xs : List Ctx) (vs : List (Option View)) → AreInForce s xs → AreKeptOf (filled s) (mentioned_fields (book_of s)) xs (users_now t xs) vs
        → all_told_with t xs vs (map (λ x. told_of (filled s) (filled t) x x) xs) ≡ map (λ x. told_of (filled s) (filled t) x (context (user_in x) t)) xs
    told_each [] vs all kept = refl
    told_each (x ∷ xs) [] all kept = absurd kept
    told_each (x ∷ xs) (None ∷ vs) all kept =
        λ i. changes (seen_by (filled s) x) (shows_same x all.0 kept.0 i) ∷ told_each xs vs all.1 kept.1 i
    told_each (x ∷ xs) (Some v ∷ vs) all kept =
        λ i. changes (ap (λ (w : View). w.tables) kept.0 i) (seen_by (filled t) (context (user_in x) t)) ∷ told_each xs vs all.1 kept.1 i

    -- and those who differ from what they saw
    pub told_apart : (k : KnownContexts) (us : List UserInfo) (vs : List (Option View)) (rows told : List (List ViewAction)) (u : User) → AreKnown s k → us ≡ users_now t k.contexts.items
        → AreKeptOf (filled s) k.fields k.contexts.items us vs → is_known k.contexts.items u ≡ true
        → rows ≡ map (λ x. told_of (filled s) (filled t) x x) k.contexts.items → told ≡ all_told_with t k.contexts.items vs rows
        → told_by k.contexts.items told u ≡ changes (view u s) (view u t)
    told_apart k us vs rows told u is made kept among by_rows as_told =
        let alike : AreKeptOf (filled s) (mentioned_fields (book_of s)) k.contexts.items (users_now t k.contexts.items) vs =
        subst (λ ws. AreKeptOf (filled s) (mentioned_fields (book_of s)) k.contexts.items ws vs) made (subst (λ fs. AreKeptOf (filled s) fs k.contexts.items us vs) is.fields kept) in
        ap (λ l. told_by k.contexts.items l u) (as_told ∙ ap (all_told_with t k.contexts.items vs) by_rows ∙ told_each k.contexts.items vs is.contexts alike)
        ∙ told_mapped (λ x. told_of (filled s) (filled t) x (context (user_in x) t)) s k.contexts.items u is.contexts among
