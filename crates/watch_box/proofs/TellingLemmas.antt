-- Lines told to the watchers of a list, one after the other.
use Rattle.std.proofs.Common.{◌≡◌, inl, inr, arith, ℕ, ◌+◌, ◌<◌, List, [], ◌∷◌, ◌++◌, sym, ap, subst, refl, ◌∙◌, append_assoc, append-nil, length, Option}
use Rattle.std.proofs.lemmas.List.{length-append}
use Rattle.watch_box.specs.Watching.{WatcherState, Stays, IsDropped, Tells}

module _ (line_of : List ℕ → Option (List ℕ)) where
  Tells-append : (old new old_more new_more : List WatcherState) → Tells line_of old new → Tells line_of old_more new_more → Tells line_of (old ++ old_more) (new ++ new_more)
  Tells-append [] new old_more new_more a b = subst (λ z. Tells line_of old_more (z ++ new_more)) (sym a) b
  Tells-append (w ∷ ws) new old_more new_more (inl (now, rest, is, stays, more)) b =
      inl (now, rest ++ new_more, ap (λ z. z ++ new_more) is, stays, Tells-append ws rest old_more new_more more b)
  Tells-append (w ∷ ws) new old_more new_more (inr (dropped, more)) b =
      inr (dropped, Tells-append ws new old_more new_more more b)

  -- the watchers before the place have been told, and those from it on are as they were
  pub record ToldUpTo (all current : List WatcherState) (place : ℕ) : Type 0 where
    pub told : List WatcherState
    pub now : List WatcherState
    pub back : List WatcherState
    pub before : all ≡ told ++ back
    pub after : current ≡ now ++ back
    pub here : length now ≡ place
    pub tells : Tells line_of told now

  pub told_none_yet : (all : List WatcherState) → ToldUpTo all all 0
  told_none_yet all = record { told = []; now = []; back = all; before = refl; after = refl; here = refl; tells = refl }

  module _ (all current new : List WatcherState) (place : ℕ) where
    -- nothing is behind the place
    ends : (t : ToldUpTo all current place) → t.back ≡ [] → length current ≡ place
    ends t e = ap length (t.after ∙ ap (λ b. t.now ++ b) e ∙ append-nil t.now) ∙ t.here

    pub told_stays : ToldUpTo all current place → place < length current → ((told front back : List WatcherState) (w : WatcherState) → all ≡ told ++ w ∷ back → current ≡ front ++ w ∷ back → length front ≡ place → (now : WatcherState) × Stays (line_of w.session) w now × (new ≡ front ++ now ∷ back)) → ToldUpTo all new (place + 1)
    told_stays t inside stays = elim t.back as (λ b. t.back ≡ b → ToldUpTo all new (place + 1)) [
      | [] ↦ λ e. let l : length current ≡ place = ends t e in absurd (omega arith)
      | w ∷ back ↦ λ e.
          let s = stays t.told t.now back w (t.before ∙ ap (λ b. t.told ++ b) e) (t.after ∙ ap (λ b. t.now ++ b) e) t.here in
          record {
            told = t.told ++ w ∷ [];
            now = t.now ++ s.0 ∷ [];
            back = back;
            before = t.before ∙ ap (λ b. t.told ++ b) e ∙ sym (append_assoc t.told (w ∷ []) back);
            after = s.2 ∙ sym (append_assoc t.now (s.0 ∷ []) back);
            here = length-append t.now (s.0 ∷ []) ∙ ap (λ n. n + 1) t.here;
            tells = Tells-append t.told t.now (w ∷ []) (s.0 ∷ []) t.tells (inl (s.0, [], refl, s.1, refl));
          }
    ] refl

    pub told_drops : ToldUpTo all current place → place < length current → ((told front back : List WatcherState) (w : WatcherState) → all ≡ told ++ w ∷ back → current ≡ front ++ w ∷ back → length front ≡ place → IsDropped (line_of w.session) w × (new ≡ front ++ back)) → ToldUpTo all new place
    told_drops t inside drops = elim t.back as (λ b. t.back ≡ b → ToldUpTo all new place) [
      | [] ↦ λ e. let l : length current ≡ place = ends t e in absurd (omega arith)
      | w ∷ back ↦ λ e.
          let s = drops t.told t.now back w (t.before ∙ ap (λ b. t.told ++ b) e) (t.after ∙ ap (λ b. t.now ++ b) e) t.here in
          record {
            told = t.told ++ w ∷ [];
            now = t.now ++ [];
            back = back;
            before = t.before ∙ ap (λ b. t.told ++ b) e ∙ sym (append_assoc t.told (w ∷ []) back);
            after = s.1 ∙ ap (λ b. b ++ back) (sym (append-nil t.now));
            here = ap length (append-nil t.now) ∙ t.here;
            tells = Tells-append t.told t.now (w ∷ []) [] t.tells (inr (s.0, refl));
          }
    ] refl

    told_none : (t : ToldUpTo all current place) → t.back ≡ [] → Tells line_of all current
    told_none t e =
        let p : all ≡ t.told = t.before ∙ ap (λ b. t.told ++ b) e ∙ append-nil t.told in
        let q : current ≡ t.now = t.after ∙ ap (λ b. t.now ++ b) e ∙ append-nil t.now in
        subst (λ a. Tells line_of a current) (sym p) (subst (λ n. Tells line_of t.told n) (sym q) t.tells)

    told_some : (t : ToldUpTo all current place) (w : WatcherState) (back : List WatcherState) → t.back ≡ w ∷ back → place < length current
    told_some t w back e =
        let l : length current ≡ length t.now + length (w ∷ back) = ap length (t.after ∙ ap (λ b. t.now ++ b) e) ∙ length-append t.now (w ∷ back) in
        let h : length t.now ≡ place = t.here in
        omega arith

    pub told_all : ToldUpTo all current place → (place < length current → ⊥) → Tells line_of all current
    told_all t outside = elim t.back as (λ b. t.back ≡ b → Tells line_of all current) [
      | [] ↦ λ e. told_none t e
      | w ∷ back ↦ λ e. absurd (outside (told_some t w back e))
    ] refl
