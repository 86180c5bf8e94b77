-- Which words ask for no lanes, which for no generated rows, and which for no audit.
use Rattle.std.proofs.Common.{◌≡◌, ◌≤◌, ℕ, Bool, true, false, cond, codes, List, [], ◌∷◌, length, map, get_or, Option, Some, None, option_map, refl, sym, ap, subst, ◌∙◌, bytes_eq}
use Rattle.std.specs.Prelude.{nat_le, ◌+◌, option_and_then, if◌then◌else◌}
use Rattle.std.proofs.lemmas.Bool.{false≢true}
use Rattle.std.proofs.lemmas.Slice.Eq.{bytes_eq-Decides}
use Rattle.run_words.specs.declared.plans.Plan.{Plan}
use Rattle.run_words.specs.declared.plans.Plan.TheVariants.{Audit, Gen, Serve}
use Rattle.run_words.specs.Options.{Found, nothing_found, number_up_to, options_in}
use Rattle.run_words.specs.ServeWords.{complete, serve_of}
use Rattle.run_words.specs.Words.{audit_of, audit_with, gen_of, is_audit, lanes_of, plan_of, replay_in, replay_of, replay_with, rows_of}
use Rattle.run_words.proofs.AuditLemmas.{audit_as, not_audit}
use Rattle.run_words.proofs.OptionLemmas.{behind_first, first_is}

abbrev serve : List ℕ
serve = codes "serve"

abbrev gen : List ℕ
gen = codes "gen"

abbrev audit : List ℕ
audit = codes "audit"

either : {A : Type 0} {x : A} (f : Option Plan → A) (b : Bool) (p q : Option Plan) → f p ≡ x → f q ≡ x → f (cond b p q) ≡ x
either f true p q left right = left
either f false p q left right = right

-- an audit has no lanes and no rows
none_audited : {A : Type 0} (x : A) (f : Option Plan → A) → f None ≡ x → ((doc : Option (List ℕ)) → f (Some (Audit doc)) ≡ x) → (o : Option Found) → f (option_and_then audit_with o) ≡ x
none_audited x f none some None = none
none_audited x f none some (Some g) = by g.watch refl
  where
    by : (o : Option (List ℕ)) → g.watch ≡ o → f (audit_with g) ≡ x
    by None e = ap f (audit_as g e) ∙ some g.doc
    by (Some name) e = ap f (not_audit g name e) ∙ none

-- ---- lanes

no_lanes_said : (o : Option Found) → lanes_of (option_map replay_with o) ≡ None
no_lanes_said None = refl
no_lanes_said (Some f) = refl

no_lanes_numbered : (o : Option ℕ) → lanes_of (option_map Gen o) ≡ None
no_lanes_numbered None = refl
no_lanes_numbered (Some n) = refl

-- a generated run has none
behind_gen : (options : List (List ℕ)) → lanes_of (gen_of options) ≡ None
behind_gen [] = refl
behind_gen (text ∷ []) = no_lanes_numbered (number_up_to 20000 text)
behind_gen (text ∷ word ∷ more) = refl

-- nor has a replay or an audit
no_lanes : (b : Bool) (word : List ℕ) (options : List (List ℕ)) → b ≡ false → lanes_of (cond b (serve_of options) (cond (bytes_eq word gen) (gen_of options) (cond (bytes_eq word audit) (audit_of options) (replay_in (word ∷ options))))) ≡ None
no_lanes true word options e = absurd (false≢true (sym e))
no_lanes false word options e =
    either lanes_of (bytes_eq word gen) (gen_of options) (cond (bytes_eq word audit) (audit_of options) (replay_in (word ∷ options))) (behind_gen options)
    (either lanes_of (bytes_eq word audit) (audit_of options) (replay_in (word ∷ options)) (none_audited None lanes_of refl (λ doc. refl) (options_in false nothing_found options))
    (either lanes_of (bytes_eq word (codes "replay")) (replay_of options) None (no_lanes_said (options_in false nothing_found options)) refl))

-- ---- rows

no_rows_said : (o : Option Found) → rows_of (option_map replay_with o) ≡ None
no_rows_said None = refl
no_rows_said (Some f) = refl

none_then : {A : Type 0} (next : A → Option Plan) → ((a : A) → rows_of (next a) ≡ None) → (o : Option A) → rows_of (option_and_then next o) ≡ None
none_then next none None = refl
none_then next none (Some a) = none a

none_either : (b : Bool) (lanes port conns : ℕ) (doc watch : Option (List ℕ)) → rows_of (if b then Some (Serve lanes port conns doc watch) else None) ≡ None
none_either true lanes port conns doc watch = refl
none_either false lanes port conns doc watch = refl

-- a server has none
behind_serve : (options : List (List ℕ)) → rows_of (serve_of options) ≡ None
behind_serve options =
    none_then complete (λ f. none_then _ (λ lanes. none_then _ (λ port. none_then _ (λ conns. none_either (nat_le (port + lanes) 65536) lanes port conns f.doc f.watch) f.conns) f.port) f.lanes) (options_in true nothing_found options)

no_rows : (b : Bool) (word : List ℕ) (options : List (List ℕ)) → b ≡ false → rows_of (cond (bytes_eq word serve) (serve_of options) (cond b (gen_of options) (cond (bytes_eq word audit) (audit_of options) (replay_in (word ∷ options))))) ≡ None
no_rows true word options e = absurd (false≢true (sym e))
no_rows false word options e =
    either rows_of (bytes_eq word serve) (serve_of options) (cond (bytes_eq word audit) (audit_of options) (replay_in (word ∷ options))) (behind_serve options)
    (either rows_of (bytes_eq word audit) (audit_of options) (replay_in (word ∷ options)) (none_audited None rows_of refl (λ doc. refl) (options_in false nothing_found options))
    (either rows_of (bytes_eq word (codes "replay")) (replay_of options) None (no_rows_said (options_in false nothing_found options)) refl))

rows_of_gen : (word : List ℕ) (options : List (List ℕ)) → bytes_eq word gen ≡ true → rows_of (plan_of (word ∷ options)) ≡ rows_of (gen_of options)
rows_of_gen word options same = subst (λ w. rows_of (plan_of (w ∷ options)) ≡ rows_of (gen_of options)) (sym ((bytes_eq-Decides word gen).0 same)) refl

-- ---- audits

not_audited : (o : Option Found) → is_audit (option_map replay_with o) ≡ false
not_audited None = refl
not_audited (Some f) = refl

not_numbered : (o : Option ℕ) → is_audit (option_map Gen o) ≡ false
not_numbered None = refl
not_numbered (Some n) = refl

not_behind_gen : (options : List (List ℕ)) → is_audit (gen_of options) ≡ false
not_behind_gen [] = refl
not_behind_gen (text ∷ []) = not_numbered (number_up_to 20000 text)
not_behind_gen (text ∷ word ∷ more) = refl

not_then : {A : Type 0} (next : A → Option Plan) → ((a : A) → is_audit (next a) ≡ false) → (o : Option A) → is_audit (option_and_then next o) ≡ false
not_then next none None = refl
not_then next none (Some a) = none a

not_either : (b : Bool) (lanes port conns : ℕ) (doc watch : Option (List ℕ)) → is_audit (if b then Some (Serve lanes port conns doc watch) else None) ≡ false
not_either true lanes port conns doc watch = refl
not_either false lanes port conns doc watch = refl

not_behind_serve : (options : List (List ℕ)) → is_audit (serve_of options) ≡ false
not_behind_serve options =
    not_then complete (λ f. not_then _ (λ lanes. not_then _ (λ port. not_then _ (λ conns. not_either (nat_le (port + lanes) 65536) lanes port conns f.doc f.watch) f.conns) f.port) f.lanes) (options_in true nothing_found options)

no_audit : (b : Bool) (word : List ℕ) (options : List (List ℕ)) → b ≡ false → is_audit (cond (bytes_eq word serve) (serve_of options) (cond (bytes_eq word gen) (gen_of options) (cond b (audit_of options) (replay_in (word ∷ options))))) ≡ false
no_audit true word options e = absurd (false≢true (sym e))
no_audit false word options e =
    either is_audit (bytes_eq word serve) (serve_of options) (cond (bytes_eq word gen) (gen_of options) (replay_in (word ∷ options))) (not_behind_serve options)
    (either is_audit (bytes_eq word gen) (gen_of options) (replay_in (word ∷ options)) (not_behind_gen options)
    (either is_audit (bytes_eq word (codes "replay")) (replay_of options) None (not_audited (options_in false nothing_found options)) refl))

audit_of_words : (word : List ℕ) (options : List (List ℕ)) → bytes_eq word audit ≡ true → is_audit (plan_of (word ∷ options)) ≡ is_audit (audit_of options)
audit_of_words word options same = subst (λ w. is_audit (plan_of (w ∷ options)) ≡ is_audit (audit_of options)) (sym ((bytes_eq-Decides word audit).0 same)) refl

module _ {S : Type 0} (bytes : S → List ℕ) where
  -- words of another command than `audit` ask for none
  pub no_audit_asked : (ws : List S) (word : S) → 1 ≤ length ws → word ≡ get_or ws 0 word → bytes_eq (bytes word) audit ≡ false → is_audit (plan_of (map bytes ws)) ≡ false
  no_audit_asked ws word some is other =
      ap (λ xs. is_audit (plan_of (map bytes xs))) (first_is bytes ws word some is)
      ∙ no_audit (bytes_eq (bytes word) audit) (bytes word) (map bytes (behind_first bytes ws)) other

  -- words of `audit` ask for what stands behind it
  pub audit_behind : (ws : List S) (word : S) → 1 ≤ length ws → word ≡ get_or ws 0 word → bytes_eq (bytes word) audit ≡ true → is_audit (plan_of (map bytes ws)) ≡ is_audit (audit_of (map bytes (behind_first bytes ws)))
  audit_behind ws word some is same =
      ap (λ xs. is_audit (plan_of (map bytes xs))) (first_is bytes ws word some is)
      ∙ audit_of_words (bytes word) (map bytes (behind_first bytes ws)) same

  -- words of another command than `serve` ask for no lanes
  pub no_lanes_asked : (ws : List S) (word : S) → 1 ≤ length ws → word ≡ get_or ws 0 word → bytes_eq (bytes word) serve ≡ false → lanes_of (plan_of (map bytes ws)) ≡ None
  no_lanes_asked ws word some is other =
      ap (λ xs. lanes_of (plan_of (map bytes xs))) (first_is bytes ws word some is)
      ∙ no_lanes (bytes_eq (bytes word) serve) (bytes word) (map bytes (behind_first bytes ws)) other

  -- words of another command than `gen` ask for no rows
  pub no_rows_asked : (ws : List S) (word : S) → 1 ≤ length ws → word ≡ get_or ws 0 word → bytes_eq (bytes word) gen ≡ false → rows_of (plan_of (map bytes ws)) ≡ None
  no_rows_asked ws word some is other =
      ap (λ xs. rows_of (plan_of (map bytes xs))) (first_is bytes ws word some is)
      ∙ no_rows (bytes_eq (bytes word) gen) (bytes word) (map bytes (behind_first bytes ws)) other

  -- words of `gen` ask for the rows that stand behind it
  pub rows_behind_gen : (ws : List S) (word : S) → 1 ≤ length ws → word ≡ get_or ws 0 word → bytes_eq (bytes word) gen ≡ true → rows_of (plan_of (map bytes ws)) ≡ rows_of (gen_of (map bytes (behind_first bytes ws)))
  rows_behind_gen ws word some is same =
      ap (λ xs. rows_of (plan_of (map bytes xs))) (first_is bytes ws word some is)
      ∙ rows_of_gen (bytes word) (map bytes (behind_first bytes ws)) same
