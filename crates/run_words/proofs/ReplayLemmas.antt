-- Which plans are replays.
use Rattle.std.proofs.Common.{◌≡◌, ℕ, Bool, true, false, cond, codes, List, [], ◌∷◌, Option, Some, None, option_map, refl, sym, ap, subst, ◌∙◌, bytes_eq}
use Rattle.std.specs.Prelude.{is_some, nat_le, ◌+◌, option_and_then, if◌then◌else◌}
use Rattle.std.proofs.lemmas.Slice.Eq.{bytes_eq-Decides}
use Rattle.run_words.specs.declared.plans.Plan.{Plan}
use Rattle.run_words.specs.declared.plans.Plan.TheVariants.{Gen, Serve}
use Rattle.run_words.specs.Options.{Found, nothing_found, number_up_to, options_in}
use Rattle.run_words.specs.ServeWords.{complete, serve_of}
use Rattle.run_words.specs.Words.{audit_of, audit_with, gen_of, is_replay, plan_of, replay_in, replay_of, replay_with}
use Rattle.run_words.proofs.AuditLemmas.{audit_as, not_audit}

none_then : {A : Type 0} (next : A → Option Plan) → ((a : A) → is_replay (next a) ≡ false) → (o : Option A) → is_replay (option_and_then next o) ≡ false
none_then next none None = refl
none_then next none (Some a) = none a

none_either : (b : Bool) (lanes port conns : ℕ) (doc watch : Option (List ℕ)) → is_replay (if b then Some (Serve lanes port conns doc watch) else None) ≡ false
none_either true lanes port conns doc watch = refl
none_either false lanes port conns doc watch = refl

-- a server is no replay
server_apart : (options : List (List ℕ)) → is_replay (serve_of options) ≡ false
server_apart options =
    none_then complete (λ f. none_then _ (λ lanes. none_then _ (λ port. none_then _ (λ conns. none_either (nat_le (port + lanes) 65536) lanes port conns f.doc f.watch) f.conns) f.port) f.lanes) (options_in true nothing_found options)

none_mapped : (o : Option ℕ) → is_replay (option_map Gen o) ≡ false
none_mapped None = refl
none_mapped (Some n) = refl

-- a generated run is no replay
generated_apart : (options : List (List ℕ)) → is_replay (gen_of options) ≡ false
generated_apart [] = refl
generated_apart (text ∷ []) = none_mapped (number_up_to 20000 text)
generated_apart (text ∷ word ∷ more) = refl

said : (o : Option Found) → is_replay (option_map replay_with o) ≡ is_some (option_map replay_with o)
said None = refl
said (Some f) = refl

behind_command : (options : List (List ℕ)) → is_replay (replay_of options) ≡ is_some (replay_of options)
behind_command options = said (options_in false nothing_found options)

alone : (b : Bool) (o : Option Plan) → is_replay o ≡ is_some o → is_replay (cond b o None) ≡ is_some (cond b o None)
alone true o same = same
alone false o same = refl

-- words of the form of a replay ask for one
replays_alone : (words : List (List ℕ)) → is_replay (replay_in words) ≡ is_some (replay_in words)
replays_alone [] = refl
replays_alone (word ∷ options) = alone (bytes_eq word (codes "replay")) (replay_of options) (behind_command options)

-- the words of another command are of no such form
other_command : (word : List ℕ) (options : List (List ℕ)) (command : List ℕ) → bytes_eq command (codes "replay") ≡ false → bytes_eq word command ≡ true → false ≡ is_some (replay_in (word ∷ options))
other_command word options command other same =
    subst (λ w. false ≡ is_some (replay_in (w ∷ options))) (sym ((bytes_eq-Decides word command).0 same)) (ap (λ b. is_some (cond b (replay_of options) None)) (sym other))

audited : (o : Option Found) → is_replay (option_and_then audit_with o) ≡ false
audited o = none_then audit_with audited_with o
  where
    audited_with : (f : Found) → is_replay (audit_with f) ≡ false
    audited_with f = by f.watch refl
      where
        by : (o : Option (List ℕ)) → f.watch ≡ o → is_replay (audit_with f) ≡ false
        by None e = ap is_replay (audit_as f e)
        by (Some name) e = ap is_replay (not_audit f name e)

audited_or_replay : (b : Bool) (word : List ℕ) (options : List (List ℕ)) → bytes_eq word (codes "audit") ≡ b → is_replay (cond b (audit_of options) (replay_in (word ∷ options))) ≡ is_some (replay_in (word ∷ options))
audited_or_replay true word options same = audited (options_in false nothing_found options) ∙ other_command word options (codes "audit") refl same
audited_or_replay false word options same = replays_alone (word ∷ options)

generated_or_replay : (b : Bool) (word : List ℕ) (options : List (List ℕ)) → bytes_eq word (codes "gen") ≡ b → is_replay (cond b (gen_of options) (cond (bytes_eq word (codes "audit")) (audit_of options) (replay_in (word ∷ options)))) ≡ is_some (replay_in (word ∷ options))
generated_or_replay true word options same = generated_apart options ∙ other_command word options (codes "gen") refl same
generated_or_replay false word options same = audited_or_replay (bytes_eq word (codes "audit")) word options refl

of_any_command : (b : Bool) (word : List ℕ) (options : List (List ℕ)) → bytes_eq word (codes "serve") ≡ b → is_replay (cond b (serve_of options) (cond (bytes_eq word (codes "gen")) (gen_of options) (cond (bytes_eq word (codes "audit")) (audit_of options) (replay_in (word ∷ options))))) ≡ is_some (replay_in (word ∷ options))
of_any_command true word options same = server_apart options ∙ other_command word options (codes "serve") refl same
of_any_command false word options same = generated_or_replay (bytes_eq word (codes "gen")) word options refl

-- a replay is asked for exactly by words of its form
pub replay_asked : (words : List (List ℕ)) → is_replay (plan_of words) ≡ is_some (replay_in words)
replay_asked [] = refl
replay_asked (word ∷ options) = of_any_command (bytes_eq word (codes "serve")) word options refl
