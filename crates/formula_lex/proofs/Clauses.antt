-- What the clauses of `tokens` say.
use Rattle.std.specs.Prelude.{ℕ, ◌≡◌, List, [], length, Result, Ok, Err, IfOk, IfErr, refl}
use Rattle.std.specs.List.{All}
use Rattle.std.specs.Str.{chars, IsUtf8, encode_utf8_all}
use Rattle.std.proofs.Common.{sym, ◌∙◌, ap, zero-add}
use Rattle.std.proofs.lemmas.Option.{none-some, same_Some}
use Rattle.std.proofs.lemmas.Str.{chars-encodes}
use Rattle.formula_lex.specs.declared.fault.LexFault.{LexFault}
use Rattle.formula_lex.specs.declared.fault.LexFault.TheVariants.{Bad, NoMemory}
use Rattle.formula_lex.specs.declared.token.Token.{Token}
use Rattle.formula_lex.specs.Machine.{tokens_in}
use Rattle.formula_lex.specs.Spelling.{text_len, SpellsText, FitsFault}
use Rattle.formula_lex.specs.Places.{IsInOrder, IsSlice}
use Rattle.formula_lex.specs.Lexed.{GivesWithin}
use Rattle.formula_lex.proofs.Sound.{read_spelled}
use Rattle.formula_lex.proofs.Complete.{spelled_read}
use Rattle.formula_lex.proofs.PlaceLemmas.{spelled_in_order, spelled_slices}
use Rattle.formula_lex.proofs.Turns.{text_len-chars}

chars_back : (text : List ℕ) → IsUtf8 text → text ≡ encode_utf8_all (chars text)
chars_back text u = sym (ap encode_utf8_all (ap chars (sym u.1.1) ∙ chars-encodes u.0 u.1.0) ∙ u.1.1)

module _ (text : List ℕ) where
  -- what `run` says
  abbrev pub HasRun : Result (List Token) LexFault → Type 0
  HasRun r = GivesWithin (length text) (λ list. list) r (tokens_in (chars text))

  pub spells : (r : Result (List Token) LexFault) → HasRun r → IfOk r (λ list. SpellsText text list)
  unfolding SpellsText
  spells (Ok list) g = read_spelled (chars text) list g
  spells (Err s) g = tt

  pub only : (r : Result (List Token) LexFault) → HasRun r → IfOk r (λ list. (other : List Token) → SpellsText text other → other ≡ list)
  unfolding SpellsText
  only (Ok list) g = λ other s. same_Some _ _ (sym (spelled_read (chars text) other s) ∙ g)
  only (Err s) g = tt

  pub in_order : IsUtf8 text → (r : Result (List Token) LexFault) → HasRun r → IfOk r (λ list. IsInOrder 0 list (length text))
  in_order u (Ok list) g = spelled_in_order list (chars text) 0 (length text) (sym (zero-add (text_len (chars text)) ∙ text_len-chars text u)) (read_spelled (chars text) list g)
  in_order u (Err s) g = tt

  pub slices : IsUtf8 text → (r : Result (List Token) LexFault) → HasRun r → IfOk r (λ list. All (IsSlice text) list)
  slices u (Ok list) g = spelled_slices text list [] (chars text) 0 (chars_back text u) refl (read_spelled (chars text) list g)
  slices u (Err s) g = tt

  pub faulty : (r : Result (List Token) LexFault) → HasRun r → IfErr r (FitsFault text)
  unfolding SpellsText
  faulty (Ok list) g = tt
  faulty (Err (Bad at)) g = (g.0, λ ts s. none-some ts (sym g.1 ∙ spelled_read (chars text) ts s))
  faulty (Err NoMemory) g = tt
