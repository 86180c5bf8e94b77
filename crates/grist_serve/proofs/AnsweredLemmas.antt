-- Answers one behind the other: their bytes, their turns, what they closed, and where they lead.
use Rattle.std.proofs.Common.{◌≡◌, ℕ, Bool, true, false, List, [], ◌∷◌, ◌++◌, map, Option, None, refl, ap, sym, ◌∙◌, subst, append_assoc, inl, inr}
use Rattle.doc_model.specs.declared.entry.Entry.{Entry}
use Rattle.bundle_core.specs.Told.{with_newlines}
use Rattle.grist_serve.specs.Answered.{Answered, LastCloses, LastMayClose, NoneCloses, asks_entry, bytes_given, closes_at, line_asks, lines_given, peek_or, peeked, peeked_table, turned, turns_among}
use Rattle.grist_serve.specs.Requests.{line_entries}
use Rattle.grist_serve.specs.Standing.{Goes, Standing, after_peek}

pub bytes_given-append : (xs ys : List Answered) → bytes_given (xs ++ ys) ≡ bytes_given xs ++ bytes_given ys
bytes_given-append [] ys = refl
bytes_given-append (x ∷ xs) ys =
    ap (λ z. with_newlines (lines_given x) ++ z) (bytes_given-append xs ys)
    ∙ sym (append_assoc (with_newlines (lines_given x)) (bytes_given xs) (bytes_given ys))

pub turns_among-append : (xs ys : List Answered) → turns_among (xs ++ ys) ≡ turns_among xs ++ turns_among ys
turns_among-append [] ys = refl
turns_among-append (turned t ∷ xs) ys = ap (λ z. t ∷ z) (turns_among-append xs ys)
turns_among-append (peeked p ∷ xs) ys = turns_among-append xs ys

pub none_both : (xs ys : List Answered) → NoneCloses xs → NoneCloses ys → NoneCloses (xs ++ ys)
none_both [] ys a b = b
none_both (x ∷ xs) ys a b = (a.0, none_both xs ys a.1 b)

pub last_both : (xs ys : List Answered) → NoneCloses xs → LastCloses ys → LastCloses (xs ++ ys)
last_both xs ys a c = record {
  before = xs ++ c.before;
  last = c.last;
  split = ap (λ z. xs ++ z) c.split ∙ sym (append_assoc xs c.before (c.last ∷ []));
  open_before = none_both xs c.before a c.open_before;
  closes = c.closes;
}

pub may_both : (xs ys : List Answered) → NoneCloses xs → LastMayClose ys → LastMayClose (xs ++ ys)
may_both xs ys a (inl b) = inl (none_both xs ys a b)
may_both xs ys a (inr c) = inr (last_both xs ys a c)

-- one answer closes or does not
pub one_closes : (x : Answered) → closes_at x ≡ true → LastCloses (x ∷ [])
one_closes x e = record { before = []; last = x; split = refl; open_before = tt; closes = e }

one_by : (x : Answered) (b : Bool) → closes_at x ≡ b → LastMayClose (x ∷ [])
one_by x true e = inr (one_closes x e)
one_by x false e = inl (e, tt)

pub one_may : (x : Answered) → LastMayClose (x ∷ [])
one_may x = one_by x (closes_at x) refl

no_last : (xs : List Answered) (x : Answered) → [] ≡ xs ++ x ∷ [] → ⊥
no_last [] x e = absurd (cc)
no_last (y ∷ xs) x e = absurd (cc)

-- there is a last one, where that closed the session
pub not_none : (xs : List Answered) → LastCloses xs → xs ≡ [] → ⊥
not_none xs c none = no_last c.before c.last (sym none ∙ c.split)

-- from here to there, and on from there
pub goes_both : (name : List ℕ) (xs ys : List Answered) (old mid new : Standing) → Goes name old xs mid → Goes name mid ys new → Goes name old (xs ++ ys) new
goes_both name [] ys old mid new g h = subst (λ (s : Standing). Goes name s ys new) g h
goes_both name (turned t ∷ xs) ys old mid new g h = (g.0, g.1, goes_both name xs ys g.0 mid new g.2 h)
goes_both name (peeked p ∷ xs) ys old mid new g h = (g.0, goes_both name xs ys (after_peek old p) mid new g.1 h)

-- what a line asks for that spells no peek
pub asks_plain : (name text : List ℕ) (es : List Entry) → peeked_table text ≡ None → es ≡ line_entries name text → map (λ e. asks_entry e) es ≡ line_asks name text
asks_plain name text es none is =
    ap (λ (xs : List Entry). peek_or None xs) is
    ∙ ap (λ (o : Option (List ℕ)). peek_or o (line_entries name text)) (sym none)
