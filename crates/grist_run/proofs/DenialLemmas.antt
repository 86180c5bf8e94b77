-- A reply tells a denial exactly where its verdict is one.
use Rattle.std.proofs.Common.{◌≡◌, ℕ, zero, suc, ◌+◌, ◌==◌, true, false, cond, List, [], ◌∷◌, ◌++◌, append_assoc, codes, drop, not, ◌&&◌, Some, None, refl, ap, ◌∙◌, ◌/◌, ◌%◌, arith, rules}
use native.Mathlib.Numerals.{unary_clauses}
use Rattle.std.specs.List.{list_all, position_or_len}
use Rattle.json.specs.Print.{escape_byte}
use Rattle.std.specs.Fmt.{decimal, digit_glyph, digits, digits_onto}
use Rattle.doc_model.specs.declared.limit.LimitKind.{LimitKind}
use Rattle.doc_model.specs.declared.limit.RuleRef.{RuleRef}
use Rattle.doc_model.specs.declared.refusal.Refusal.{Refusal}
use Rattle.doc_model.specs.declared.refusal.Refusal.TheVariants as refusal
use Rattle.doc_model.specs.declared.verdict.Verdict.{Verdict}
use Rattle.doc_model.specs.declared.verdict.Verdict.TheVariants.{Done, Changes, Bundle, Undone, Refused, Limited, Unresolved, Denied}
use Rattle.serde_json.specs.Data.{Members}
use Rattle.serde_json.specs.Written.{members_text}
use Rattle.grist_json.specs.Lines.{reply_text}
use Rattle.grist_json.specs.Replies.{denied_fields, limited_fields, refusal_fields}
use Rattle.grist_run.specs.Denials.{begins, behind_comma, is_comma, is_denied, tells_denial}

-- ---- digits have no comma among them

digits_onto-append : (k n : ℕ) (acc rest : List ℕ) → digits_onto k 10 false n acc ++ rest ≡ digits_onto k 10 false n (acc ++ rest)
digits_onto-append zero n acc rest = refl
digits_onto-append (suc k) n acc rest =
    let glyph = digit_glyph false (n % 10) in
    elim (n / 10 == 0) as (λ b. cond b (glyph ∷ acc) (digits_onto k 10 false (n / 10) (glyph ∷ acc)) ++ rest ≡ cond b (glyph ∷ acc ++ rest) (digits_onto k 10 false (n / 10) (glyph ∷ acc ++ rest))) [
      | true ↦ refl
      | false ↦ digits_onto-append k (n / 10) (glyph ∷ acc) rest
    ]

no_glyph : (d : ℕ) → is_comma (digit_glyph false d) ≡ false
no_glyph d = search rules

one_more : (n : ℕ) → 1 + n ≡ suc n
one_more n = omega arith

behind_more : (x : ℕ) (xs : List ℕ) → is_comma x ≡ false → behind_comma (x ∷ xs) ≡ behind_comma xs
behind_more x xs e = rw e (simp unary_clauses (ap (λ k. drop k xs) (one_more (position_or_len is_comma xs))))

behind_digits : (k n : ℕ) (acc : List ℕ) → behind_comma (digits_onto k 10 false n acc) ≡ behind_comma acc
behind_digits zero n acc = refl
behind_digits (suc k) n acc =
    let glyph = digit_glyph false (n % 10) in
    let one = behind_more glyph acc (no_glyph (n % 10)) in
    elim (n / 10 == 0) as (λ b. behind_comma (cond b (glyph ∷ acc) (digits_onto k 10 false (n / 10) (glyph ∷ acc))) ≡ behind_comma acc) [
      | true ↦ one
      | false ↦ behind_digits k (n / 10) (glyph ∷ acc) ∙ one
    ]

behind_number : (n : ℕ) (rest : List ℕ) → behind_comma (decimal n ++ rest) ≡ behind_comma rest
unfolding digits
behind_number n rest = ap behind_comma (digits_onto-append 64 n [] rest) ∙ behind_digits 64 n rest

-- nor have these texts
behind_front : (front rest : List ℕ) → list_all (λ c. not (is_comma c)) front ≡ true → behind_comma (front ++ rest) ≡ behind_comma rest
behind_front [] rest none = refl
behind_front (x ∷ xs) rest none =
    elim (is_comma x) as (λ b. is_comma x ≡ b → (not b && list_all (λ c. not (is_comma c)) xs) ≡ true → behind_comma (x ∷ xs ++ rest) ≡ behind_comma rest) [
      | true ↦ λ is no. let never : ⊥ = cc in absurd never
      | false ↦ λ is more. behind_more x (xs ++ rest) is ∙ behind_front xs rest more
    ] refl none

behind_action : (action : ℕ) (rest : List ℕ) → behind_comma (codes "{\"error\":{\"action\":" ++ (decimal action ++ 44 ∷ rest)) ≡ rest
behind_action action rest =
    behind_front (codes "{\"error\":{\"action\":") (decimal action ++ 44 ∷ rest) refl ∙ behind_number action (44 ∷ rest)

twenty : decimal 20 ≡ 50 ∷ 48 ∷ []
unfolding digits
twenty = refl

-- what stands behind the number of the action tells it
told_by : (action : ℕ) (fields : Members) → tells_denial (codes "{\"error\":{\"action\":" ++ ((decimal action ++ 44 ∷ members_text false fields) ++ 125 ∷ [])) ≡ begins (codes "\"code\":20,\"memo\":") (members_text false fields ++ 125 ∷ [])
told_by action fields =
    let front = codes "{\"error\":{\"action\":" in
    ap (λ l. tells_denial (front ++ l)) (append_assoc (decimal action) (44 ∷ members_text false fields) (125 ∷ []))
    ∙ ap (begins (codes "\"code\":20,\"memo\":")) (behind_action action (members_text false fields ++ 125 ∷ []))

denied_told : (action : ℕ) (rule : RuleRef) → tells_denial (reply_text (Denied action rule)) ≡ true
unfolding reply_text escape_byte
denied_told action rule = told_by action (denied_fields rule) ∙ rw twenty refl

-- no number of a refusal but the one of a denial has these digits, and that one stands before no memo
refused_code : (r : Refusal) → begins (codes "\"code\":20,\"memo\":") (members_text false (refusal_fields r) ++ 125 ∷ []) ≡ false
unfolding digits escape_byte
refused_code refusal.BadLine = refl
refused_code refusal.LineTooLong = refl
refused_code refusal.NotOpen = refl
refused_code refusal.AlreadyOpen = refl
refused_code refusal.UnknownToken = refl
refused_code refusal.NoSuchTable = refl
refused_code refusal.NoSuchColumn = refl
refused_code refusal.NoSuchRow = refl
refused_code refusal.DuplicateRow = refl
refused_code refusal.MetaTable = refl
refused_code refusal.FormulaColumn = refl
refused_code refusal.BadValue = refl
refused_code refusal.BadRule = refl
refused_code refusal.BadName = refl
refused_code refusal.Limit = refl
refused_code refusal.NoSuchBundle = refl
refused_code refusal.AlreadyUndone = refl
refused_code refusal.UndoStale = refl
refused_code refusal.StoreFault = refl
refused_code refusal.Denied = refl
refused_code refusal.Lagged = refl
refused_code refusal.Unresolved = refl

refused_told : (r : Refusal) (action : ℕ) → tells_denial (reply_text (Refused r (Some action))) ≡ false
unfolding reply_text escape_byte
refused_told r action = told_by action (refusal_fields r) ∙ refused_code r

limited_told : (what : LimitKind) (bound action : ℕ) → tells_denial (reply_text (Limited what bound (Some action))) ≡ false
unfolding reply_text escape_byte
limited_told what bound action = told_by action (limited_fields what bound)

refused_whole : (r : Refusal) → tells_denial (reply_text (Refused r None)) ≡ false
unfolding reply_text escape_byte
refused_whole r = refl

limited_whole : (what : LimitKind) (bound : ℕ) → tells_denial (reply_text (Limited what bound None)) ≡ false
unfolding reply_text escape_byte
limited_whole what bound = refl

-- a reply tells a denial exactly where its verdict is one
pub denial_told : (v : Verdict) → tells_denial (reply_text v) ≡ is_denied v
unfolding reply_text escape_byte
denial_told Done = refl
denial_told (Changes actions) = refl
denial_told (Bundle n values) = refl
denial_told (Undone n) = refl
denial_told (Refused r None) = refused_whole r
denial_told (Refused r (Some action)) = refused_told r action
denial_told (Limited what bound None) = limited_whole what bound
denial_told (Limited what bound (Some action)) = limited_told what bound action
denial_told (Unresolved count) = refl
denial_told (Denied action rule) = denied_told action rule
