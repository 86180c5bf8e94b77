-- Ranges of a desk that follow one another, and what is put down.
use Rattle.std.proofs.Common.{◌≡◌, ◌≤◌, ◌+◌, ◌-◌, ◌++◌, ◌∙◌, append_assoc, arith, ap, sym, subst, refl, ℕ, List, [], ◌∷◌, length, take, drop, Option, Some, None}
use Rattle.std.specs.Option.{MatchOption}
use Rattle.std.proofs.Math.Seq.{take-add}
use Rattle.std.proofs.lemmas.List.{length-append, append-nil, drop-drop}
use Rattle.std.proofs.lemmas.Bool.{le-leb}
use Rattle.cell_types.specs.declared.value.CellItem.{CellItem}
use Rattle.cell_types.specs.declared.value.CellValue.{CellValue}
use Rattle.cell_types.specs.declared.value.CellValue.TheVariants as value
use Rattle.cell_types.specs.TextBound.{text_bound}
use Rattle.value_ops.specs.Joined.{sum_of, bounded_text, bounded_list, joined_list_bound}
use Rattle.acl_formula.specs.declared.operand.Operand.{Operand}
use Rattle.acl_formula.specs.declared.operand.Operand.TheVariants as operand
use Rattle.acl_formula.specs.declared.operand.Part.{Part}
use Rattle.acl_formula.specs.declared.operand.Part.TheVariants as part
use Rattle.acl_formula.specs.Desk.{between, joined, piece_of, items_of_part, items_in, seen}
use Rattle.acl_formula.specs.DeskRules.{ArePieces, IsGoodItem, IsGoodPart, AreGood, IsGood, IsDown}
use Rattle.acl_formula.specs.DeskText.{text_in, list_in, IsText, IsListed}
use Rattle.acl_formula.specs.RuleValue.{kept}

-- two ranges that follow one another
pub between_add : (desk : List Part) (at middle end : ℕ) → at ≤ middle → middle ≤ end → between at end desk ≡ between at middle desk ++ between middle end desk
between_add desk at middle end h k =
    let whole : end - at ≡ (middle - at) + (end - middle) = omega (arith, h, k) in
    ap (λ n. take n (drop at desk)) whole
    ∙ take-add (middle - at) (end - middle) (drop at desk)
    ∙ ap (λ (ps : List Part). between at middle desk ++ take (end - middle) ps) (drop-drop (middle - at) at desk ∙ ap (λ n. drop n desk) (omega (arith, h)))

joined_append : (ps qs : List Part) → joined (ps ++ qs) ≡ joined ps ++ joined qs
joined_append [] qs = refl
joined_append (p ∷ ps) qs = ap (λ (rest : List ℕ). piece_of p ++ rest) (joined_append ps qs) ∙ sym (append_assoc (piece_of p) (joined ps) (joined qs))

pub items_append : (desk ps qs : List Part) → items_in desk (ps ++ qs) ≡ items_in desk ps ++ items_in desk qs
items_append desk [] qs = refl
items_append desk (p ∷ ps) qs = ap (λ (rest : List CellItem). items_of_part desk p ++ rest) (items_append desk ps qs) ∙ sym (append_assoc (items_of_part desk p) (items_in desk ps) (items_in desk qs))

pieces_append : (ps qs : List Part) → ArePieces ps → ArePieces qs → ArePieces (ps ++ qs)
pieces_append [] qs g h = h
pieces_append (part.Piece t ∷ ps) qs g h = pieces_append ps qs g h
pieces_append (part.Item v ∷ ps) qs g h = absurd g
pieces_append (part.Items is ∷ ps) qs g h = absurd g

module _ (desk : List Part) where
  pub good_append : (bound : ℕ) (ps qs : List Part) → AreGood desk bound ps → AreGood desk bound qs → AreGood desk bound (ps ++ qs)
  good_append bound [] qs g h = h
  good_append bound (p ∷ ps) qs g h = (g.0, good_append bound ps qs g.1 h)

  pub good_item_more : (a b : ℕ) (v : Operand) → a ≤ b → IsGoodItem desk a v → IsGoodItem desk b v
  good_item_more a b operand.Null h g = tt
  good_item_more a b (operand.Int m) h g = tt
  good_item_more a b (operand.Bool c) h g = tt
  good_item_more a b (operand.Date m) h g = tt
  good_item_more a b (operand.Rec r) h g = tt
  good_item_more a b (operand.Set r) h g = g
  good_item_more a b (operand.Text t) h g = tt
  good_item_more a b (operand.Joined from to len) h g = (g.0, omega (arith, g.1, h), g.2, g.3, g.4)
  good_item_more a b (operand.List is) h g = g
  good_item_more a b (operand.Listed from to len) h g = g
  good_item_more a b operand.Censored h g = g

  good_part_more : (a b : ℕ) (p : Part) → a ≤ b → IsGoodPart desk a p → IsGoodPart desk b p
  good_part_more a b (part.Piece t) h g = tt
  good_part_more a b (part.Item v) h g = good_item_more a b v h g
  good_part_more a b (part.Items is) h g = tt

  pub good_more : (a b : ℕ) (ps : List Part) → a ≤ b → AreGood desk a ps → AreGood desk b ps
  good_more a b [] h g = tt
  good_more a b (p ∷ ps) h g = (good_part_more a b p h g.0, good_more a b ps h g.1)

  -- pieces are no items
  pub pieces_no_items : (ps : List Part) → ArePieces ps → items_in desk ps ≡ []
  pieces_no_items [] g = refl
  pieces_no_items (part.Piece t ∷ ps) g = pieces_no_items ps g
  pieces_no_items (part.Item v ∷ ps) g = absurd g
  pieces_no_items (part.Items is ∷ ps) g = absurd g

  pub pieces_good : (bound : ℕ) (ps : List Part) → ArePieces ps → AreGood desk bound ps
  pieces_good bound [] g = tt
  pieces_good bound (part.Piece t ∷ ps) g = (tt, pieces_good bound ps g)
  pieces_good bound (part.Item v ∷ ps) g = absurd g
  pieces_good bound (part.Items is ∷ ps) g = absurd g

  -- a text that is put down
  down_text : (at end : ℕ) (v : Operand) → IsText v → IsDown desk at end v → text_in desk v ≡ Some (joined (between at end desk))
  down_text at end operand.Null t d = absurd t
  down_text at end (operand.Int n) t d = absurd t
  down_text at end (operand.Bool b) t d = absurd t
  down_text at end (operand.Date n) t d = absurd t
  down_text at end (operand.Rec r) t d = absurd t
  down_text at end (operand.Set r) t d = absurd t
  down_text at end (operand.Text s) t d = sym (ap (λ (ps : List Part). Some (joined ps)) d ∙ ap (λ (u : List ℕ). Some u) (append-nil s.now))
  down_text at end (operand.Joined from to len) t d = λ i. Some (joined (between (d.0 i) (d.1 i) desk))
  down_text at end (operand.List is) t d = absurd t
  down_text at end (operand.Listed from to len) t d = absurd t
  down_text at end operand.Censored t d = absurd t

  down_pieces : (at end : ℕ) (v : Operand) → IsGood desk v → IsText v → IsDown desk at end v → ArePieces (between at end desk)
  down_pieces at end operand.Null g t d = absurd t
  down_pieces at end (operand.Int n) g t d = absurd t
  down_pieces at end (operand.Bool b) g t d = absurd t
  down_pieces at end (operand.Date n) g t d = absurd t
  down_pieces at end (operand.Rec r) g t d = absurd t
  down_pieces at end (operand.Set r) g t d = absurd t
  down_pieces at end (operand.Text s) g t d = subst ArePieces (sym d) tt
  down_pieces at end (operand.Joined from to len) g t d =
      let same : between from to desk ≡ between at end desk = λ i. between (d.0 i) (d.1 i) desk in
      subst ArePieces same g.4
  down_pieces at end (operand.List is) g t d = absurd t
  down_pieces at end (operand.Listed from to len) g t d = absurd t
  down_pieces at end operand.Censored g t d = absurd t

  -- a list that is put down
  down_list : (at end : ℕ) (v : Operand) → IsListed v → IsDown desk at end v → list_in desk v ≡ Some (items_in desk (between at end desk))
  down_list at end operand.Null t d = absurd t
  down_list at end (operand.Int n) t d = absurd t
  down_list at end (operand.Bool b) t d = absurd t
  down_list at end (operand.Date n) t d = absurd t
  down_list at end (operand.Rec r) t d = absurd t
  down_list at end (operand.Set r) t d = absurd t
  down_list at end (operand.Text s) t d = absurd t
  down_list at end (operand.Joined from to len) t d = absurd t
  down_list at end (operand.List is) t d = sym (ap (λ (ps : List Part). Some (items_in desk ps)) d ∙ ap (λ (js : List CellItem). Some js) (append-nil is.now))
  down_list at end (operand.Listed from to len) t d = λ i. Some (items_in desk (between (d.0 i) (d.1 i) desk))
  down_list at end operand.Censored t d = absurd t

  down_good : (at end : ℕ) (v : Operand) → IsGood desk v → IsListed v → IsDown desk at end v → AreGood desk end (between at end desk)
  down_good at end operand.Null g t d = absurd t
  down_good at end (operand.Int n) g t d = absurd t
  down_good at end (operand.Bool b) g t d = absurd t
  down_good at end (operand.Date n) g t d = absurd t
  down_good at end (operand.Rec r) g t d = absurd t
  down_good at end (operand.Set r) g t d = absurd t
  down_good at end (operand.Text s) g t d = absurd t
  down_good at end (operand.Joined from to len) g t d = absurd t
  down_good at end (operand.List is) g t d = subst (AreGood desk end) (sym d) (tt, tt)
  down_good at end (operand.Listed from to len) g t d =
      let same : AreGood desk to (between from to desk) ≡ AreGood desk end (between at end desk) = λ i. AreGood desk (d.1 i) (between (d.0 i) (d.1 i) desk) in
      subst (λ (X : Type 0). X) same g.4
  down_good at end operand.Censored g t d = absurd t

  -- what a value is by its text or its list
  text_seen : (v : Operand) (t : List ℕ) → text_in desk v ≡ Some t → seen desk v ≡ value.Text t
  text_seen operand.Null t e = cc
  text_seen (operand.Int n) t e = cc
  text_seen (operand.Bool b) t e = cc
  text_seen (operand.Date n) t e = cc
  text_seen (operand.Rec r) t e = cc
  text_seen (operand.Set r) t e = cc
  text_seen (operand.Text s) t e = cc
  text_seen (operand.Joined from to len) t e = cc
  text_seen (operand.List is) t e = cc
  text_seen (operand.Listed from to len) t e = cc
  text_seen operand.Censored t e = cc

  list_seen : (v : Operand) (is : List CellItem) → list_in desk v ≡ Some is → seen desk v ≡ value.List is
  list_seen operand.Null is e = cc
  list_seen (operand.Int n) is e = cc
  list_seen (operand.Bool b) is e = cc
  list_seen (operand.Date n) is e = cc
  list_seen (operand.Rec r) is e = cc
  list_seen (operand.Set r) is e = cc
  list_seen (operand.Text s) is e = cc
  list_seen (operand.Joined from to len) is e = cc
  list_seen (operand.List js) is e = cc
  list_seen (operand.Listed from to len) is e = cc
  list_seen operand.Censored is e = cc

by_option : {A : Type 0} (o : Option A) (x : A) (n : ℕ) (f : A → ℕ) → o ≡ Some x → MatchOption o (n ≡ 0) (λ y. n ≡ f y) → n ≡ f x
by_option None x n f e m = cc
by_option (Some y) x n f e m = m ∙ ap f (cc)

kept_text : (t : List ℕ) → length t ≤ text_bound → ◌≡◌ {A = Option CellValue} (Some (value.Text t)) (kept (bounded_text t))
kept_text t h = rw (le-leb (length t) text_bound h) refl

kept_list : (is : List CellItem) → length is ≤ joined_list_bound → ◌≡◌ {A = Option CellValue} (Some (value.List is)) (kept (bounded_list is))
kept_list is h = rw (le-leb (length is) joined_list_bound h) refl

-- texts or lists that are put down one after the other
module _ (desk : List Part) (at middle end : ℕ) (h : at ≤ middle) (k : middle ≤ end) (v w : Operand) (dv : IsDown desk at middle v) (dw : IsDown desk middle end w) where
  two_texts : joined (between at end desk) ≡ joined (between at middle desk) ++ joined (between middle end desk)
  two_texts = ap joined (between_add desk at middle end h k) ∙ joined_append (between at middle desk) (between middle end desk)

  pub text_length : (n m : ℕ) → IsText v → IsText w → MatchOption (text_in desk v) (n ≡ 0) (λ t. n ≡ length t) → MatchOption (text_in desk w) (m ≡ 0) (λ t. m ≡ length t) → n + m ≡ length (joined (between at end desk))
  text_length n m tv tw ev ew =
      omega (
        arith,
        by_option (text_in desk v) (joined (between at middle desk)) n (λ t. length t) (down_text desk at middle v tv dv) ev,
        by_option (text_in desk w) (joined (between middle end desk)) m (λ t. length t) (down_text desk middle end w tw dw) ew,
        ap (λ (t : List ℕ). length t) two_texts,
        length-append (joined (between at middle desk)) (joined (between middle end desk)),
      )

  pub text_pieces : IsText v → IsText w → IsGood desk v → IsGood desk w → ArePieces (between at end desk)
  text_pieces tv tw gv gw =
      subst ArePieces (sym (between_add desk at middle end h k))
      (pieces_append (between at middle desk) (between middle end desk) (down_pieces desk at middle v gv tv dv) (down_pieces desk middle end w gw tw dw))

  pub text_sum : IsText v → IsText w → length (joined (between at end desk)) ≤ text_bound → ◌≡◌ {A = Option CellValue} (Some (value.Text (joined (between at end desk)))) (kept (sum_of (seen desk v) (seen desk w)))
  text_sum tv tw short =
      kept_text (joined (between at end desk)) short
      ∙ ap (λ (t : List ℕ). kept (bounded_text t)) two_texts
      ∙ sym (λ i. kept (sum_of (text_seen desk v _ (down_text desk at middle v tv dv) i) (text_seen desk w _ (down_text desk middle end w tw dw) i)))

  two_lists : items_in desk (between at end desk) ≡ items_in desk (between at middle desk) ++ items_in desk (between middle end desk)
  two_lists = ap (items_in desk) (between_add desk at middle end h k) ∙ items_append desk (between at middle desk) (between middle end desk)

  pub list_length : (n m : ℕ) → IsListed v → IsListed w → MatchOption (list_in desk v) (n ≡ 0) (λ is. n ≡ length is) → MatchOption (list_in desk w) (m ≡ 0) (λ is. m ≡ length is) → n + m ≡ length (items_in desk (between at end desk))
  list_length n m tv tw ev ew =
      omega (
        arith,
        by_option (list_in desk v) (items_in desk (between at middle desk)) n (λ is. length is) (down_list desk at middle v tv dv) ev,
        by_option (list_in desk w) (items_in desk (between middle end desk)) m (λ is. length is) (down_list desk middle end w tw dw) ew,
        ap (λ (is : List CellItem). length is) two_lists,
        length-append (items_in desk (between at middle desk)) (items_in desk (between middle end desk)),
      )

  pub list_good : IsListed v → IsListed w → IsGood desk v → IsGood desk w → AreGood desk end (between at end desk)
  list_good tv tw gv gw =
      subst (AreGood desk end) (sym (between_add desk at middle end h k))
      (good_append desk end (between at middle desk) (between middle end desk)
      (good_more desk middle end (between at middle desk) k (down_good desk at middle v gv tv dv)) (down_good desk middle end w gw tw dw))

  pub list_sum : IsListed v → IsListed w → length (items_in desk (between at end desk)) ≤ joined_list_bound → ◌≡◌ {A = Option CellValue} (Some (value.List (items_in desk (between at end desk)))) (kept (sum_of (seen desk v) (seen desk w)))
  list_sum tv tw short =
      kept_list (items_in desk (between at end desk)) short
      ∙ ap (λ (is : List CellItem). kept (bounded_list is)) two_lists
      ∙ sym (λ i. kept (sum_of (list_seen desk v _ (down_list desk at middle v tv dv) i) (list_seen desk w _ (down_list desk middle end w tw dw) i)))
