-- Checks in parts, and contexts in which nothing is denied.
use Rattle.std.proofs.Common.{◌≡◌, ◌∙◌, ap, refl, sym, ℕ, ◌+◌, ◌<◌, length, get_or, drop, Bool, true, false, cond, ◌&&◌, ◌||◌, codes, List, [], ◌∷◌, ◌++◌, Option, Some, None}
use Rattle.std.proofs.lemmas.Bool.{and_parts}
use Rattle.std.proofs.lemmas.List.{drop_more}
use Rattle.doc_model.specs.declared.column.CellColumn.{CellColumn}
use Rattle.doc_model.specs.Document.{Document}
use Rattle.acl_formula.specs.declared.user_info.AttributeRow.{AttributeRow}
use Rattle.acl_rules.specs.declared.decision.Ctx.{Ctx}
use Rattle.acl_rules.specs.declared.decision.Decision.{Decision}
use Rattle.acl_rules.specs.declared.decision.Decision.TheVariants as decision
use Rattle.acl_rules.specs.Chain.{chain_of}
use Rattle.acl_rules.specs.Decided.{decision_in, is_access, is_allowed_so, is_read}
use Rattle.acl_rules.specs.RuleBook.{BookRule, has_no_rules}
use Rattle.acl_checks.specs.BeforeStep.{kept_checks, kept_row}
use Rattle.acl_checks.specs.Checks.{Check, add_checks, cell_checks, new_row_checks, row_at}
use Rattle.acl_checks.specs.Denials.{asked_in, decided, denial_or, first_denied}
use Rattle.acl_checks.specs.Unchecked.{are_unchecked}

abbrev or_behind : Option ℕ → Option ℕ → Option ℕ
or_behind None o = o
or_behind (Some r) o = Some r

module _ (x : Ctx) where
  first_parts : (xs ys : List Check) → first_denied x (xs ++ ys) ≡ or_behind (first_denied x xs) (first_denied x ys)
  first_parts [] ys = refl
  first_parts (c ∷ xs) ys =
      elim (decided x c) as (λ (d : Decision). denial_or d (first_denied x (xs ++ ys)) ≡ or_behind (denial_or d (first_denied x xs)) (first_denied x ys)) [
        | decision.Allow ↦ first_parts xs ys
        | decision.Deny r ↦ refl
      ]

  pub found_first : (xs ys : List Check) (r : ℕ) → first_denied x xs ≡ Some r → first_denied x (xs ++ ys) ≡ Some r
  found_first xs ys r h = first_parts xs ys ∙ ap (λ (o : Option ℕ). or_behind o (first_denied x ys)) h

  pub none_first : (xs ys : List Check) → first_denied x xs ≡ None → first_denied x (xs ++ ys) ≡ first_denied x ys
  none_first xs ys h = first_parts xs ys ∙ ap (λ (o : Option ℕ). or_behind o (first_denied x ys)) h

  -- parts that are denied alike, one after the other
  pub same_parts : (xs ys us vs : List Check) → first_denied x xs ≡ first_denied x us → first_denied x ys ≡ first_denied x vs → first_denied x (xs ++ ys) ≡ first_denied x (us ++ vs)
  same_parts xs ys us vs h i =
      first_parts xs ys ∙ ap (λ (o : Option ℕ). or_behind o (first_denied x ys)) h
      ∙ ap (or_behind (first_denied x us)) i ∙ sym (first_parts us vs)

-- where there is no rule, a chain is empty
no_chain : (book : List BookRule) → has_no_rules book ≡ true → (table column : Option (List ℕ)) → chain_of book table column ≡ []
no_chain [] h None column = refl
no_chain [] h (Some t) None = refl
no_chain [] h (Some t) (Some c) = refl
no_chain (b ∷ book) h table column = absurd (cc)

-- owners and editors may do everything
may_all : (owner editor other : Bool) → (owner || editor) ≡ true → (owner || (editor || other)) ≡ true
may_all true editor other h = refl
may_all false true other h = refl
may_all false false other h = absurd (cc)

pub unchecked : (x : Ctx) (checks : List Check) → are_unchecked x ≡ true → first_denied x checks ≡ None
unchecked x [] h = refl
unchecked x (c ∷ checks) h =
    let access = x.user.user.access in
    let owner = is_access access (codes "owners") in
    let editor = is_access access (codes "editors") in
    let parts = and_parts (has_no_rules x.book) (owner || editor) h in
    let may : is_allowed_so access c.perm ≡ true = may_all owner editor (is_access access (codes "viewers") && is_read c.perm) parts.1 in
    let allowed : decided x c ≡ decision.Allow =
    ap (λ (chain : List BookRule). decision_in (asked_in x.user c) c.perm chain) (no_chain x.book parts.0 c.table c.column)
    ∙ ap (λ (b : Bool). cond b decision.Allow (decision.Deny (record { row = 0 }))) may in
    ap (λ (d : Decision). denial_or d (first_denied x checks)) allowed ∙ unchecked x checks h

-- what is left of a list begins with the next item
next_item : {X : Type 0} (xs : List X) (k : ℕ) (x : X) → k < length xs → x ≡ get_or xs k x → x ∷ drop (k + 1) xs ≡ drop k xs
next_item xs k x within is = ap (λ y. y ∷ drop (k + 1) xs) is ∙ sym (drop_more xs k x within)

module _ (x : Ctx) (t : Document) (table : List ℕ) (columns : List CellColumn) where
  -- new rows, one after the other
  module _ (rows : List ℕ) (k row : ℕ) (within : k < length rows) (is : row ≡ get_or rows k row) where
    pub add_denied : (r : ℕ) → Some r ≡ first_denied x (new_row_checks table (row_at t table row) columns)
        → first_denied x (add_checks t table (drop k rows) columns) ≡ first_denied x (add_checks t table rows columns) → Some r ≡ first_denied x (add_checks t table rows columns)
    add_denied r h rest =
        sym (found_first x (new_row_checks table (row_at t table row) columns) (add_checks t table (drop (k + 1) rows) columns) r (sym h))
        ∙ ap (λ (ps : List ℕ). first_denied x (add_checks t table ps columns)) (next_item rows k row within is) ∙ rest

    pub add_passed : None ≡ first_denied x (new_row_checks table (row_at t table row) columns)
        → first_denied x (add_checks t table (drop k rows) columns) ≡ first_denied x (add_checks t table rows columns) → first_denied x (add_checks t table (drop (k + 1) rows) columns) ≡ first_denied x (add_checks t table rows columns)
    add_passed h rest =
        sym (none_first x (new_row_checks table (row_at t table row) columns) (add_checks t table (drop (k + 1) rows) columns) (sym h))
        ∙ ap (λ (ps : List ℕ). first_denied x (add_checks t table ps columns)) (next_item rows k row within is) ∙ rest

  -- changed rows, one after the other
  module _ (rows : List AttributeRow) (k : ℕ) (row : AttributeRow) (within : k < length rows) (is : row ≡ get_or rows k row) where
    abbrev changed : List Check
    changed = cell_checks table (kept_row row) (row_at t table row.row) columns

    pub update_denied : (r : ℕ) → Some r ≡ first_denied x (cell_checks table (kept_row row) (row_at t table row.row) columns)
        → first_denied x (kept_checks t table (drop k rows) columns) ≡ first_denied x (kept_checks t table rows columns) → Some r ≡ first_denied x (kept_checks t table rows columns)
    update_denied r h rest =
        sym (found_first x changed (kept_checks t table (drop (k + 1) rows) columns) r (sym h))
        ∙ ap (λ (ps : List AttributeRow). first_denied x (kept_checks t table ps columns)) (next_item rows k row within is) ∙ rest

    pub update_passed : None ≡ first_denied x (cell_checks table (kept_row row) (row_at t table row.row) columns)
        → first_denied x (kept_checks t table (drop k rows) columns) ≡ first_denied x (kept_checks t table rows columns) → first_denied x (kept_checks t table (drop (k + 1) rows) columns) ≡ first_denied x (kept_checks t table rows columns)
    update_passed h rest =
        sym (none_first x changed (kept_checks t table (drop (k + 1) rows) columns) (sym h))
        ∙ ap (λ (ps : List AttributeRow). first_denied x (kept_checks t table ps columns)) (next_item rows k row within is) ∙ rest
