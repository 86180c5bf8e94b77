-- A patch of a view, action by action.
use Rattle.std.proofs.Common.{Result, Ok, Err, ℕ, zero, suc, ◌+◌, Bool, true, false, cond, not, ◌&&◌, List, [], ◌∷◌, ◌++◌, map, filter, take, drop, set, length, get_or, ◌≡◌, ◌<◌, refl, sym, ap, subst, ◌∙◌, Option, Some, None, option_map, arith, ltb, drop-cons}
use Rattle.std.specs.Result.{IfErr, IsErrAnd}
use Rattle.view_patch.specs.declared.patching.PatchFault.{PatchFault}
use Rattle.view_patch.specs.declared.patching.PatchFault.TheVariants.{NoMemory, Unfit}
use Rattle.view_patch.specs.Faults.{tells, tells_here}
use Rattle.std.proofs.lemmas.Bool.{ltb-true, ltb-false, lt-ltb, le-ltb}
use Rattle.std.proofs.lemmas.Slice.Eq.{bytes_eq-Decides}
use Rattle.std.specs.List.{AllByRecursion, position, position_or_len}
use Rattle.std.specs.Str.{bytes_eq}
use Rattle.doc_model.specs.declared.view.ViewAction.{ViewAction}
use Rattle.doc_model.specs.declared.view.ViewAction.TheVariants.{AddColumn, AddTable, BulkAdd, BulkRemove, BulkUpdate, ModifyColumn, RemoveColumn, RemoveTable}
use Rattle.doc_model.specs.declared.view.ViewCol.{ViewCol}
use Rattle.doc_model.specs.declared.view.ViewTable.{ViewTable}
use Rattle.doc_model.specs.ByIds.{AreDistinct, by_id, find_id, IsByIds, put_by_id, precedes, with_id, without_id}
use Rattle.doc_model.specs.Changes.{grid, IsView, shown_table_id, table}
use Rattle.doc_model.specs.Patch.{bare, edit_table, fits, patch, patched, unfit_at}
use Rattle.doc_model.specs.ViewEdits.{add, add_column, Edit, edited, IsShown, modify_column, remove, remove_column, shown_id, update}
use Rattle.doc_model.proofs.ByIdsLaws.{AreDistinct-IsByIds, bytes_apart, IsByIds-by_id}
use Rattle.doc_model.proofs.ChangesLaws.{IsByIds-after}
use Rattle.doc_model.proofs.Choices.{each_filter}
use Rattle.doc_model.proofs.ViewEditsLaws.{IsShown-edited}

-- the first index that passes, item by item
first_index : {X : Type 0} (test : X → Bool) (x : X) (xs : List X) → position test (x ∷ xs) ≡ cond (test x) (Some 0) (option_map (λ p. suc p) (position test xs))
first_index {X} test x xs =
    elim (test x) as (λ b. cond (ltb (cond (not b) (1 + position_or_len test xs) 0) (length (x ∷ xs))) (Some (cond (not b) (1 + position_or_len test xs) 0)) None ≡ cond b (Some 0) (option_map (λ p. suc p) (position test xs))) [
      | true ↦ ap (λ b. cond b (Some 0) None) (lt-ltb 0 (suc (length xs)) (omega arith))
      | false ↦ later (position_or_len test xs) (length xs) (1 + position_or_len test xs) (omega arith)
    ]
  where
    later : (m n k : ℕ) → k ≡ suc m → cond (ltb k (suc n)) (Some k) None ≡ option_map (λ p. suc p) (cond (ltb m n) (Some m) None)
    later m n k e =
        elim (ltb m n) as (λ b. ltb m n ≡ b → cond (ltb k (suc n)) (Some k) None ≡ option_map (λ p. suc p) (cond b (Some m) None)) [
          | true ↦ λ is. let lt : m < n = ltb-true m n is in ap (λ b. cond b (Some k) None) (lt-ltb k (suc n) (omega (arith, lt, e))) ∙ ap (λ p. Some p) e
          | false ↦ λ is. let le : Rattle.std.proofs.Common.◌≤◌ n m = ltb-false m n is in ap (λ b. cond b (Some k) None) (le-ltb k (suc n) (omega (arith, le, e)))
        ] refl

module _ {X : Type 0} (id : X → List ℕ) (c : List ℕ) where
  abbrev named : X → Bool
  named x = bytes_eq (id x) c

  -- those of other ids stay
  all_other : (f : X → X) (xs : List X) (n : List ℕ) → n ≡ c → AllByRecursion (λ y. bytes_eq n (id y) ≡ false) xs → (with_id id c f xs ≡ xs) × (without_id id c xs ≡ xs)
  all_other f [] n e h = (refl, refl)
  all_other f (x ∷ xs) n e h =
      let apart : bytes_eq (id x) c ≡ false = bytes_apart c (id x) (ap (λ n. bytes_eq n (id x)) (sym e) ∙ h.0) in
      let rest : (with_id id c f xs ≡ xs) × (without_id id c xs ≡ xs) = all_other f xs n e h.1 in
      (ap (λ b. cond b (f x) x ∷ with_id id c f xs) apart ∙ ap (λ l. x ∷ l) rest.0, ap (λ b. cond (not b) (x ∷ without_id id c xs) (without_id id c xs)) apart ∙ ap (λ l. x ∷ l) rest.1)

  -- where no thing has the id, all stay
  pub none_named : (f : X → X) (xs : List X) → position named xs ≡ None → (with_id id c f xs ≡ xs) × (without_id id c xs ≡ xs) × (find_id id c xs ≡ None)
  none_named f [] e = (refl, refl, refl)
  none_named f (x ∷ xs) e =
      elim (named x) as (λ b. named x ≡ b → cond b (Some 0) (option_map (λ p. suc p) (position named xs)) ≡ None → (with_id id c f (x ∷ xs) ≡ x ∷ xs) × (without_id id c (x ∷ xs) ≡ x ∷ xs) × (find_id id c (x ∷ xs) ≡ None)) [
        | true ↦ λ is e. absurd (cc)
        | false ↦ λ isnt e.
            let rest : (with_id id c f xs ≡ xs) × (without_id id c xs ≡ xs) × (find_id id c xs ≡ None) = none_named f xs (lower (position named xs) e) in (
              ap (λ b. cond b (f x) x ∷ with_id id c f xs) isnt ∙ ap (λ l. x ∷ l) rest.0,
              ap (λ b. cond (not b) (x ∷ without_id id c xs) (without_id id c xs)) isnt ∙ ap (λ l. x ∷ l) rest.1,
              ap (λ b. cond b (Some x) (find_id id c xs)) isnt ∙ rest.2,
            )
      ] refl (sym (first_index named x xs) ∙ e)
    where
      lower : (o : Option ℕ) → option_map (λ p. suc p) o ≡ None → o ≡ None
      lower None e = refl
      lower (Some p) e = absurd (cc)

  -- what a change and a removal at the index of an id make
  pub one_named : (f : X → X) (xs : List X) (p : ℕ) (x : X) → AreDistinct id xs → position named xs ≡ Some p → x ≡ get_or xs p x
      → (p < length xs) × (set xs p (f x) ≡ with_id id c f xs) × (take p xs ++ drop (suc p) xs ≡ without_id id c xs) × (find_id id c xs ≡ Some x)
  one_named f [] p x s e is = absurd (cc)
  one_named f (y ∷ xs) p x s e is = by_test (λ q e is. one_named f xs q x s.1 e is) (named y) refl (sym (first_index named y xs) ∙ e)
    where
      Done : List X → ℕ → Type 0
      Done l q = (q < length l) × (set l q (f x) ≡ with_id id c f l) × (take q l ++ drop (suc q) l ≡ without_id id c l) × (find_id id c l ≡ Some x)

      at_next : (o : Option ℕ) → position named xs ≡ o → ((q : ℕ) → position named xs ≡ Some q → x ≡ get_or xs q x → Done xs q) → named y ≡ false → option_map (λ p. suc p) o ≡ Some p → Done (y ∷ xs) p
      at_next None eo h isnt e = absurd (cc)
      at_next (Some q) eo h isnt e =
          let same : suc q ≡ p = cc in
          let here : x ≡ get_or xs q x = is ∙ ap (λ n. get_or (y ∷ xs) n x) (sym same) in
          let rest : Done xs q = h q eo here in
          subst (Done (y ∷ xs)) same (
            omega (arith, rest.0),
            ap (λ l. y ∷ l) rest.1 ∙ ap (λ b. cond b (f y) y ∷ with_id id c f xs) (sym isnt),
            ap (λ l. y ∷ l) rest.2 ∙ ap (λ b. cond (not b) (y ∷ without_id id c xs) (without_id id c xs)) (sym isnt),
            ap (λ b. cond b (Some y) (find_id id c xs)) isnt ∙ rest.3,
          )

      by_test : ((q : ℕ) → position named xs ≡ Some q → x ≡ get_or xs q x → Done xs q) → (b : Bool) → named y ≡ b → cond b (Some 0) (option_map (λ p. suc p) (position named xs)) ≡ Some p → Done (y ∷ xs) p
      by_test h true eq e =
          let first : 0 ≡ p = cc in
          let same : x ≡ y = is ∙ ap (λ n. get_or (y ∷ xs) n x) (sym first) in
          let rest : (with_id id c f xs ≡ xs) × (without_id id c xs ≡ xs) = all_other f xs (id y) ((bytes_eq-Decides (id y) c).0 eq) s.0 in
          subst (Done (y ∷ xs)) first (
            omega arith,
            ap (λ z. f z ∷ xs) same ∙ ap (λ l. f y ∷ l) (sym rest.0) ∙ ap (λ b. cond b (f y) y ∷ with_id id c f xs) (sym eq),
            sym rest.1 ∙ ap (λ b. cond (not b) (y ∷ without_id id c xs) (without_id id c xs)) (sym eq),
            ap (λ b. cond b (Some y) (find_id id c xs)) eq ∙ ap (λ z. Some z) (sym same),
          )
      by_test h false isnt e = at_next (position named xs) refl h isnt e

each_index : (P : ViewTable → Type 0) (x : ViewTable) (v : List ViewTable) → P x → AllByRecursion P v → AllByRecursion P (put_by_id shown_table_id x v)
each_index P x [] p h = (p, tt)
each_index P x (y ∷ v) p h =
    elim (precedes x.id y.id) as (λ b. AllByRecursion P (cond b (x ∷ y ∷ v) (cond (bytes_eq x.id y.id) (x ∷ v) (y ∷ put_by_id shown_table_id x v)))) [
      | true ↦ (p, h)
      | false ↦ elim (bytes_eq x.id y.id) as (λ b. AllByRecursion P (cond b (x ∷ v) (y ∷ put_by_id shown_table_id x v))) [ true ↦ (p, h.1) | false ↦ (h.0, each_index P x v p h.1) ]
    ]

shown_edited : (t : List ℕ) (e : Edit) (v : List ViewTable) → AllByRecursion (λ s. IsShown (grid s)) v → AllByRecursion (λ s. IsShown (grid s)) (edit_table t e v)
shown_edited t e [] h = tt
shown_edited t e (s ∷ v) h =
    (elim (bytes_eq s.id t) as (λ b. IsShown (grid (cond b (table s.id (edited e (grid s))) s))) [ true ↦ IsShown-edited e (grid s) h.0 | false ↦ h.0 ], shown_edited t e v h.1)

shown_bare : (columns : List ViewCol) → IsShown (bare columns)
shown_bare columns =
    let ids : IsByIds shown_id (by_id shown_id columns) = IsByIds-by_id shown_id columns in
    record { by_ids = ids; is_grid = record { distinct = AreDistinct-IsByIds shown_id (by_id shown_id columns) ids; ascending = tt; height = refl; width = tt } }

shown_patched : (a : ViewAction) (v : List ViewTable) → AllByRecursion (λ s. IsShown (grid s)) v → AllByRecursion (λ s. IsShown (grid s)) (patched a v)
shown_patched (AddTable t columns) v h = each_index (λ s. IsShown (grid s)) (table t (bare columns)) v (shown_bare columns) h
shown_patched (RemoveTable t) v h = each_filter (λ s. IsShown (grid s)) (λ s. not (bytes_eq (shown_table_id s) t)) v h
shown_patched (AddColumn t d) v h = shown_edited t (add_column d) v h
shown_patched (RemoveColumn t c) v h = shown_edited t (remove_column c) v h
shown_patched (ModifyColumn t d) v h = shown_edited t (modify_column d) v h
shown_patched (BulkAdd t rows ks) v h = shown_edited t (add rows ks) v h
shown_patched (BulkUpdate t rows ks) v h = shown_edited t (update rows ks) v h
shown_patched (BulkRemove t rows) v h = shown_edited t (remove rows) v h

-- a view stays one
pub IsView-patched : (a : ViewAction) (v : List ViewTable) → IsView v → IsView (patched a v)
IsView-patched a v h = record { by_ids = IsByIds-after (a ∷ []) v h.by_ids; tables = shown_patched a v h.tables }

-- what is left to do leads where the whole does, from the view as it is
pub record Leads (v : List ViewTable) (actions : List ViewAction) (now : List ViewTable) (index : ℕ) : Type 0 where
  pub view : IsView now
  pub unfit : unfit_at v actions ≡ option_map (λ p. index + p) (unfit_at now (drop index actions))
  pub patch : patch v actions ≡ patch now (drop index actions)

rest_at : (actions : List ViewAction) (index : ℕ) (a : ViewAction) → index < length actions → a ≡ get_or actions index a → drop index actions ≡ a ∷ drop (suc index) actions
rest_at actions index a lt is = drop-cons actions index a lt ∙ ap (λ x. x ∷ drop (suc index) actions) (sym is)

pub leads_first : (v now : List ViewTable) (actions : List ViewAction) → now ≡ v → IsView v → Leads v actions now 0
leads_first v now actions e h = subst (λ w. Leads v actions w 0) (sym e) (record { view = h; unfit = same (unfit_at v actions); patch = refl })
  where
    same : (o : Option ℕ) → o ≡ option_map (λ p. 0 + p) o
    same None = refl
    same (Some p) = ap (λ k. Some k) (omega arith)

pub leads_next : (v now next : List ViewTable) (actions : List ViewAction) (index : ℕ) (a : ViewAction) → Leads v actions now index → index < length actions → a ≡ get_or actions index a → fits a now ≡ true → next ≡ patched a now → Leads v actions next (index + 1)
leads_next v now next actions index a h lt is fit e =
    let rest : List ViewAction = drop (suc index) actions in
    let split : drop index actions ≡ a ∷ rest = rest_at actions index a lt is in
    let one : suc index ≡ index + 1 = omega arith in
    subst (λ w. Leads v actions w (index + 1)) (sym e) (subst (λ n. Leads v actions (patched a now) n) one (record {
      view = IsView-patched a now h.view;
      unfit = h.unfit ∙ ap (λ l. option_map (λ p. index + p) (unfit_at now l)) split ∙ ap (λ b. option_map (λ p. index + p) (cond b (option_map (λ p. p + 1) (unfit_at (patched a now) rest)) (Some 0))) fit ∙ later (unfit_at (patched a now) rest);
      patch = h.patch ∙ ap (patch now) split;
    }))
  where
    later : (o : Option ℕ) → option_map (λ p. index + p) (option_map (λ p. p + 1) o) ≡ option_map (λ p. suc index + p) o
    later None = refl
    later (Some p) = ap (λ k. Some k) (omega arith)

pub leads_nowhere : (v now : List ViewTable) (actions : List ViewAction) (index : ℕ) (a : ViewAction) → Leads v actions now index → index < length actions → a ≡ get_or actions index a → fits a now ≡ false → unfit_at v actions ≡ Some index
leads_nowhere v now actions index a h lt is unfit =
    h.unfit ∙ ap (λ l. option_map (λ p. index + p) (unfit_at now l)) (rest_at actions index a lt is)
    ∙ ap (λ b. option_map (λ p. index + p) (cond b (option_map (λ p. p + 1) (unfit_at (patched a now) (drop (suc index) actions))) (Some 0))) unfit
    ∙ ap (λ k. Some k) (omega arith)

pub leads_all : (v now : List ViewTable) (actions : List ViewAction) (index : ℕ) → Leads v actions now index → index ≡ length actions → (unfit_at v actions ≡ None) × (now ≡ patch v actions) × IsView now
leads_all v now actions index h e =
    let none : drop index actions ≡ [] = Rattle.std.proofs.lemmas.List.drop_all index actions (omega (arith, e)) in
    (h.unfit ∙ ap (λ l. option_map (λ p. index + p) (unfit_at now l)) none, sym (h.patch ∙ ap (patch now) none), h.view)

-- a fault of an action tells where the whole stops
pub told_unfit : {T : Type 0} (r : Result T PatchFault) (fault : PatchFault) (v now : List ViewTable) (actions : List ViewAction) (index : ℕ) (a : ViewAction) → Leads v actions now index → index < length actions → a ≡ get_or actions index a
    → tells_here fault (fits a now) index → IsErrAnd r (λ e. e ≡ fault) → IfErr r (λ fault. tells fault (unfit_at v actions))
told_unfit (Ok x) fault v now actions index a h lt is here same = tt
told_unfit (Err e) (Unfit i) v now actions index a h lt is here same = subst (λ f. tells f (unfit_at v actions)) (sym same) (leads_nowhere v now actions index a h lt is here.0 ∙ ap (λ k. Some k) (sym here.1))
told_unfit (Err e) NoMemory v now actions index a h lt is here same = subst (λ f. tells f (unfit_at v actions)) (sym same) tt
