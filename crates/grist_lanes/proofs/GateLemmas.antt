-- Lanes at one gate: what they are when they begin, and what they come to when it is closed.
use Rattle.std.proofs.Common.{◌≡◌, ℕ, zero, suc, ◌<◌, ◌≤◌, All, List, [], ◌∷◌, length, map, Some, slice_get, slice_index_or, option_map, refl, sym, ap, ◌∙◌, subst, arith}
use Rattle.std.specs.List.{AllByRecursion}
use Rattle.std.proofs.lemmas.List.{length-map}
use Rattle.std.proofs.lemmas.Option.{slice_get-map}
use Rattle.doc_model.specs.declared.entry.Entry.{Entry}
use Rattle.io_edges.specs.Ports.{PortState}
use Rattle.session_gate.specs.declared.known.Made.{Made}
use Rattle.session_gate.specs.Gate.{AreAllNew, IsWhole}
use Rattle.session_gate.specs.History.{entries_of}
use Rattle.session_gate.specs.Rule.{IsBelow}
use Rattle.session_gate.specs.Views.{GateView}
use Rattle.bundle_core.specs.declared.machine.CoreOpening.{CoreOpening}
use Rattle.grist_serve.specs.Turns.{CorePass}
use Rattle.grist_lanes.specs.InHistory.{ServesLanes, began_of}
use Rattle.grist_lanes.specs.Places.{AtEach}
use Rattle.grist_lanes.specs.Services.{Known, ServesLane, Telling, lane_view}
use Rattle.grist_lanes.specs.Sessions.{AreOfNoLane}
use Rattle.grist_lanes.proofs.ServedLemmas.{lanes_served}

module _ {A B : Type 0} (f : A → B) (P : B → Type 0) where
  pub all_at : (xs : List A) → All P (map f xs) → (k : ℕ) (d : A) → k < length xs → P (f (slice_index_or xs k d))
  all_at [] all k d low = absurd (omega arith)
  all_at (x ∷ xs) all zero d low = all 0 (f d) (omega arith)
  all_at (x ∷ xs) all (suc k) d low = all_at xs (λ j e below. all (suc j) e (omega arith)) k d (omega arith)

  pub all_over : (xs : List A) → All (λ x. P (f x)) xs → All P (map f xs)
  all_over [] all k d low = absurd (omega arith)
  all_over (x ∷ xs) all zero d low = all 0 x (omega arith)
  all_over (x ∷ xs) all (suc k) d low = all_over xs (λ j e below. all (suc j) e (omega arith)) k d (omega arith)

pub all_mapped : {A B : Type 0} (f : A → B) (P : B → Type 0) (xs : List A) → AllByRecursion P (map f xs) → AllByRecursion (λ x. P (f x)) xs
all_mapped f P [] all = tt
all_mapped f P (x ∷ xs) all = (all.0, all_mapped f P xs all.1)

there : {A : Type 0} (P : A → Type 0) (xs : List A) (i : ℕ) (x : A) → AllByRecursion P xs → slice_get xs i ≡ Some x → P x
there P [] i x all at = let never : ⊥ = cc in absurd never
there P (y ∷ xs) zero x all at = let is : y ≡ x = cc in subst P is all.0
there P (y ∷ xs) (suc i) x all at = there P xs i x all.1 at

pub map_twice : {A B C : Type 0} (f : A → B) (g : B → C) (xs : List A) → map (λ x. g (f x)) xs ≡ map g (map f xs)
map_twice f g [] = refl
map_twice f g (x ∷ xs) = ap (λ ys. g (f x) ∷ ys) (map_twice f g xs)

module _ {Lane Conn M Ev Out : Type 0} (t : Telling Conn) (history : M → List Entry) (opening : M → CoreOpening) (takes : Ev → Type 0) (answers : CoreOpening → List Entry → List Entry → Ev → Out → Type 0) (gate : GateView M) (m : M) (port : Lane → PortState Conn) (pass : Lane → CorePass) (known : Lane → Known) (lanes lanes' : List Lane) (passes passes' : List CorePass) (log : List (Made Entry)) where
  pub gate_served : AreAllNew history opening gate passes → map pass lanes ≡ passes → passes' ≡ map pass lanes' → length lanes' ≡ length lanes
      → AllByRecursion (λ l. known l ≡ began_of (opening gate.start) (history gate.start) ∷ []) lanes
      → AtEach (λ i l l'. ServesLane t (suc i) (port l) (port l') (lane_view (pass l) (known l)) (lane_view (pass l') (known l'))) lanes lanes' → length lanes ≤ 64 → AreOfNoLane (history gate.start)
      → IsWhole history opening takes answers gate m passes' log
      → ServesLanes t (opening gate.start) (history gate.start) (history m) (map port lanes) (map port lanes')
  gate_served new joined parted count told serves few none whole =
      let made : gate.made ≡ length lanes = sym new.count ∙ ap length (sym joined) ∙ length-map lanes pass in
      let begun = began_of (opening gate.start) (history gate.start) in
      let served = lanes_served t (opening gate.start) (history gate.start) log port (λ l. lane_view (pass l) (known l)) lanes lanes' count
      (λ i l at. let is = new.each i (pass l) (ap (λ ps. slice_get ps i) (sym joined) ∙ slice_get-map pass lanes i ∙ ap (option_map pass) at) in
      record { number = is.number; opening_is = is.opening; seen = is.seen; told = there (λ k. known k ≡ begun ∷ []) lanes i l told at })
      (λ i l at. whole.each i (pass l) (ap (λ ps. slice_get ps i) parted ∙ slice_get-map pass lanes' i ∙ ap (option_map pass) at))
      serves few none whole.begins
      (λ i x at le. subst (λ n. IsBelow n x.by) made (whole.numbered i x at le)) in
      subst (λ h. ServesLanes t (opening gate.start) (history gate.start) h (map port lanes) (map port lanes')) (sym whole.history_is) served
