-- A connection that ended `Full` found the history nearly full.
use Rattle.std.proofs.Common.{◌≡◌, ℕ, ◌+◌, ◌≤◌, ◌⊎◌, Bool, true, false, ◌&&◌, ◌||◌, nat_le, nat_lt, Option, leb-true, ltb-true, ltb-false, if◌then◌else◌, List, [], ◌∷◌, ◌++◌, length, map, sum_by, inl, inr, ⊎_elim, not, refl, ap, ◌∙◌, subst, arith, append_assoc, length-append}
use Rattle.std.specs.List.{AllByRecursion}
use Rattle.std.proofs.lemmas.List.{map-append}
use Rattle.std.proofs.lemmas.List.Sums.{sum_by-append}
use Rattle.doc_model.specs.declared.entry.Entry.{Entry}
use Rattle.doc_model.specs.declared.request.Request.{Request}
use Rattle.doc_model.specs.declared.request.Request.TheVariants.{TooLong}
use Rattle.io_edges.specs.declared.session_end.SessionEnd.TheVariants.{Full}
use Rattle.session_gate.specs.declared.known.Made.{Made}
use Rattle.session_gate.specs.History.{entries_of, entry_of, made_by}
use Rattle.bundle_core.specs.Core.{is_full, is_gone, size_of}
use Rattle.bundle_core.specs.Core as core
use Rattle.bundle_core.specs.declared.machine.CoreOpening.{CoreOpening}
use Rattle.grist_serve.specs.Link.{DoesNothing, TellsGone}
use Rattle.grist_serve.specs.ShotLink.{EndsBy, ServesShotLink, StopsFull}
use Rattle.grist_serve.specs.Standing.{Standing, starts_at}
use Rattle.grist_json.specs.Requests.{request_at}
use Rattle.io_edges.specs.Lines.{is_blank, is_long}
use Rattle.grist_serve.specs.Requests.{asked_by, line_entries}
use Rattle.grist_serve.specs.Turns.{entry_in}
use Rattle.grist_lanes.specs.FullEnds.{FullLaw, IsNearlyFull}
use Rattle.grist_lanes.specs.InHistory.{Begins, IsInHistory}
use Rattle.grist_lanes.specs.Services.{Service, Telling}
use Rattle.grist_lanes.proofs.AskLemmas.{AsksBy, line_asks_by}

-- one of the two bounds is met
one_met : (gone many large : Bool) → not gone && (many || large) ≡ true → (many ≡ true) ⊎ (large ≡ true)
one_met true many large e = let never : ⊥ = cc e in absurd never
one_met false true large e = inl refl
one_met false false large e = inr e

nearly : (es : List Entry) (r : Request) (size : ℕ) → size ≤ 1048577 → is_full es r size ≡ true → IsNearlyFull es
nearly es r size small full =
    ⊎_elim (λ m. inl (leb-true 1048576 (length es) m))
    (λ l. let past = ltb-true 268435456 (sum_by size_of es + size) l in inr (omega (arith, past, small)))
    (one_met (is_gone r) (nat_le 1048576 (length es)) (nat_lt 268435456 (sum_by size_of es + size)) full)

-- a history that begins with a nearly full one is nearly full
longer : (first whole : List Entry) → Begins first whole → IsNearlyFull first → IsNearlyFull whole
longer first whole b n =
    let count = ap length b.split ∙ length-append first b.rest in
    let sum = ap (sum_by size_of) b.split ∙ sum_by-append size_of first b.rest in
    ⊎_elim (λ m. inl (omega (arith, m, count))) (λ l. inr (omega (arith, l, sum))) n

-- no entry of a line is larger than a longest line and a byte
abbrev pub IsSmall : Entry → Type 0
IsSmall e = e.size ≤ 1048577

within : (name text : List ℕ) (long blank : Bool) → (long ≡ false → length text ≤ 1048576)
    → AllByRecursion IsSmall (if long then core.entry_of name TooLong 1048577 true ∷ [] else if blank then [] else core.entry_of name (asked_by (request_at text)) (length text) true ∷ [])
within name text true blank few = (omega arith, tt)
within name text false true few = tt
within name text false false few = (omega (arith, few refl), tt)

are_small : (name text : List ℕ) → AllByRecursion IsSmall (line_entries name text)
are_small name text = within name text (is_long text) (is_blank text) (λ short. ltb-false 1048576 (length text) short)

module _ {Conn : Type 0} (t : Telling Conn) (o : CoreOpening) (history : List Entry) (name : List ℕ) (s : Service Conn) (within_history : IsInHistory t o history name s) where
  -- what was seen when the history was found full begins the whole one
  module _ (end : Standing) (gone : TellsGone name end.pass s.new.pass) where
    seen_first : Begins (entries_of end.pass.seen) history
    seen_first =
        let later : List (Made Entry) = map (made_by end.pass.number) (map entry_in gone.turns) in
        let more : List (Made Entry) = gone.between ++ later in
        let parts : s.new.pass.seen ≡ end.pass.seen ++ more = gone.seen ∙ append_assoc end.pass.seen gone.between later in
        record {
          rest = entries_of more ++ within_history.seen.rest;
          split = within_history.seen.split ∙ ap (λ z. entries_of z ++ within_history.seen.rest) parts
              ∙ ap (λ z. z ++ within_history.seen.rest) (map-append entry_of end.pass.seen more)
              ∙ append_assoc (entries_of end.pass.seen) (entries_of more) within_history.seen.rest;
        }

    found : {old : Standing} {l l' w w' : Option (List ℕ)} → StopsFull name l l' old end w w' → IsNearlyFull history
    found f =
        let small = subst (AllByRecursion (AsksBy IsSmall)) f.asks (line_asks_by IsSmall name (are_small name) f.last) in
        longer (entries_of end.pass.seen) history seen_first (nearly (entries_of end.pass.seen) f.request.request f.request.size small.0 f.full)

  ended : s.end ≡ Full → {l l' w w' : Option (List ℕ)} → ServesShotLink s.end name l l' s.old.pass s.new.pass s.old.known s.new.known w w' → IsNearlyFull history
  ended is {l} {l'} {w} {w'} serves =
      found serves.before_end serves.gone (subst (λ e. EndsBy e name l l' (starts_at s.old.pass s.old.known) serves.before_end w w') is serves.lines)

  nothing : s.end ≡ Full → {l l' w w' : Option (List ℕ)} → DoesNothing s.end l l' s.old.pass s.new.pass w w' × (s.new.known ≡ s.old.known) → IsNearlyFull history
  nothing is none = let never : ⊥ = cc (is, none.0.end_is) in absurd never

pub full-law : {Conn : Type 0} (t : Telling Conn) → FullLaw t
full-law t o history name s served inside is =
    ⊎_elim (ended t o history name s inside is) (nothing t o history name s inside is) served.serves
