-- Before its first turn a connection stands where it began.
use Rattle.std.proofs.Common.{◌≡◌, ℕ, Bool, false, List, [], Option, sym, ap, subst}
use Rattle.io_edges.specs.Reading.{LineState}
use Rattle.doc_model.specs.declared.entry.Entry.{Entry}
use Rattle.snap_reads.specs.declared.past.Past.{Past}
use Rattle.document_shot.specs.declared.past.CoreStart.{CoreStart}
use Rattle.grist_serve.specs.Due.{IsDue, has_turned, standing}
use Rattle.grist_serve.specs.ShotLink.{IsServing}
use Rattle.grist_serve.specs.Standing.{Standing, starts_at}
use Rattle.grist_serve.specs.Turns.{CorePass}
use Rattle.grist_serve.specs.declared.peeking.Due.{Due}
use Rattle.grist_serve.specs.declared.peeking.Due.TheVariants.{NoTurn, NoMark, At}
use Rattle.grist_serve.proofs.ShotLineLaws.{serving_starts}

pub due_none : (due : Due) (pass : CorePass) → has_turned due ≡ false → IsDue due pass
due_none NoTurn pass e = tt
due_none NoMark pass e = tt
due_none (At mark) pass e = absurd (cc)

module _ (due : Due) (pass : CorePass) (known : List (Past CoreStart Entry)) (none : has_turned due ≡ false) where
  abbrev stands_by : Bool → Standing
  stands_by b = record { pass = pass; has_turned = b; known = known }

  same_start : starts_at pass known ≡ standing pass due known
  same_start = ap (λ (b : Bool). stands_by b) (sym none)

  pub serving_first : (name : List ℕ) (l w : Option (List ℕ)) (reader : LineState) → reader.ahead ≡ [] → reader.turns ≡ 0 → IsServing name l l (starts_at pass known) (standing pass due known) w w reader
  serving_first name l w reader ahead turns =
      subst (λ (s : Standing). IsServing name l l (starts_at pass known) s w w reader) same_start (serving_starts name l (starts_at pass known) w reader ahead turns)
