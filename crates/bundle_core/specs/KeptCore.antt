-- A core with what is told of its keeper.
use Rattle.std.specs.Prelude.{ℕ, ◌+◌, ◌-◌, ◌^◌, ◌≡◌, ◌≤◌, Bool, true, false, List, [], ◌++◌, length, min, Option, IfSome, option_map}
use Rattle.io_edges.specs.Causes.{Rose}
use Rattle.doc_model.specs.declared.entry.Entry.{Entry}
use Rattle.doc_model.specs.declared.request.Request.{Request}
use Rattle.doc_model.specs.declared.user.User.{User}
use Rattle.doc_model.specs.Document.{Document}
use Rattle.doc_model.specs.NewDocument.{new_document}
use Rattle.doc_opening.specs.Opening.{Opens, opened, opens}
use Rattle.bundle_records.specs.Ledger.{Ledger, OpensTo}
use Rattle.bundle_core.specs.Core.{CoreState, IsStep, entry_of, marked, state_after}
use Rattle.bundle_core.specs.KeptBundles.{not_kept, records_of, with_record}
use Rattle.bundle_core.specs.State.{State, one_if_bundle, opening, records_kept, verdicts}

-- the records of a keeper as its core was started, and how often it had failed then; those now, and
-- how often it has failed now
pub record Kept : Type 0 where
  pub opening : Option (List (List ℕ))
  pub before : ℕ
  pub records : Option (List (List ℕ))
  pub faults : ℕ

pub record KeptCore : Type 0 where
  pub state : CoreState
  pub kept : Kept

-- the state that a core's history leads to
abbrev pub state_now : CoreState → State
state_now c = state_after c.users c.start c.history

-- started with these users, from a keeper of which this was told
pub record IsStarted (given : List User) (told : Option (List (List ℕ))) (before : ℕ)
    (c : KeptCore) : Type 0 where
  pub users : c.state.users ≡ given
  pub first : c.state.history ≡ []
  pub number : ℕ
  pub opens : Opens told new_document c.state.start number
  pub opening : c.kept.opening ≡ told
  pub records : c.kept.records ≡ told
  pub later : before ≤ c.kept.before
  pub faults : c.kept.faults ≡ c.kept.before

-- whether a bundle would be accepted where it is kept
abbrev pub would_be_kept : List User → State → Entry → Type 0
would_be_kept users st e = (verdicts users st (marked e true)).is_bundle ≡ true

-- what an entry does to what is told of a keeper: one record more where its bundle is accepted and
-- kept; it is not kept only where the keeper failed
pub record Keeps (users : List User) (st : State) (e : Entry) (old new : Ledger) : Type 0 where
  pub told : new.told ≡ with_record users st e old.told
  pub count : new.count ≡ old.count + one_if_bundle (verdicts users st e)
  pub failed : e.kept ≡ false → Rose old.faults new.faults
  pub would : e.kept ≡ false → would_be_kept users st e

-- the same of a core
pub record KeepsOn (old new : KeptCore) (e : Entry) : Type 0 where
  pub opening : new.kept.opening ≡ old.kept.opening
  pub before : new.kept.before ≡ old.kept.before
  pub records : new.kept.records
      ≡ with_record old.state.users (state_now old.state) e old.kept.records
  pub later : old.kept.faults ≤ new.kept.faults
  pub failed : e.kept ≡ false → Rose old.kept.faults new.kept.faults
  pub would : e.kept ≡ false → would_be_kept old.state.users (state_now old.state) e

-- the request was taken, and its session was given these lines
pub record IsTaken (old new : KeptCore) (session : List ℕ) (r : Request) (size : ℕ)
    (lines : List (List ℕ)) : Type 0 where
  pub kept : Bool
  pub taken : IsStep old.state new.state (entry_of session r size kept) lines
  pub keeps : KeepsOn old new (entry_of session r size kept)

-- nothing at all changed, the keeper's count of faults neither
pub record IsUnchanged (old new : KeptCore) : Type 0 where
  pub state : new.state ≡ old.state
  pub opening : new.kept.opening ≡ old.kept.opening
  pub before : new.kept.before ≡ old.kept.before
  pub records : new.kept.records ≡ old.kept.records
  pub faults : new.kept.faults ≡ old.kept.faults

-- the told records are those of the opening and then those of the history; those lead to the
-- opening document, and all of them to the document now; the keeper failed once at least for each
-- entry that was not kept
pub record IsKeeping (c : KeptCore) : Type 0 where
  pub records : c.kept.records
      ≡ option_map (λ rs. rs ++ records_of c.state.users (opening c.state.start) (length rs)
      c.state.history) c.kept.opening
  pub begins : OpensTo c.kept.opening c.state.start
  pub reopens : OpensTo c.kept.records (state_now c.state).document
  pub counted : min (c.kept.before + not_kept c.state.history) (2 ^ 64 - 1) ≤ c.kept.faults

-- ---- how a core keeps it

-- these records are so many at the opening, which lead to its document, and then those of the
-- history
pub record HasRecords (users : List User) (start : Document) (es : List Entry) (number : ℕ)
    (rs : List (List ℕ)) : Type 0 where
  pub first : List (List ℕ)
  pub count : length first ≡ number
  pub leads : opened first ≡ opens start
  pub whole : rs ≡ first ++ records_of users (opening start) number es

pub record IsKeptFrom (users : List User) (start : Document) (es : List Entry) (number before : ℕ)
    (l : Ledger) (s : Document) : Type 0 where
  pub told : IfSome l.told (HasRecords users start es number)
  pub reopens : OpensTo l.told s
  pub counted : min (before + not_kept es) (2 ^ 64 - 1) ≤ l.faults
  pub count : l.count ≡ number + records_kept users (opening start) es
