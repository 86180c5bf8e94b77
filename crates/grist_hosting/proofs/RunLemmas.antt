-- Runs that opened no document, and which words ask for a server.
use Rattle.std.proofs.Common.{◌≡◌, ◌==◌, ℕ, ◌≤◌, Bool, true, false, List, [], Option, Some, None, refl, sym, ◌∙◌, subst, arith}
use Rattle.std.specs.Io.KnownBytes.{Keeps}
use Rattle.doc_model.specs.NewDocument.{new_document}
use Rattle.doc_model.specs.declared.entry.Entry.{Entry}
use Rattle.doc_model.specs.declared.user.User.{User}
use Rattle.doc_opening.specs.declared.opening.StartCause.{StartCause}
use Rattle.doc_opening.specs.declared.opening.StartCause.TheVariants as cause
use Rattle.io_edges.specs.Causes.{Rose}
use Rattle.io_edges.specs.Ports.{PortState}
use Rattle.io_edges.proofs.SendingLemmas.{appends_none}
use Rattle.grist_lanes.specs.Services.{Telling}
use Rattle.run_words.specs.declared.plans.Plan.{Plan}
use Rattle.run_words.specs.declared.plans.Plan.TheVariants.{Audit, Gen, Replay, Serve}
use Rattle.run_words.specs.Words.{is_audit, is_replay, lanes_of, rows_of}
use Rattle.grist_run.specs.declared.status.Status.{Status}
use Rattle.grist_run.specs.declared.status.Status.TheVariants.{Done, Usage, BadUsers, ReadFault, WriteFault, StoreFault, NoMemory, BadStore, TurnsSpent, PortFault, HistoryFull}
use Rattle.doc_model.specs.Document.{Document}
use Rattle.grist_run.specs.Generated.{Generates}
use Rattle.grist_run.specs.Starting.{start_status}
use Rattle.grist_run.proofs.ReplayLaws.{none_replays, start_keeps, usage_replays}
use Rattle.grist_hosting.specs.Hosting.{HostsNothing, IsHosting, asks_lanes, is_done_over, is_serve}
use Rattle.users_alone.specs.UsersAlone.{SaysUsers, StopsAlone}

-- ---- which words ask for a server

apart : {P : Type 0} → true ≡ false → P
apart e = let never : ⊥ = cc e in absurd never

pub replay_done : (n : ℕ) (p : Option Plan) → is_replay p ≡ true → (is_done_over n p ≡ true) × (is_serve p ≡ false)
replay_done n None e = apart (sym e)
replay_done n (Some (Replay doc watch)) e = (refl, refl)
replay_done n (Some (Serve lanes port conns doc watch)) e = apart (sym e)
replay_done n (Some (Gen k)) e = apart (sym e)
replay_done n (Some (Audit doc)) e = apart (sym e)

pub serve_done : (n : ℕ) (p : Option Plan) → asks_lanes n (lanes_of p) ≡ true → (is_done_over n p ≡ true) × (is_serve p ≡ true)
serve_done n None e = apart (sym e)
serve_done n (Some (Replay doc watch)) e = apart (sym e)
serve_done n (Some (Serve lanes port conns doc watch)) e = (e, refl)
serve_done n (Some (Gen k)) e = apart (sym e)
serve_done n (Some (Audit doc)) e = apart (sym e)

some_apart : {P : Type 0} {k : ℕ} → Some k ≡ None → P
some_apart e = let never : ⊥ = cc e in absurd never

pub not_done : (n : ℕ) (p : Option Plan) → is_replay p ≡ false → rows_of p ≡ None → is_audit p ≡ false → asks_lanes n (lanes_of p) ≡ false → is_done_over n p ≡ false
not_done n None r g a e = refl
not_done n (Some (Replay doc watch)) r g a e = apart r
not_done n (Some (Serve lanes port conns doc watch)) r g a e = e
not_done n (Some (Gen k)) r g a e = some_apart g
not_done n (Some (Audit doc)) r g a e = apart a

-- ---- which words ask for an audit

pub audit_done : (n : ℕ) (p : Option Plan) → is_audit p ≡ true → (is_done_over n p ≡ true) × (is_serve p ≡ false) × (rows_of p ≡ None)
audit_done n None e = apart (sym e)
audit_done n (Some (Replay doc watch)) e = apart (sym e)
audit_done n (Some (Serve lanes port conns doc watch)) e = apart (sym e)
audit_done n (Some (Gen k)) e = apart (sym e)
audit_done n (Some (Audit doc)) e = (refl, refl, refl)

pub replay_no_audit : (p : Option Plan) → is_replay p ≡ true → is_audit p ≡ false
replay_no_audit None e = refl
replay_no_audit (Some (Replay doc watch)) e = refl
replay_no_audit (Some (Serve lanes port conns doc watch)) e = refl
replay_no_audit (Some (Gen k)) e = refl
replay_no_audit (Some (Audit doc)) e = apart (sym e)

pub serve_no_audit : (n : ℕ) (p : Option Plan) → asks_lanes n (lanes_of p) ≡ true → is_audit p ≡ false
serve_no_audit n None e = refl
serve_no_audit n (Some (Replay doc watch)) e = refl
serve_no_audit n (Some (Serve lanes port conns doc watch)) e = refl
serve_no_audit n (Some (Gen k)) e = refl
serve_no_audit n (Some (Audit doc)) e = apart (sym e)

pub generated_no_audit : (p : Option Plan) (k : ℕ) → rows_of p ≡ Some k → is_audit p ≡ false
generated_no_audit None k g = refl
generated_no_audit (Some (Replay doc watch)) k g = refl
generated_no_audit (Some (Serve lanes port conns doc watch)) k g = refl
generated_no_audit (Some (Gen n)) k g = refl
generated_no_audit (Some (Audit doc)) k g = some_apart (sym g)

-- ---- which words ask for a generated run

pub replay_no_rows : {P : Type 0} (p : Option Plan) (k : ℕ) → is_replay p ≡ true → rows_of p ≡ Some k → P
replay_no_rows None k e g = apart (sym e)
replay_no_rows (Some (Replay doc watch)) k e g = some_apart (sym g)
replay_no_rows (Some (Serve lanes port conns doc watch)) k e g = apart (sym e)
replay_no_rows (Some (Gen n)) k e g = apart (sym e)
replay_no_rows (Some (Audit doc)) k e g = apart (sym e)

pub serve_no_rows : {P : Type 0} (n : ℕ) (p : Option Plan) (k : ℕ) → asks_lanes n (lanes_of p) ≡ true → rows_of p ≡ Some k → P
serve_no_rows n None k e g = apart (sym e)
serve_no_rows n (Some (Replay doc watch)) k e g = apart (sym e)
serve_no_rows n (Some (Serve lanes port conns doc watch)) k e g = some_apart (sym g)
serve_no_rows n (Some (Gen m)) k e g = apart (sym e)
serve_no_rows n (Some (Audit doc)) k e g = apart (sym e)

pub generated_done : (n : ℕ) (p : Option Plan) (k : ℕ) → rows_of p ≡ Some k → (is_done_over n p ≡ true) × (is_serve p ≡ false)
generated_done n None k g = some_apart (sym g)
generated_done n (Some (Replay doc watch)) k g = some_apart (sym g)
generated_done n (Some (Serve lanes port conns doc watch)) k g = some_apart (sym g)
generated_done n (Some (Gen m)) k g = (refl, refl)
generated_done n (Some (Audit doc)) k g = some_apart (sym g)

pub generated_no_replay : {P : Type 0} (p : Option Plan) (k : ℕ) → rows_of p ≡ Some k → rows_of p ≡ None → P
generated_no_replay p k g e = some_apart (sym g ∙ e)

pub same_rows : (p : Option Plan) (k n : ℕ) → rows_of p ≡ Some k → rows_of p ≡ Some n → k ≡ n
same_rows p k n is e = let same : Some k ≡ Some n = sym is ∙ e in cc

pub generates_none : (s : Status) (us : List User) (start : Document) (rows : ℕ) (h : List Entry) (w z : Option (List ℕ)) → Generates us start rows h w z s → s ≡ Usage → ⊥
generates_none s us start rows h w z done is = subst (λ t. Generates us start rows h w z t) is done

pub not_both : {P : Type 0} (b : Bool) → b ≡ true → b ≡ false → P
not_both b is not = apart (sym is ∙ not)

-- ---- no document was opened

keeps_itself : (l : Option (List ℕ)) → Keeps l l
keeps_itself None = tt
keeps_itself (Some bytes) = refl

module _ {Conn : Type 0} (t : Telling Conn) (w : Option (List ℕ)) (f : ℕ) (told now : Option (List (List ℕ))) (same : now ≡ told) (before after : ℕ) (le : before ≤ after) (ports : List (PortState Conn)) where
  pub none_hosted : (l : Option (List ℕ)) → IsHosting t NoMemory l l [] w w f f told now before after ports ports
  none_hosted l = let r = none_replays l w told now same before after le in record {
    users = r.users;
    start = r.start;
    hosts = record { none = refl; ports_are = refl; written = appends_none w };
    keeper = r.keeper;
  }

  pub usage_hosted : (l : Option (List ℕ)) → IsHosting t Usage l l [] w w f f told now before after ports ports
  usage_hosted l = let r = usage_replays l w told now same before after le in record {
    users = r.users;
    start = r.start;
    hosts = (record { none = refl; ports_are = refl; written = appends_none w }, keeps_itself l);
    keeper = r.keeper;
  }

  -- the core did not start
  pub start_hosted : (l m : Option (List ℕ)) (users : List User) → SaysUsers l m users → (c : StartCause) → (c ≡ cause.StoreFault → Rose before after) → IsHosting t (start_status c) l m [] w w f f told now before after ports ports
  start_hosted l m users says cause.StoreFault rose = record {
    users = users;
    start = new_document;
    hosts = (record { none = refl; ports_are = refl; written = appends_none w }, says);
    keeper = start_keeps told now same before after users cause.StoreFault le rose;
  }
  start_hosted l m users says (cause.BadStore number) rose = record {
    users = users;
    start = new_document;
    hosts = (record { none = refl; ports_are = refl; written = appends_none w }, says);
    keeper = start_keeps told now same before after users (cause.BadStore number) le rose;
  }
  start_hosted l m users says cause.NoMemory rose = record {
    users = users;
    start = new_document;
    hosts = record { none = refl; ports_are = refl; written = appends_none w };
    keeper = start_keeps told now same before after users cause.NoMemory le rose;
  }

  -- the users were not heard to their end
  pub heard_hosted : (l m : Option (List ℕ)) (status : Status) → StopsAlone status l m → IsHosting t status l m [] w w f f told now before after ports ports
  heard_hosted l m Done e = absurd e
  heard_hosted l m Usage e = absurd e
  heard_hosted l m (BadUsers number) e = let k = (none_hosted l).keeper in record {
    users = (none_hosted l).users;
    start = (none_hosted l).start;
    hosts = (record { none = refl; ports_are = refl; written = appends_none w }, e);
    keeper = record { records = k.records; begins = k.begins; reopens = k.reopens; faults = k.faults };
  }
  heard_hosted l m ReadFault e = let k = (none_hosted l).keeper in record {
    users = (none_hosted l).users;
    start = (none_hosted l).start;
    hosts = (record { none = refl; ports_are = refl; written = appends_none w }, e);
    keeper = record { records = k.records; begins = k.begins; reopens = k.reopens; faults = k.faults };
  }
  heard_hosted l m WriteFault e = absurd e
  heard_hosted l m StoreFault e = absurd e
  heard_hosted l m NoMemory e = let k = (none_hosted l).keeper in record {
    users = (none_hosted l).users;
    start = (none_hosted l).start;
    hosts = record { none = refl; ports_are = refl; written = appends_none w };
    keeper = record { records = k.records; begins = k.begins; reopens = k.reopens; faults = k.faults };
  }
  heard_hosted l m (BadStore number) e = absurd e
  heard_hosted l m TurnsSpent e = let k = (none_hosted l).keeper in record {
    users = (none_hosted l).users;
    start = (none_hosted l).start;
    hosts = (record { none = refl; ports_are = refl; written = appends_none w }, e);
    keeper = record { records = k.records; begins = k.begins; reopens = k.reopens; faults = k.faults };
  }
  heard_hosted l m PortFault e = absurd e
  heard_hosted l m HistoryFull e = absurd e

-- the same, told by an outcome
module _ {Conn : Type 0} {t : Telling Conn} {l m w z : Option (List ℕ)} {f f' : ℕ} {told now : Option (List (List ℕ))} {before after : ℕ} {ports ports_new : List (PortState Conn)} where
  pub hosting_told : (status as_told : Status) (h k : List Entry) → as_told ≡ status → k ≡ h → IsHosting t status l m h w z f f' told now before after ports ports_new → IsHosting t as_told l m k w z f f' told now before after ports ports_new
  hosting_told status as_told h k same is r =
      subst (λ (s : Status). IsHosting t s l m k w z f f' told now before after ports ports_new) (sym same) (subst (λ (es : List Entry). IsHosting t status l m es w z f f' told now before after ports ports_new) (sym is) r)
