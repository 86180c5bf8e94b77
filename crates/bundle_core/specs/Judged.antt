-- What a request of an open session was judged to be.
use Rattle.std.specs.Prelude.{ℕ, ⊤, Bool, List, Option, ◌≡◌}
use Rattle.doc_model.specs.declared.request.Request.{Request}
use Rattle.doc_model.specs.Document.{Document}
use Rattle.bundle_judge.specs.declared.judging.JudgedBundle.{JudgedBundle}
use Rattle.bundle_judge.specs.declared.judging.JudgedBundle.TheVariants as judged
use Rattle.bundle_judge.specs.JudgedBundles.{IsJudgedBundle}
use Rattle.bundle_judge.specs.Judgement.{Judgement}
use Rattle.bundle_core.specs.KeptBundles.{actions_asked, actions_of}
use Rattle.bundle_core.specs.Noting.{MayBeUndone}
use Rattle.bundle_core.specs.State.{Holder, Open, State, bundle_of, from_open}

-- a document with open sessions
abbrev pub state_with : Document → List Open → State
state_with s os = record { document = s; open_sessions = os }

-- the request comes to this judgement, kept or not, whoever else has a session open
abbrev pub AsksFor : Holder → Document → Request → Option ℕ → Judgement → Type 0
AsksFor h s r undone judgement =
    (os : List Open) (kept : Bool)
    → from_open (state_with s os) h kept r ≡ bundle_of h undone s kept judgement

-- so it does, and its actions are those of the judgement
pub record Asks (h : Holder) (s : Document) (r : Request) (undone : Option ℕ) (j : Judgement)
    : Type 0 where
  pub comes : AsksFor h s r undone j
  pub actions : actions_asked h s r ≡ actions_of j

-- where an undo was accepted, its bundle is one that the holder may undo
abbrev pub IsOwn : JudgedBundle → Holder → Type 0
IsOwn (judged.Accepted plan) h = MayBeUndone plan.undone h.log
IsOwn (judged.Refused v) h = ⊤

-- a bundle that the request asks for, or an undo, was judged
pub record IsJudgedFor (h : Holder) (s : Document) (r : Request) (b : JudgedBundle) : Type 0 where
  pub judgement : Judgement
  pub undone : Option ℕ
  pub asks : AsksFor h s r undone judgement
  pub actions : actions_asked h s r ≡ actions_of judgement
  pub judged : IsJudgedBundle judgement undone s b
  pub own : IsOwn b h
