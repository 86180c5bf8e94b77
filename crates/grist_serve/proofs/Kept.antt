-- A line as far as it is kept asks for what the line does.
use Rattle.std.proofs.Common.{◌≡◌, ℕ, List, Bool, true, false, refl, ap, ◌∙◌}
use Rattle.io_edges.specs.Lines.{is_long, kept_of}
use Rattle.io_edges.proofs.Kept.{kept_long, kept_short}
use Rattle.doc_model.specs.declared.request.Request.{Request}
use Rattle.doc_model.specs.declared.request.Request.TheVariants.{Bad, TooLong, Open, Apply, Undo, Sync, Fetch, Rename, Close, Gone}
use Rattle.grist_json.specs.Requests.{Spells}
use Rattle.bundle_core.specs.Core.{is_gone}
use Rattle.grist_serve.specs.Answered.{line_asks, peek_or, peeked_table}
use Rattle.grist_serve.specs.Requests.{line_entries}

module _ (name text : List ℕ) where
  entries_by : (b : Bool) → is_long text ≡ b → line_entries name (kept_of text) ≡ line_entries name text
  entries_by true e = rw (kept_long text e, e) refl
  entries_by false e = ap (line_entries name) (kept_short text e)

  pub kept_entries : line_entries name (kept_of text) ≡ line_entries name text
  kept_entries = entries_by (is_long text) refl

-- it asks for the same peek
table_by : (text : List ℕ) (b : Bool) → is_long text ≡ b → peeked_table (kept_of text) ≡ peeked_table text
table_by text true e = rw (kept_long text e, e) refl
table_by text false e = ap peeked_table (kept_short text e)

pub kept_asks : (name text : List ℕ) → line_asks name (kept_of text) ≡ line_asks name text
kept_asks name text =
    ap (λ o. peek_or o (line_entries name (kept_of text))) (table_by text (is_long text) refl)
    ∙ ap (peek_or (peeked_table text)) (kept_entries name text)

-- no line spells the end of a connection
pub stays_open : (r : Request) (text : List ℕ) → Spells r text → is_gone r ≡ false
stays_open Bad text s = refl
stays_open TooLong text s = refl
stays_open (Open token) text s = refl
stays_open (Apply actions) text s = refl
stays_open (Undo bundle) text s = refl
stays_open Sync text s = refl
stays_open (Fetch table) text s = refl
stays_open (Rename table column new) text s = refl
stays_open Close text s = refl
stays_open Gone text s = absurd s.2
