-- A line as far as it is kept says and asks for what the line does.
use Rattle.std.proofs.Common.{◌≡◌, ℕ, List, Bool, true, false, refl, ap}
use Rattle.doc_model.specs.declared.user.User.{User}
use Rattle.io_edges.specs.Lines.{is_long, kept_of}
use Rattle.io_edges.proofs.Kept.{kept_long, kept_short}
use Rattle.grist_run.specs.Script.{line_entries}
use Rattle.grist_run.specs.UserLines.{saying}

module _ (text : List ℕ) where
  entries_by : (b : Bool) → is_long text ≡ b → line_entries (kept_of text) ≡ line_entries text
  entries_by true e = rw (kept_long text e, e) refl
  entries_by false e = ap line_entries (kept_short text e)

  pub kept_entries : line_entries (kept_of text) ≡ line_entries text
  kept_entries = entries_by (is_long text) refl

  saying_by : (users : List User) (b : Bool) → is_long text ≡ b → saying users (kept_of text) ≡ saying users text
  saying_by users true e = rw (kept_long text e, e) refl
  saying_by users false e = ap (saying users) (kept_short text e)

  pub kept_saying : (users : List User) → saying users (kept_of text) ≡ saying users text
  kept_saying users = saying_by users (is_long text) refl
