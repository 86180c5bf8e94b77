-- What is replied to who asks for a table.
use Rattle.std.proofs.Common.{◌≡◌, ℕ, List, [], ◌∷◌, refl, sym, ap, ◌∙◌}
use Rattle.doc_model.specs.declared.refusal.Refusal.TheVariants.{NoSuchTable}
use Rattle.doc_model.specs.declared.request.Request.TheVariants.{Fetch}
use Rattle.doc_model.specs.declared.verdict.Verdict.TheVariants.{Changes}
use Rattle.doc_model.specs.declared.view.ViewTable.{ViewTable}
use Rattle.doc_model.specs.Changes.{changes}
use Rattle.grist_json.specs.Lines.{reply_text}
use Rattle.bundle_core.specs.Mailbox.{asked_table, replies}
use Rattle.bundle_core.specs.Replies.{reply_of}
use Rattle.bundle_core.specs.State.{refusal, shown_if_any}

-- the table is there, and is shown
pub fetched_some : (table : List ℕ) (v asked : List ViewTable) (line : List ℕ) → asked ≡ asked_table table v → (asked ≡ [] → ⊥) → line ≡ reply_text (Changes (changes [] asked))
    → replies (Fetch table) (shown_if_any (asked_table table v)) v ≡ line ∷ []
fetched_some table v [] line is some e = absurd (some refl)
fetched_some table v (t ∷ ts) line is some e =
    ap (λ us. replies (Fetch table) (shown_if_any us) v) (sym is)
    ∙ ap (λ us. reply_text (Changes (changes [] us)) ∷ []) (sym is)
    ∙ ap (λ l. l ∷ []) (sym e)

-- there is none to show
pub fetched_none : (table : List ℕ) (v asked : List ViewTable) (line : List ℕ) → asked ≡ asked_table table v → asked ≡ [] → line ≡ reply_of (refusal NoSuchTable)
    → replies (Fetch table) (shown_if_any (asked_table table v)) v ≡ line ∷ []
fetched_none table v asked line is none e =
    ap (λ us. replies (Fetch table) (shown_if_any us) v) (sym is ∙ none)
    ∙ ap (λ l. l ∷ []) (sym e)
