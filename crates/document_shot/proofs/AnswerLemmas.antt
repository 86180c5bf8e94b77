-- What a shot that stands for a history is answered by.
use Rattle.std.proofs.Common.{◌≡◌, ℕ, Bool, true, false, List, [], ◌∷◌, map, find, Option, Some, None, is_some, refl, sym, ap, ◌∙◌, if◌then◌else◌}
use Rattle.std.proofs.lemmas.Bool.{false≢true}
use Rattle.std.specs.Option.{option_map}
use Rattle.std.specs.Str.{bytes_eq}
use mathlib.Core.Path.{fun_ext}
use Rattle.cell_types.specs.declared.value.CellValue.{CellValue}
use Rattle.cell_types.specs.declared.value.CellValue.TheVariants.{Null}
use Rattle.doc_model.proofs.Choices.{map-map}
use Rattle.doc_model.specs.ByIds.{find_id}
use Rattle.doc_model.specs.Document.{Document, Table, table_id}
use Rattle.doc_model.specs.LaidOut.{IsLaidOut}
use Rattle.doc_model.specs.declared.user.User.{User}
use Rattle.doc_model.specs.declared.view.ViewTable.{ViewTable}
use Rattle.acl_reading.specs.RulesLet.{rules_let}
use Rattle.acl_rules.specs.declared.decision.Ctx.{Ctx}
use Rattle.censored_view.specs.View.{view as shown_by}
use Rattle.plain_view.proofs.PartLemmas.{find-mapped}
use Rattle.recalc.specs.Evaluated.{filled, filled_by}
use Rattle.rule_contexts.specs.Context.{context, context_over, view}
use Rattle.shot_cells.specs.Changes.{nothing_seen}
use Rattle.shot_cells.specs.Places.{ByCell, Places, place_at, seen_at}
use Rattle.std.specs.Option.{unwrap_or}
use Rattle.table_copies.specs.Alike.{NothingShown, ShownAlike}
use Rattle.table_copies.specs.Copies.{without_row}
use Rattle.bundle_core.specs.Mailbox.{asked_table}
use Rattle.bundle_core.specs.SessionState.{SessionState, open_of}
use Rattle.bundle_core.specs.State.{Open, State, session_name, session_of}
use Rattle.peek_lines.specs.declared.answers.PeekAnswer.{PeekAnswer}
use Rattle.peek_lines.specs.declared.answers.PeekAnswer.TheVariants.{Lagged, NoSuchTable, NotOpen}
use Rattle.document_shot.specs.PeekAnswers.{open_answer, peek_answer, table_answer}
use Rattle.document_shot.specs.Shots.{Shown, shown_as, shown_session}
use Rattle.document_shot.specs.declared.sessions.ShotSession.{ShotSession}

-- nothing is seen of cells that have no place
pub nothing_at : (p : Places) → ((table column : List ℕ) (row : ℕ) → place_at p table column row ≡ None) → seen_at p ≡ nothing_seen
nothing_at p none = fun_ext (λ t. fun_ext (λ k. fun_ext (λ r. ap (λ o. unwrap_or o Null) (none t k r))))

-- the open sessions as a core keeps them are those of its state
pub shown_all : (st : State) (xs : List SessionState) (l : List ShotSession) → st.open_sessions ≡ map (open_of st.document) xs → l ≡ map shown_as xs → l ≡ map shown_session st.open_sessions
shown_all st xs l opens is = is ∙ map-map shown_session (open_of st.document) xs ∙ ap (map shown_session) (sym opens)

-- what a user sees of a table in a document whose values are seen
seen_view : (user : User) (table : List ℕ) (t : Document) (seen : ByCell CellValue) (v : Shown) (x : Ctx) (ts : List ViewTable) → t ≡ v.document → seen ≡ v.seen → filled_by v.seen v.document ≡ filled v.document
    → x ≡ context_over user t (filled_by seen t) → ts ≡ asked_table table (shown_by (rules_let x) (filled_by seen t)) → ts ≡ asked_table table (view user v.document)
seen_view user table t seen v x ts at sees values is shows =
    let full : filled_by seen t ≡ filled v.document = ap (λ f. filled_by f t) sees ∙ ap (filled_by v.seen) at ∙ values in
    let ctx : x ≡ context user v.document = is ∙ ap (context_over user t) full ∙ ap (λ d. context_over user d (filled v.document)) at in
    shows ∙ ap (λ y. asked_table table (shown_by (rules_let y) (filled_by seen t))) ctx ∙ ap (λ d. asked_table table (shown_by (rules_let (context user v.document)) d)) full

-- nothing is seen of a table that is not there
pub no_table : (user : User) (table : List ℕ) (t : Document) (seen : ByCell CellValue) (v : Shown) → t ≡ v.document → seen ≡ v.seen → filled_by v.seen v.document ≡ filled v.document
    → NothingShown → IsLaidOut (filled_by seen t) → find_id table_id table (filled_by seen t) ≡ None → NoSuchTable ≡ table_answer (asked_table table (view user v.document))
no_table user table t seen v at sees values nothing laid none =
    let full : filled_by seen t ≡ filled v.document = ap (λ f. filled_by f t) sees ∙ ap (filled_by v.seen) at ∙ values in
    ap table_answer (sym (nothing (rules_let (context user v.document)) (filled_by seen t) table laid none)
    ∙ ap (λ d. asked_table table (shown_by (rules_let (context user v.document)) d)) full)

-- what is seen of a copied table is seen of the table
pub copied_view : (user : User) (table : List ℕ) (t : Document) (seen : ByCell CellValue) (v : Shown) (x : Ctx) (copy : Table) → t ≡ v.document → seen ≡ v.seen → filled_by v.seen v.document ≡ filled v.document
    → ShownAlike → IsLaidOut (filled_by seen t) → option_map without_row (find_id table_id table (filled_by seen t)) ≡ Some copy → x ≡ context_over user t (filled_by seen t)
    → table_answer (asked_table table (shown_by (rules_let x) (copy ∷ []))) ≡ table_answer (asked_table table (view user v.document))
copied_view user table t seen v x copy at sees values alike laid from is =
    ap table_answer (seen_view user table t seen v x (asked_table table (shown_by (rules_let x) (copy ∷ []))) at sees values is (alike (rules_let x) (filled_by seen t) table copy laid from))

-- a session of that name is found among those of the state
pub found_session : (name : List ℕ) (st : State) (xs : List ShotSession) (r : Option ShotSession) → xs ≡ map shown_session st.open_sessions → r ≡ find (λ x. bytes_eq x.name name) xs → r ≡ option_map shown_session (session_of name st)
found_session name st xs r is found =
    found ∙ ap (find (λ (x : ShotSession). bytes_eq x.name name)) is ∙ find-mapped session_name (λ (x : ShotSession). x.name) shown_session (λ o. refl) name st.open_sessions

-- the answer by what is found of a session's name
abbrev answer_by : State → List ℕ → Option Open → PeekAnswer
answer_by st table o = elim o as (λ _. PeekAnswer) [ None ↦ NotOpen | Some x ↦ open_answer st.document table x ]

none_by : (st : State) (table : List ℕ) (o : Option Open) → None ≡ option_map shown_session o → NotOpen ≡ answer_by st table o
none_by st table None h = refl
none_by st table (Some x) h = absurd (false≢true (ap is_some h))

abbrev lags : Option ShotSession → Bool
lags None = false
lags (Some x) = x.lagging

lagging_by : (st : State) (table : List ℕ) (o : Option Open) (x : ShotSession) → Some x ≡ option_map shown_session o → x.lagging ≡ true → Lagged ≡ answer_by st table o
lagging_by st table None x h lag = absurd (false≢true (ap is_some (sym h)))
lagging_by st table (Some y) x h lag =
    let same : y.mailbox.lagging ≡ true = sym (ap lags h) ∙ lag in
    ap (λ b. if b then Lagged else table_answer (asked_table table (view y.holder.user st.document))) (sym same)

abbrev whose : User → Option ShotSession → User
whose u None = u
whose u (Some x) = x.user

table_by : (st : State) (table : List ℕ) (o : Option Open) (x : ShotSession) (ts : List ViewTable) → Some x ≡ option_map shown_session o → x.lagging ≡ false → ts ≡ asked_table table (view x.user st.document)
    → table_answer ts ≡ answer_by st table o
table_by st table None x ts h lag is = absurd (false≢true (ap is_some (sym h)))
table_by st table (Some y) x ts h lag is =
    let same : y.mailbox.lagging ≡ false = sym (ap lags h) ∙ lag in
    let user : x.user ≡ y.holder.user = ap (whose x.user) h in
    ap table_answer (is ∙ ap (λ u. asked_table table (view u st.document)) user)
    ∙ ap (λ b. if b then Lagged else table_answer (asked_table table (view y.holder.user st.document))) (sym same)

pub answers_none : (st : State) (name table : List ℕ) → None ≡ option_map shown_session (session_of name st) → NotOpen ≡ peek_answer st name table
answers_none st name table h = none_by st table (session_of name st) h

pub answers_lagging : (st : State) (name table : List ℕ) (x : ShotSession) → Some x ≡ option_map shown_session (session_of name st) → x.lagging ≡ true → Lagged ≡ peek_answer st name table
answers_lagging st name table x h lag = lagging_by st table (session_of name st) x h lag

pub answers_table : (st : State) (name table : List ℕ) (x : ShotSession) (ts : List ViewTable) → Some x ≡ option_map shown_session (session_of name st) → x.lagging ≡ false → ts ≡ asked_table table (view x.user st.document)
    → table_answer ts ≡ peek_answer st name table
answers_table st name table x ts h lag is = table_by st table (session_of name st) x ts h lag is
