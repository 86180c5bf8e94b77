-- A printed line in its frame is read back.
use Rattle.std.proofs.Common.{◌≡◌, ◌≤◌, ℕ, suc, max, List, [], ◌∷◌, ◌++◌, fold, codes, Bool, true, false, Some, option_and_then, refl, sym, ap, ap₂, ◌∙◌, arith, append-nil}
use Rattle.std.proofs.lemmas.List.Sums.{fold-append}
use Rattle.json.specs.Token.{Token}
use Rattle.json.specs.Lex.{tokens}
use Rattle.json.specs.Print.{ends, print, print_from, quoted}
use Rattle.json.specs.Json as json
use Rattle.json.specs.Tree.{json_tokens, items_tokens, members_tokens, HasNumbers}
use Rattle.json.specs.Tree as tree
use Rattle.json.proofs.Numbered.{document-HasNumbers}
use Rattle.json.proofs.Printed.Tokens.{print_from-append, tokens-print}
use Rattle.json.proofs.Printed.Trees.{ArePrintable-json_tokens, value-json_tokens}
use Rattle.serde_json.specs.Data.{Data, null, boolean, number, string, array, object, Items, no_items, item, Members, no_members, member, depth, items_depth, members_depth}
use Rattle.serde_json.specs.Read.{of_json, max_depth, read}
use Rattle.serde_json.specs.Written.{outline, items_outline, members_outline, blank, blank_items, blank_members}
use Rattle.grist_json.specs.Frames.{frame_data}
use Rattle.grist_json.specs.Lines.{IsPrinted, frame_text}
use Rattle.grist_json.proofs.JsonLemmas.{read_json_at}
use Rattle.grist_json.proofs.PrintLemmas.{parts, quoted-line, quoted-session}

-- ---- how deep

mutual
  depth-outline : (d : Data) → tree.depth (outline d) ≡ depth d
  depth-outline null = refl
  depth-outline (boolean b) = refl
  depth-outline (number n) = refl
  depth-outline (string s) = refl
  depth-outline (array ds) = ap suc (items_depth-outline ds)
  depth-outline (object ms) = ap suc (members_depth-outline ms)

  items_depth-outline : (ds : Items) → tree.items_depth (items_outline ds) ≡ items_depth ds
  items_depth-outline no_items = refl
  items_depth-outline (item d ds) = ap₂ max (depth-outline d) (items_depth-outline ds)

  members_depth-outline : (ms : Members) → tree.members_depth (members_outline ms) ≡ members_depth ms
  members_depth-outline no_members = refl
  members_depth-outline (member k d ms) = ap₂ max (depth-outline d) (members_depth-outline ms)

mutual
  depth-blank : (j : json.Json) → tree.depth (blank j) ≡ tree.depth j
  depth-blank json.null = refl
  depth-blank (json.boolean b) = refl
  depth-blank (json.number s) = refl
  depth-blank (json.string s) = refl
  depth-blank (json.array js) = ap suc (items_depth-blank js)
  depth-blank (json.object ms) = ap suc (members_depth-blank ms)

  items_depth-blank : (js : json.Items) → tree.items_depth (blank_items js) ≡ tree.items_depth js
  items_depth-blank json.no_items = refl
  items_depth-blank (json.item j js) = ap₂ max (depth-blank j) (items_depth-blank js)

  members_depth-blank : (ms : json.Members) → tree.members_depth (blank_members ms) ≡ tree.members_depth ms
  members_depth-blank json.no_members = refl
  members_depth-blank (json.member k j ms) = ap₂ max (depth-blank j) (members_depth-blank ms)

-- ---- the tokens of a value end one

abbrev ending : Bool → List Token → Bool
ending c ts = fold (λ _ t. ends t) c ts

items_end : (c : Bool) (js : json.Items) → ending c (items_tokens js) ≡ true
items_end c json.no_items = refl
items_end c (json.item j js) = fold-append (λ _ t. ends t) c (json_tokens j) (items_tokens js) ∙ items_end (ending c (json_tokens j)) js

members_end : (c : Bool) (ms : json.Members) → ending c (members_tokens ms) ≡ true
members_end c json.no_members = refl
members_end c (json.member k j ms) = fold-append (λ _ t. ends t) false (json_tokens j) (members_tokens ms) ∙ members_end (ending false (json_tokens j)) ms

value_ends : (c : Bool) (j : json.Json) → ending c (json_tokens j) ≡ true
value_ends c json.null = refl
value_ends c (json.boolean b) = refl
value_ends c (json.number s) = refl
value_ends c (json.string s) = refl
value_ends c (json.array js) = items_end false js
value_ends c (json.object ms) = members_end false ms

-- ---- a frame

-- the JSON of a frame
abbrev framed : json.Json → List ℕ → json.Json
framed j session = json.object (json.member (codes "line") j (json.member (codes "session") (json.string session) json.no_members))

abbrev behind : List ℕ → List Token
behind session = Token.key (codes "session") ∷ Token.string session ∷ Token.end_object ∷ []

print-behind : (session : List ℕ) → print_from true (behind session) ≡ codes ",\"session\":" ++ (quoted session ++ codes "}")
unfolding print_from
print-behind session = ap (λ q. 44 ∷ ((q ++ 58 ∷ []) ++ (quoted session ++ 125 ∷ []))) quoted-session

print-framed : (j : json.Json) (session : List ℕ) → print (json_tokens (framed j session)) ≡ codes "{\"line\":" ++ (print (json_tokens j) ++ (codes ",\"session\":" ++ (quoted session ++ codes "}")))
unfolding print_from
print-framed j session =
    ap (λ q. 123 ∷ ((q ++ 58 ∷ []) ++ print_from false (json_tokens j ++ behind session))) quoted-line
    ∙ ap (λ l. codes "{\"line\":" ++ l) (print_from-append false (json_tokens j) (behind session)
    ∙ ap (λ l. print (json_tokens j) ++ l) (ap (λ b. print_from b (behind session)) (value_ends false j) ∙ print-behind session))

of_json-framed : (j : json.Json) (d : Data) (session : List ℕ) → of_json j ≡ Some d → of_json (framed j session) ≡ Some (frame_data d session)
of_json-framed j d session e = rw e refl

-- the tokens of a value are read as it
parsed : (n : ℕ) (text : List ℕ) (j : json.Json) → tokens text ≡ json_tokens j → tree.depth j ≤ n → option_and_then (λ q. json.if_last q.0 q.1) (json.value n (tokens text)) ≡ Some j
parsed n text j same deep = ap (option_and_then (λ q. json.if_last q.0 q.1)) (ap (json.value n) (same ∙ sym (append-nil (json_tokens j))) ∙ value-json_tokens j n [] deep)

pub read_framed : (line : List ℕ) (d : Data) (session : List ℕ) → IsPrinted line d → read (frame_text line session) ≡ Some (frame_data d session)
unfolding frame_text
read_framed line d session p =
    let j : json.Json = p.order.0 in
    let whole : json.Json = framed j session in
    let deep : tree.depth j ≡ depth d = sym (depth-blank j) ∙ ap tree.depth p.order.2 ∙ depth-outline d in
    let numbers : HasNumbers j = document-HasNumbers line j (parsed json.max_depth line j p.order.1 (omega (arith, deep, p.shallow))) in
    let is : of_json j ≡ Some d = sym (ap (option_and_then of_json) (parsed max_depth line j p.order.1 (omega (arith, deep, p.shallow)))) ∙ read_json_at line d p.reads in
    let text : frame_text line session ≡ print (json_tokens whole) =
    parts (codes "{\"line\":") line (codes ",\"session\":") (quoted session) (codes "}")
    ∙ ap (λ l. codes "{\"line\":" ++ (l ++ (codes ",\"session\":" ++ (quoted session ++ codes "}")))) (p.compact ∙ ap print p.order.1)
    ∙ sym (print-framed j session) in
    let same : tokens (frame_text line session) ≡ json_tokens whole = ap tokens text ∙ tokens-print (json_tokens whole) (ArePrintable-json_tokens whole (numbers, (tt, tt))) in
    ap (option_and_then of_json) (parsed max_depth (frame_text line session) whole same (omega (arith, deep, p.shallow))) ∙ of_json-framed j d session is
