-- What a request is answered by.
use Rattle.std.specs.Prelude.{ℕ, ◌==◌, Bool, true, false, ◌&&◌, ◌||◌, List, [], ◌∷◌, codes, decimal, drop, length, take, Option, Some, None, if◌then◌else◌}
use Rattle.std.specs.Str.{bytes_eq}
use Rattle.websocket.specs.Headers.{Fields, header_value}
use Rattle.web_requests.specs.declared.request.Answer.{Answer}
use Rattle.web_requests.specs.declared.request.Answer.TheVariants.{Forbidden, NoUpgrade, NotFound, Page, Socket}

-- the text is these two, one behind the other
abbrev pub is_joined : List ℕ → List ℕ → List ℕ → Bool
is_joined text front back =
    bytes_eq (take (length front) text) front && bytes_eq (drop (length front) text) back

-- the host is this machine by its number or its name, a colon, and the server's port
abbrev pub is_own_host : ℕ → List ℕ → Bool
is_own_host port host =
    is_joined host (codes "127.0.0.1:") (decimal port)
    || is_joined host (codes "localhost:") (decimal port)

-- no page asks, or one that the host gave
abbrev pub is_own_page : List ℕ → Option (List ℕ) → Bool
is_own_page host None = true
is_own_page host (Some origin) = is_joined origin (codes "http://") host

abbrev pub is_from : ℕ → Option (List ℕ) → Option (List ℕ) → Bool
is_from port None origin = false
is_from port (Some host) origin = is_own_host port host && is_own_page host origin

-- the request names this server as its host, and no page of another site asks
abbrev pub is_from_here : ℕ → Fields → Bool
is_from_here port fields =
    is_from port (header_value fields (codes "host")) (header_value fields (codes "origin"))

-- empty, or a query
abbrev pub is_query : List ℕ → Bool
is_query [] = true
is_query (c ∷ cs) = c == 63

-- the target is that path, with or without a query
abbrev pub is_at : List ℕ → List ℕ → Bool
is_at target path =
    bytes_eq (take (length path) target) path && is_query (drop (length path) target)

-- by the method, the target, and whether the head is a good handshake
abbrev pub routed : List ℕ → List ℕ → Bool → Answer
routed method target is_handshake =
    if is_at target (codes "/socket") then (if is_handshake then Socket else NoUpgrade)
    else if bytes_eq method (codes "GET")
    && (is_at target (codes "/") || is_at target (codes "/two"))
    then Page else NotFound

-- what a request to the server of that port is answered by
abbrev pub answer_to : ℕ → List ℕ → List ℕ → Fields → Bool → Answer
answer_to port method target fields is_handshake =
    if is_from_here port fields then routed method target is_handshake else Forbidden
