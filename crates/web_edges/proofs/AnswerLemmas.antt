-- Who is not refused.
use Rattle.std.proofs.Common.{◌≡◌, Bool, true, false, refl, if◌then◌else◌}
use Rattle.web_requests.specs.declared.request.Answer.{Answer}
use Rattle.web_requests.specs.declared.request.Answer.TheVariants.{Forbidden, Page, Socket}

-- the page is for requests from here
pub page-from-here : (b : Bool) (a : Answer) → (if b then a else Forbidden) ≡ Page → b ≡ true
page-from-here true a is = refl
page-from-here false a is = cc

-- and so is a connection
pub socket-from-here : (b : Bool) (a : Answer) → (if b then a else Forbidden) ≡ Socket → b ≡ true
socket-from-here true a is = refl
socket-from-here false a is = cc
