-- Connections that a lane serves, one more at a time.
use Rattle.std.proofs.Common.{◌≡◌, ℕ, suc, ◌+◌, ◌≤◌, Bool, true, false, List, [], ◌∷◌, ◌++◌, length, map, Option, Some, None, option_map, refl, sym, ap, ◌∙◌, inl, inr, subst, arith, append_assoc, append-nil, length-append}
use Rattle.std.proofs.lemmas.List.{map-append}
use Rattle.io_edges.specs.Ports.{HandsOut, PortState, TakesBack, handed_bound}
use Rattle.io_edges.specs.declared.port.Returned.{Returned}
use Rattle.grist_lanes.specs.SessionNames.{session_name}
use Rattle.grist_lanes.specs.Services.{AreServed, HasServed, HasStopped, IsServed, LaneView, Service, ServesLane, ServesNone, ServesOne, ServesSome, StopsBy, Telling, before_of, returned_of}
use Rattle.grist_lanes.specs.LaneEnds.{EndsLane}
use Rattle.grist_lanes.specs.declared.lanes.LaneEnd.{LaneEnd}

module _ {Conn : Type 0} where
  -- a connection that was handed out and came back
  pub served_one : (old mid new : PortState Conn) (s : Service Conn) → HandsOut old mid s.before → old.faults ≤ mid.faults → TakesBack mid new s.after s.end → HasServed old new (s ∷ [])
  served_one old mid new s out later back = record {
    handed = back.handed ∙ out.handed;
    few = omega arith;
    left = out.left ∙ ap (option_map (λ conns. s.before ∷ conns)) (sym back.left);
    back = back.back ∙ ap (option_map (λ them. them ++ returned_of s ∷ [])) out.back;
    home = back.lent;
    later = omega (arith, later, back.faults);
  }

  pub few_one : (old mid new : PortState Conn) (s : Service Conn) → HandsOut old mid s.before → TakesBack mid new s.after s.end → new.handed ≤ handed_bound
  few_one old mid new s out back = omega (arith, out.few, back.handed)

  joined_left : (xs ys : List (Service Conn)) (left : Option (List Conn)) → option_map (λ conns. map before_of xs ++ conns) (option_map (λ conns. map before_of ys ++ conns) left) ≡ option_map (λ conns. map before_of (xs ++ ys) ++ conns) left
  joined_left xs ys None = refl
  joined_left xs ys (Some conns) = ap Some (sym (append_assoc (map before_of xs) (map before_of ys) conns) ∙ ap (λ z. z ++ conns) (sym (map-append before_of xs ys)))

  joined_back : (xs ys : List (Service Conn)) (back : Option (List (Returned Conn))) → option_map (λ them. them ++ map returned_of ys) (option_map (λ them. them ++ map returned_of xs) back) ≡ option_map (λ them. them ++ map returned_of (xs ++ ys)) back
  joined_back xs ys None = refl
  joined_back xs ys (Some them) = ap Some (append_assoc them (map returned_of xs) (map returned_of ys) ∙ ap (λ z. them ++ z) (sym (map-append returned_of xs ys)))

  pub served_more : (old mid new : PortState Conn) (ss : List (Service Conn)) (s : Service Conn) → HasServed old mid ss → HasServed mid new (s ∷ []) → new.handed ≤ handed_bound → HasServed old new (ss ++ s ∷ [])
  served_more old mid new ss s before one few =
      let size : length (ss ++ s ∷ []) ≡ length ss + 1 = length-append ss (s ∷ []) in
      record {
        handed = omega (arith, one.handed, before.handed, size);
        few = omega (arith, one.handed, before.handed, size, few);
        left = before.left ∙ ap (option_map (λ conns. map before_of ss ++ conns)) one.left ∙ joined_left ss (s ∷ []) new.left;
        back = one.back ∙ ap (option_map (λ them. them ++ map returned_of (s ∷ []))) before.back ∙ joined_back ss (s ∷ []) old.back;
        home = one.home;
        later = omega (arith, before.later, one.later);
      }

  pub served_none : (p : PortState Conn) → p.lent ≡ false → HasServed p p []
  served_none p home = record {
    handed = omega arith;
    few = omega arith;
    left = same p.left;
    back = kept p.back;
    home = home;
    later = omega arith;
  } where
    same : (left : Option (List Conn)) → left ≡ option_map (λ conns. map before_of [] ++ conns) left
    same None = refl
    same (Some conns) = refl

    kept : (back : Option (List (Returned Conn))) → back ≡ option_map (λ them. them ++ map returned_of []) back
    kept None = refl
    kept (Some them) = ap Some (sym (append-nil them))

  stopped_behind : (old mid new : PortState Conn) (ss : List (Service Conn)) → HasServed old mid ss → HasServed mid new [] → HasServed old new ss
  stopped_behind old mid new ss before none = record {
    handed = omega (arith, none.handed, before.handed);
    few = before.few;
    left = before.left ∙ ap (option_map (λ conns. map before_of ss ++ conns)) (none.left ∙ same new.left);
    back = none.back ∙ kept mid.back ∙ before.back;
    home = none.home;
    later = omega (arith, before.later, none.later);
  } where
    same : (left : Option (List Conn)) → option_map (λ conns. map before_of [] ++ conns) left ≡ left
    same None = refl
    same (Some conns) = refl

    kept : (back : Option (List (Returned Conn))) → option_map (λ them. them ++ map returned_of []) back ≡ back
    kept None = refl
    kept (Some them) = ap Some (append-nil them)

  module _ (t : Telling Conn) (lane : ℕ) where
    pub served_behind : (k : ℕ) (old mid : LaneView) (ss : List (Service Conn)) (s : Service Conn) → AreServed t lane k old ss mid → IsServed t (session_name lane (k + length ss)) s → s.old ≡ mid → AreServed t lane k old (ss ++ s ∷ []) s.new
    served_behind k old mid [] s before one from = (subst (λ n. IsServed t (session_name lane n) s) (omega arith) one, from ∙ before, refl)
    served_behind k old mid (x ∷ ss) s before one from =
        (before.0, before.1, served_behind (suc k) x.new mid ss s before.2 (subst (λ n. IsServed t (session_name lane n) s) (omega arith) one) from)

    -- one more connection
    pub serves_more : (p q r : PortState Conn) (old mid new : LaneView) (number : ℕ) → ServesSome t lane p q old mid number → ServesOne t lane q r mid new number → ServesSome t lane p r old new (suc number)
    serves_more p q r old mid new number some one =
        let s = one.service in
        let at : IsServed t (session_name lane (1 + length some.served)) s = subst (λ n. IsServed t (session_name lane n) s) (omega (arith, some.next)) one.served in
        record {
          served = some.served ++ s ∷ [];
          passes = subst (AreServed t lane 1 old (some.served ++ s ∷ [])) one.to (served_behind 1 old mid some.served s some.passes at one.from);
          port = served_more p q r some.served s some.port one.port one.few;
          next = omega (arith, some.next, length-append some.served (s ∷ []));
        }

    pub serves_none : (p : PortState Conn) (pass : LaneView) → p.lent ≡ false → ServesSome t lane p p pass pass 1
    serves_none p pass home = record { served = []; passes = refl; port = served_none p home; next = refl }

    -- the port stopped behind these connections
    pub serves_all : (p q r : PortState Conn) (old mid new : LaneView) (number : ℕ) (said : Bool) → ServesSome t lane p q old mid number → ServesNone t lane q r mid new said → ServesLane t lane p r old new
    serves_all p q r old mid new number said some none = record {
      served = some.served;
      passes = subst (AreServed t lane 1 old some.served) (sym none.same) some.passes;
      port = stopped_behind p q r some.served some.port none.none;
      stopped = stops said none.stopped;
    } where
      stops : (b : Bool) → StopsBy b q r → HasStopped p r
      stops true ended = inl ended
      stops false rose = inr (omega (arith, rose, some.port.later))

    -- and what the lane tells of it
    pub ends_all : (p q r : PortState Conn) (old mid new : LaneView) (end : LaneEnd) → ServesSome t lane p q old mid (suc end.connections) → ServesNone t lane q r mid new end.has_ended → EndsLane end p r
    ends_all p q r old mid new end some none =
        let count : end.connections ≡ length some.served = omega (arith, some.next) in
        record {
          handed = omega (arith, none.none.handed, some.port.handed, count);
          few = omega (arith, some.port.few, count);
          stops = stops end.has_ended none.stopped;
        } where
          stops : (b : Bool) → StopsBy b q r → StopsBy b p r
          stops true ended = ended
          stops false rose = omega (arith, rose, some.port.later)
