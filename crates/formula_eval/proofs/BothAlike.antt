-- Of two that are both looked at, over two readers.
use Rattle.std.proofs.Common.{inl, inr, refl, ap, subst}
use Rattle.cell_types.specs.declared.value.ErrKind.{ErrKind}
use Rattle.formula_eval.specs.Run.{Stop, circular, need, Out, gives, raises, stops, both}
use Rattle.formula_eval.specs.Likeness.{StopsBy, IsJoined, IsAlikeOut}

module _ (L : Stop → Type 0) (R : Type 0) (joined : IsJoined L) where
  abbrev IsStop : {A : Type 0} → Out A → Type 0
  IsStop o = StopsBy (λ _. Unit {0}) o

  module _ {A B C : Type 0} (f : A → B → C) where
    both_stops : (s : Stop) (a : Out B) → IsStop (both f (stops s) a)
    both_stops circular a = tt
    both_stops (need c) (gives a) = tt
    both_stops (need c) (raises a) = tt
    both_stops (need c) (stops circular) = tt
    both_stops (need c) (stops (need d)) = tt

    by_right : (o p : Out C) → R → IsStop p → IsAlikeOut L R o p
    by_right o (gives p) r h = absurd h
    by_right o (raises p) r h = absurd h
    by_right o (stops p) r h = inr (inr r)

    two_stops : (o p : Out C) → IsStop o → IsStop p → IsAlikeOut L R o p
    two_stops (gives o) p h g = absurd h
    two_stops (raises o) p h g = absurd h
    two_stops (stops o) (gives p) h g = absurd g
    two_stops (stops o) (raises p) h g = absurd g
    two_stops (stops o) (stops p) h g = inl tt

    -- a stop of the first that is excused, where the second has none there
    left_gives : (s : Stop) (b : A) (a c : Out B) → L s → IsAlikeOut L R a c → IsAlikeOut L R (both f (stops s) a) (both f (gives b) c)
    left_gives circular b a c l h = inr (inl l)
    left_gives (need d) b (gives a) c l h = inr (inl l)
    left_gives (need d) b (raises a) c l h = inr (inl l)
    left_gives (need d) b (stops circular) (gives c) l (inl h) = absurd h
    left_gives (need d) b (stops circular) (raises c) l (inl h) = absurd h
    left_gives (need d) b (stops circular) (stops c) l (inl h) = inl tt
    left_gives (need d) b (stops circular) c l (inr (inl h)) = inr (inl h)
    left_gives (need d) b (stops circular) (gives c) l (inr (inr h)) = absurd h
    left_gives (need d) b (stops circular) (raises c) l (inr (inr h)) = absurd h
    left_gives (need d) b (stops circular) (stops c) l (inr (inr h)) = inr (inr h)
    left_gives (need d) b (stops (need e)) (gives c) l (inl h) = absurd h
    left_gives (need d) b (stops (need e)) (raises c) l (inl h) = absurd h
    left_gives (need d) b (stops (need e)) (stops c) l (inl h) = inl tt
    left_gives (need d) b (stops (need e)) c l (inr (inl h)) = inr (inl (joined d e l h))
    left_gives (need d) b (stops (need e)) (gives c) l (inr (inr h)) = absurd h
    left_gives (need d) b (stops (need e)) (raises c) l (inr (inr h)) = absurd h
    left_gives (need d) b (stops (need e)) (stops c) l (inr (inr h)) = inr (inr h)

    left_raises : (s : Stop) (e : ErrKind) (a c : Out B) → L s → IsAlikeOut L R a c → IsAlikeOut L R (both f (stops s) a) (both f (raises e) c)
    left_raises circular b a c l h = inr (inl l)
    left_raises (need d) b (gives a) c l h = inr (inl l)
    left_raises (need d) b (raises a) c l h = inr (inl l)
    left_raises (need d) b (stops circular) (gives c) l (inl h) = absurd h
    left_raises (need d) b (stops circular) (raises c) l (inl h) = absurd h
    left_raises (need d) b (stops circular) (stops c) l (inl h) = inl tt
    left_raises (need d) b (stops circular) c l (inr (inl h)) = inr (inl h)
    left_raises (need d) b (stops circular) (gives c) l (inr (inr h)) = absurd h
    left_raises (need d) b (stops circular) (raises c) l (inr (inr h)) = absurd h
    left_raises (need d) b (stops circular) (stops c) l (inr (inr h)) = inr (inr h)
    left_raises (need d) b (stops (need e)) (gives c) l (inl h) = absurd h
    left_raises (need d) b (stops (need e)) (raises c) l (inl h) = absurd h
    left_raises (need d) b (stops (need e)) (stops c) l (inl h) = inl tt
    left_raises (need d) b (stops (need e)) c l (inr (inl h)) = inr (inl (joined d e l h))
    left_raises (need d) b (stops (need e)) (gives c) l (inr (inr h)) = absurd h
    left_raises (need d) b (stops (need e)) (raises c) l (inr (inr h)) = absurd h
    left_raises (need d) b (stops (need e)) (stops c) l (inr (inr h)) = inr (inr h)

    gives_alike : (b : A) (a c : Out B) → IsAlikeOut L R a c → IsAlikeOut L R (both f (gives b) a) (both f (gives b) c)
    gives_alike b (gives a) (gives c) (inl e) = inl (ap (f b) e)
    gives_alike b (gives a) (raises c) (inl e) = absurd e
    gives_alike b (gives a) (stops c) (inl e) = absurd e
    gives_alike b (raises a) (gives c) (inl e) = absurd e
    gives_alike b (raises a) (raises c) (inl e) = inl e
    gives_alike b (raises a) (stops c) (inl e) = absurd e
    gives_alike b (stops a) (gives c) (inl e) = absurd e
    gives_alike b (stops a) (raises c) (inl e) = absurd e
    gives_alike b (stops a) (stops c) (inl e) = inl tt
    gives_alike b (gives a) c (inr (inl h)) = absurd h
    gives_alike b (raises a) c (inr (inl h)) = absurd h
    gives_alike b (stops a) c (inr (inl h)) = inr (inl h)
    gives_alike b a (gives c) (inr (inr h)) = absurd h
    gives_alike b a (raises c) (inr (inr h)) = absurd h
    gives_alike b a (stops c) (inr (inr h)) = inr (inr h)

    raises_alike : (e : ErrKind) (a c : Out B) → IsAlikeOut L R a c → IsAlikeOut L R (both f (raises e) a) (both f (raises e) c)
    raises_alike b (gives a) (gives c) (inl e) = inl refl
    raises_alike b (gives a) (raises c) (inl e) = absurd e
    raises_alike b (gives a) (stops c) (inl e) = absurd e
    raises_alike b (raises a) (gives c) (inl e) = absurd e
    raises_alike b (raises a) (raises c) (inl e) = inl refl
    raises_alike b (raises a) (stops c) (inl e) = absurd e
    raises_alike b (stops a) (gives c) (inl e) = absurd e
    raises_alike b (stops a) (raises c) (inl e) = absurd e
    raises_alike b (stops a) (stops c) (inl e) = inl tt
    raises_alike b (gives a) c (inr (inl h)) = absurd h
    raises_alike b (raises a) c (inr (inl h)) = absurd h
    raises_alike b (stops a) c (inr (inl h)) = inr (inl h)
    raises_alike b a (gives c) (inr (inr h)) = absurd h
    raises_alike b a (raises c) (inr (inr h)) = absurd h
    raises_alike b a (stops c) (inr (inr h)) = inr (inr h)

    pub both_alike : (o p : Out A) (a c : Out B) → IsAlikeOut L R o p → IsAlikeOut L R a c → IsAlikeOut L R (both f o a) (both f p c)
    both_alike (gives b) (gives d) a c (inl e) g = subst (λ q. IsAlikeOut L R (both f (gives b) a) (both f (gives q) c)) e (gives_alike b a c g)
    both_alike (raises b) (raises d) a c (inl e) g = subst (λ q. IsAlikeOut L R (both f (raises b) a) (both f (raises q) c)) e (raises_alike b a c g)
    both_alike (gives b) (raises d) a c (inl e) g = absurd e
    both_alike (gives b) (stops d) a c (inl e) g = absurd e
    both_alike (raises b) (gives d) a c (inl e) g = absurd e
    both_alike (raises b) (stops d) a c (inl e) g = absurd e
    both_alike (stops b) (gives d) a c (inl e) g = absurd e
    both_alike (stops b) (raises d) a c (inl e) g = absurd e
    both_alike (stops s) (stops t) a c (inl e) g = two_stops (both f (stops s) a) (both f (stops t) c) (both_stops s a) (both_stops t c)
    both_alike (gives b) p a c (inr (inl h)) g = absurd h
    both_alike (raises b) p a c (inr (inl h)) g = absurd h
    both_alike (stops s) (gives d) a c (inr (inl h)) g = left_gives s d a c h g
    both_alike (stops s) (raises d) a c (inr (inl h)) g = left_raises s d a c h g
    both_alike (stops s) (stops t) a c (inr (inl h)) g = two_stops (both f (stops s) a) (both f (stops t) c) (both_stops s a) (both_stops t c)
    both_alike o (gives b) a c (inr (inr h)) g = absurd h
    both_alike o (raises b) a c (inr (inr h)) g = absurd h
    both_alike o (stops t) a c (inr (inr h)) g = by_right (both f o a) (both f (stops t) c) h (both_stops t c)
