-- The serial order of the granted transactions.
use Rattle.std.specs.Prelude.{Bool, true, false, cond, ◌&&◌, ◌||◌, List, [], ◌∷◌, ◌==◌, nat_lt}
use Rattle.calls.specs.declared.call.Mode.{Mode}
use Rattle.calls.specs.declared.call.Mode.TheVariants.{Reader, Update}
use Rattle.history.specs.Log.{History, Grant, log}

-- at one place: updates before readers, of two updates the larger natural number first, of two readers the one that began first
abbrev pub first_at_place : Mode → Mode → Grant → Grant → Bool
first_at_place Update Update f g = nat_lt g.natural f.natural
first_at_place Update Reader f g = true
first_at_place Reader Update f g = false
first_at_place Reader Reader f g = nat_lt f.trace.began g.trace.began

-- f stands ahead of g: by place, lowest first; a reader's place is its start
abbrev pub ahead : Grant → Grant → Bool
ahead f g = nat_lt f.place g.place || (f.place == g.place && first_at_place f.trace.mode g.trace.mode f g)

abbrev pub put_in : Grant → List Grant → List Grant
put_in g [] = g ∷ []
put_in g (f ∷ fs) = cond (ahead g f) (g ∷ f ∷ fs) (f ∷ put_in g fs)

abbrev pub arranged : List Grant → List Grant
arranged [] = []
arranged (g ∷ gs) = put_in g (arranged gs)

abbrev pub order : History → List Grant
order h = arranged (log h).granted
