-- How a state is told to people.
use Rattle.std.specs.Prelude.{ℕ, List, ◌++◌, codes, decimal, Option, None, Some}
use Rattle.kinds.specs.declared.locomotive.Direction.{Direction}
use Rattle.kinds.specs.declared.locomotive.Direction.TheVariants.{Forward, Backward}
use Rattle.kinds.specs.declared.locomotive.Locomotive.{Locomotive}
use Rattle.kinds.specs.declared.turnout.Turnout.{Turnout}
use Rattle.kinds.specs.declared.turnout.Turnout.TheVariants.{Unknown, Straight, Diverging, Locked}

abbrev pub turnout_words : Turnout → List ℕ
turnout_words Unknown = codes "unknown"
turnout_words Straight = codes "straight"
turnout_words Diverging = codes "diverging"
turnout_words (Locked seat) = codes "locked for seat " ++ decimal seat

abbrev pub direction_words : Direction → List ℕ
direction_words Forward = codes "forward"
direction_words Backward = codes "backward"

abbrev pub holder_words : Option ℕ → List ℕ
holder_words None = codes "nobody"
holder_words (Some seat) = codes "seat " ++ decimal seat

abbrev pub locomotive_words : Locomotive → List ℕ
locomotive_words l =
    codes "speed " ++ (decimal l.speed ++ (codes " " ++ (direction_words l.direction ++ (codes ", held by " ++ holder_words l.holder))))
