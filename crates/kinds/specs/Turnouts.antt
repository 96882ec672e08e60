-- The states of a turnout and their codes.
use Rattle.std.specs.Prelude.{ℕ, ◌+◌, ◌-◌, ◌<◌, cond, ◌==◌, nat_lt}
use Rattle.kinds.specs.declared.turnout.Turnout.{Turnout}
use Rattle.kinds.specs.declared.turnout.Turnout.TheVariants.{Unknown, Straight, Diverging, Locked}

-- a lock is for one of 32 seats
abbrev pub IsTurnout : Turnout → Type 0
IsTurnout Unknown = Unit {0}
IsTurnout Straight = Unit {0}
IsTurnout Diverging = Unit {0}
IsTurnout (Locked seat) = seat < 32

abbrev pub turnout_code : Turnout → ℕ
turnout_code Unknown = 0
turnout_code Straight = 1
turnout_code Diverging = 2
turnout_code (Locked seat) = 3 + seat

-- a code from 3 to 34 is a lock, and 0 or any other says nothing
abbrev pub turnout_of : ℕ → Turnout
turnout_of code =
    cond (code == 1) Straight
    (cond (code == 2) Diverging
    (cond (nat_lt code 3) Unknown
    (cond (nat_lt code 35) (Locked (code - 3)) Unknown)))
