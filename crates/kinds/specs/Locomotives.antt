-- The states of a locomotive and their codes.
use Rattle.std.specs.Prelude.{ℕ, ◌+◌, ◌-◌, ◌*◌, ◌/◌, ◌%◌, ◌<◌, ◌≤◌, cond, ◌==◌, nat_lt, Option, None, Some}
use Rattle.kinds.specs.declared.locomotive.Direction.{Direction}
use Rattle.kinds.specs.declared.locomotive.Direction.TheVariants.{Forward, Backward}
use Rattle.kinds.specs.declared.locomotive.Locomotive.{Locomotive}

-- nobody, or one of 32 seats
abbrev pub IsHolder : Option ℕ → Type 0
IsHolder None = Unit {0}
IsHolder (Some seat) = seat < 32

pub record IsLocomotive (l : Locomotive) : Type 0 where
  pub speed_in_range : l.speed ≤ 126
  pub holder_in_range : IsHolder l.holder

abbrev pub direction_number : Direction → ℕ
direction_number Forward = 0
direction_number Backward = 1

abbrev pub direction_of : ℕ → Direction
direction_of n = cond (n == 0) Forward Backward

-- 0 for nobody, else the seat and one
abbrev pub holder_number : Option ℕ → ℕ
holder_number None = 0
holder_number (Some seat) = seat + 1

abbrev pub holder_of : ℕ → Option ℕ
holder_of n = cond (n == 0) None (Some (n - 1))

abbrev pub locomotive_code : Locomotive → ℕ
locomotive_code l = (holder_number l.holder * 2 + direction_number l.direction) * 127 + l.speed

abbrev pub resting : Locomotive
resting = record { speed = 0; direction = Forward; holder = None }

-- a code that is not below the count says nothing
abbrev pub locomotive_of : ℕ → Locomotive
locomotive_of code =
    cond (nat_lt code 8382)
    (record { speed = code % 127; direction = direction_of (code / 127 % 2); holder = holder_of (code / 127 / 2) })
    resting
