-- What a board keeps: the states of its versions by their codes.
use base.Fml.{GName}
use Rattle.std.specs.Prelude.{ℕ, List, Option}
use Rattle.rules.specs.declared.findings.Findings.{Findings}
use Rattle.history.specs.State.{Setup, Version}
use Rattle.board.specs.declared.seat.Held.{Held}

pub record Contents (R : Type 0) : Type 0 where
  pub items : ℕ
  pub seat_count : ℕ
  -- the kind's count of codes, and the code of its rest state
  pub codes : ℕ
  pub rest : ℕ
  pub rule : R
  pub clock : ℕ
  pub passes : ℕ
  pub stamps : List ℕ
  pub seats : List (Option Held)
  -- the slots of all items, eight for each
  pub versions : List Version
  -- the reference to the lent memory in which they lie: where it points to, and its name
  pub lent : (ℕ × ℕ) × GName

-- what somebody asks a board to be made for
abbrev pub setup_for : {S R : Type 0} → (S → ℕ) → S → ℕ → (R → Findings → Option ℕ) → ℕ → ℕ → R → Setup
setup_for coded rest count answers items seats rule = record { items = items; seats = seats; codes = count; rest = coded rest; rule = answers rule }

-- what a board is made for: its sizes, its kind and its rule
abbrev pub setup_of : {R : Type 0} → (R → Findings → Option ℕ) → Contents R → Setup
setup_of answers board = record { items = board.items; seats = board.seat_count; codes = board.codes; rest = board.rest; rule = answers board.rule }

-- the board, with another clock
abbrev pub with_clock : {R : Type 0} → Contents R → ℕ → Contents R
with_clock board clock = record {
  items = board.items;
  seat_count = board.seat_count;
  codes = board.codes;
  rest = board.rest;
  rule = board.rule;
  clock = clock;
  passes = board.passes;
  stamps = board.stamps;
  seats = board.seats;
  versions = board.versions;
  lent = board.lent;
}

-- the board, with another count of passes
abbrev pub with_passes : {R : Type 0} → Contents R → ℕ → Contents R
with_passes board passes = record {
  items = board.items;
  seat_count = board.seat_count;
  codes = board.codes;
  rest = board.rest;
  rule = board.rule;
  clock = board.clock;
  passes = passes;
  stamps = board.stamps;
  seats = board.seats;
  versions = board.versions;
  lent = board.lent;
}

-- the board, with other stamps
abbrev pub with_stamps : {R : Type 0} → Contents R → List ℕ → Contents R
with_stamps board stamps = record {
  items = board.items;
  seat_count = board.seat_count;
  codes = board.codes;
  rest = board.rest;
  rule = board.rule;
  clock = board.clock;
  passes = board.passes;
  stamps = stamps;
  seats = board.seats;
  versions = board.versions;
  lent = board.lent;
}

-- the board, with other seats
abbrev pub with_seats : {R : Type 0} → Contents R → List (Option Held) → Contents R
with_seats board seats = record {
  items = board.items;
  seat_count = board.seat_count;
  codes = board.codes;
  rest = board.rest;
  rule = board.rule;
  clock = board.clock;
  passes = board.passes;
  stamps = board.stamps;
  seats = seats;
  versions = board.versions;
  lent = board.lent;
}

-- the board, with other versions
abbrev pub with_versions : {R : Type 0} → Contents R → List Version → Contents R
with_versions board versions = record {
  items = board.items;
  seat_count = board.seat_count;
  codes = board.codes;
  rest = board.rest;
  rule = board.rule;
  clock = board.clock;
  passes = board.passes;
  stamps = board.stamps;
  seats = board.seats;
  versions = versions;
  lent = board.lent;
}
