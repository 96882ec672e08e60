-- The numbers that an answer line tells of a reply, of a refusal and of a script's fault.
use Rattle.std.specs.Prelude.{ℕ}
use Rattle.calls.specs.declared.reply.Reply.{Reply}
use Rattle.calls.specs.declared.reply.Reply.TheVariants.{Done, Pass, Start, Code, Granted}
use Rattle.calls.specs.declared.refusal.Refusal.{Refusal}
use Rattle.calls.specs.declared.refusal.Refusal.TheVariants.{BadSetup, UnknownSeat, SeatHeld, PassesSpent, SeatEmpty, WrongPass, AlreadyBegun, NotBegun, UnknownItem, ReaderWrites, UnknownCode, WriteListFull, ClockSpent, RuleRefuses, VersionsFull}
use Rattle.calls.specs.declared.fault.Fault.{Fault}
use Rattle.calls.specs.declared.fault.Fault.TheVariants.{TooLong, WrongPart, BadNumber, Refused}

-- a pass, a start, a code or a natural number
abbrev pub first : Reply → ℕ
first Done = 0
first (Pass p) = p
first (Start s) = s
first (Code c) = c
first (Granted g) = g.0

-- a place
abbrev pub second : Reply → ℕ
second Done = 0
second (Pass p) = 0
second (Start s) = 0
second (Code c) = 0
second (Granted g) = g.1

-- the board's refusals, in the order of its questions
abbrev pub number : Refusal → ℕ
number BadSetup = 1
number UnknownSeat = 2
number SeatHeld = 3
number PassesSpent = 4
number SeatEmpty = 5
number WrongPass = 6
number AlreadyBegun = 7
number NotBegun = 8
number UnknownItem = 9
number ReaderWrites = 10
number UnknownCode = 11
number WriteListFull = 12
number ClockSpent = 13
number (RuleRefuses item) = 14
number (VersionsFull item) = 15

-- the item that a refusal names, or 0
abbrev pub named : Refusal → ℕ
named BadSetup = 0
named UnknownSeat = 0
named SeatHeld = 0
named PassesSpent = 0
named SeatEmpty = 0
named WrongPass = 0
named AlreadyBegun = 0
named NotBegun = 0
named UnknownItem = 0
named ReaderWrites = 0
named UnknownCode = 0
named WriteListFull = 0
named ClockSpent = 0
named (RuleRefuses item) = item
named (VersionsFull item) = item

-- a script's own faults come after the board's
abbrev pub fault_number : Fault → ℕ
fault_number TooLong = 16
fault_number (WrongPart at) = 17
fault_number (BadNumber at) = 18
fault_number (Refused refusal) = number refusal

-- the byte of the line that is wrong, what the refusal names, or 0
abbrev pub fault_named : Fault → ℕ
fault_named TooLong = 0
fault_named (WrongPart at) = at
fault_named (BadNumber at) = at
fault_named (Refused refusal) = named refusal
