-- Worked examples: calls on a new board, and the answers that the rules give.
use Rattle.std.specs.Prelude.{◌≡◌, ℕ, List, [], ◌∷◌, ◌++◌, Ok, Err, Option}
use Rattle.std.specs.List.{AllByRecursion}
use Rattle.calls.specs.declared.call.Class.TheVariants.{Member, Guest}
use Rattle.calls.specs.declared.call.Mode.TheVariants.{Reader, Update}
use Rattle.calls.specs.declared.call.Call.{Call}
use Rattle.calls.specs.declared.call.Call.TheVariants.{Admit, Revoke, Begin, Read, Write as Writing, Commit, Show}
use Rattle.calls.specs.declared.reply.Reply.TheVariants.{Done, Pass, Start, Code, Granted}
use Rattle.calls.specs.declared.refusal.Refusal.TheVariants.{SeatEmpty, WrongPass, UnknownCode, RuleRefuses, VersionsFull}
use Rattle.rules.specs.declared.findings.Findings.{Findings}
use Rattle.rules.specs.NowAnswers.{now_answers}
use Rattle.rules.specs.WarpAnswers.{warp_answers}
use Rattle.rules.specs.HomeAnswers.{home_answers}
use Rattle.history.specs.State.{Setup, State, new_board}
use Rattle.history.specs.Steps.{Answer, step}

pub record Example : Type 0 where
  pub setup : Setup
  pub calls : List Call
  pub answers : List Answer

-- the answers to calls that are made one after the other
abbrev pub answers_from : Setup → State → List Call → List Answer
answers_from b s [] = []
answers_from b s (call ∷ calls) = (step b call s).answer ∷ answers_from b (step b call s).after calls

abbrev pub ComesOut : Example → Type 0
ComesOut e = answers_from e.setup (new_board e.setup) e.calls ≡ e.answers

-- a board of two items: locomotives have 8,382 codes and turnouts 35; the rest code is 0
abbrev drive : ℕ → (Findings → Option ℕ) → Setup
drive seats rule = record { items = 2; seats = seats; codes = 8382; rest = 0; rule = rule }

abbrev switch : ℕ → (Findings → Option ℕ) → Setup
switch seats rule = record { items = 2; seats = seats; codes = 35; rest = 0; rule = rule }

-- a member at seat 0 and a guest at seat 1 begin updates
abbrev two_begin : List Call
two_begin = Admit 0 Member ∷ Admit 1 Guest ∷ Begin 0 1 Update ∷ Begin 1 2 Update ∷ []

abbrev two_begun : List Answer
two_begun = Ok (Pass 1) ∷ Ok (Pass 2) ∷ Ok (Start 1) ∷ Ok (Start 1) ∷ []

-- seat 1 reads item 0 and writes item 1, and seat 0 overwrites item 0 and commits first
abbrev read_then_overwritten : List Call
read_then_overwritten = Read 1 2 0 ∷ Writing 1 2 1 7 ∷ Writing 0 1 0 5 ∷ Commit 0 1 ∷ []

abbrev overwritten : List Answer
overwritten = Ok (Code 0) ∷ Ok Done ∷ Ok Done ∷ Ok (Granted (2, 2)) ∷ []

-- the one that read the old state is granted before the one it missed
abbrev pub a_stale_read_is_granted_earlier : Example
a_stale_read_is_granted_earlier = record {
  setup = drive 2 warp_answers;
  calls = two_begin ++ read_then_overwritten ++ Commit 1 2 ∷ Show 1 ∷ [];
  answers = two_begun ++ overwritten ++ Ok (Granted (3, 2)) ∷ Ok (Code 7) ∷ [];
}

abbrev pub home_refuses_a_guest_an_earlier_place : Example
home_refuses_a_guest_an_earlier_place = record {
  setup = drive 2 (home_answers warp_answers);
  calls = two_begin ++ read_then_overwritten ++ Commit 1 2 ∷ Show 1 ∷ [];
  answers = two_begun ++ overwritten ++ Err (RuleRefuses 0) ∷ Ok (Code 0) ∷ [];
}

abbrev pub now_refuses_a_stale_read : Example
now_refuses_a_stale_read = record {
  setup = drive 2 now_answers;
  calls = two_begin ++ read_then_overwritten ++ Commit 1 2 ∷ Show 1 ∷ [];
  answers = two_begun ++ overwritten ++ Err (RuleRefuses 0) ∷ Ok (Code 0) ∷ [];
}

-- a reader that began after the first commit has seen item 1 as it is
abbrev pub a_reader_bars_an_earlier_place : Example
a_reader_bars_an_earlier_place = record {
  setup = drive 2 warp_answers;
  calls = two_begin ++ read_then_overwritten ++ Begin 0 1 Reader ∷ Read 0 1 1 ∷ Commit 1 2 ∷ [];
  answers = two_begun ++ overwritten ++ Ok (Start 2) ∷ Ok (Code 0) ∷ Err (RuleRefuses 0) ∷ [];
}

abbrev third_begins : List Call
third_begins = Admit 2 Member ∷ Begin 2 3 Update ∷ []

abbrev third_begun : List Answer
third_begun = Ok (Pass 3) ∷ Ok (Start 1) ∷ []

abbrev pub a_missed_warped_version_is_refused : Example
a_missed_warped_version_is_refused = record {
  setup = drive 3 warp_answers;
  calls = two_begin ++ third_begins ++ Read 2 3 1 ∷ read_then_overwritten ++ Commit 1 2 ∷ Commit 2 3 ∷ [];
  answers = two_begun ++ third_begun ++ Ok (Code 0) ∷ overwritten ++ Ok (Granted (3, 2)) ∷ Err (RuleRefuses 1) ∷ [];
}

-- of two at one place the later commit stands first, so its write is skipped
abbrev pub a_later_write_at_one_place_is_skipped : Example
a_later_write_at_one_place_is_skipped = record {
  setup = drive 3 warp_answers;
  calls = two_begin ++ third_begins ++ Read 2 3 0 ∷ Writing 2 3 1 9 ∷ read_then_overwritten ++ Commit 1 2 ∷ Commit 2 3 ∷ Show 1 ∷ [];
  answers = two_begun ++ third_begun ++ Ok (Code 0) ∷ Ok Done ∷ overwritten ++ Ok (Granted (3, 2)) ∷ Ok (Granted (4, 2)) ∷ Ok (Code 7) ∷ [];
}

-- seat 1 writes item 0 and commits
abbrev one_write : ℕ → List Call
one_write code = Begin 1 2 Update ∷ Writing 1 2 0 code ∷ Commit 1 2 ∷ []

abbrev one_written : ℕ → ℕ → List Answer
one_written start natural = Ok (Start start) ∷ Ok Done ∷ Ok (Granted (natural, natural)) ∷ []

abbrev pub an_open_reader_fills_a_list : Example
an_open_reader_fills_a_list = record {
  setup = drive 2 warp_answers;
  calls = Admit 0 Member ∷ Admit 1 Member ∷ Begin 0 1 Reader ∷ one_write 1 ++ one_write 2 ++ one_write 3 ++ one_write 4 ++ one_write 5 ++ one_write 6 ++ one_write 7 ++ one_write 8 ++ Commit 0 1 ∷ one_write 9 ++ Show 0 ∷ [];
  answers = Ok (Pass 1) ∷ Ok (Pass 2) ∷ Ok (Start 1) ∷ one_written 1 2 ++ one_written 2 3 ++ one_written 3 4 ++ one_written 4 5 ++ one_written 5 6 ++ one_written 6 7 ++ one_written 7 8 ++ Ok (Start 8) ∷ Ok Done ∷ Err (VersionsFull 0) ∷ Ok (Granted (0, 1)) ∷ one_written 8 9 ++ Ok (Code 9) ∷ [];
}

abbrev pub the_last_locomotive_code_passes : Example
the_last_locomotive_code_passes = record {
  setup = drive 2 warp_answers;
  calls = Admit 0 Member ∷ Begin 0 1 Update ∷ Writing 0 1 0 8381 ∷ Writing 0 1 0 8382 ∷ [];
  answers = Ok (Pass 1) ∷ Ok (Start 1) ∷ Ok Done ∷ Err UnknownCode ∷ [];
}

abbrev pub the_last_turnout_code_passes : Example
the_last_turnout_code_passes = record {
  setup = switch 2 warp_answers;
  calls = Admit 0 Member ∷ Begin 0 1 Update ∷ Writing 0 1 0 34 ∷ Writing 0 1 0 35 ∷ [];
  answers = Ok (Pass 1) ∷ Ok (Start 1) ∷ Ok Done ∷ Err UnknownCode ∷ [];
}

abbrev pub a_revoked_pass_opens_nothing : Example
a_revoked_pass_opens_nothing = record {
  setup = drive 2 warp_answers;
  calls = Admit 0 Member ∷ Begin 0 1 Update ∷ Revoke 0 ∷ Commit 0 1 ∷ Admit 0 Guest ∷ Begin 0 1 Update ∷ Begin 0 2 Update ∷ [];
  answers = Ok (Pass 1) ∷ Ok (Start 1) ∷ Ok Done ∷ Err SeatEmpty ∷ Ok (Pass 2) ∷ Err WrongPass ∷ Ok (Start 1) ∷ [];
}

abbrev pub examples : List Example
examples =
    a_stale_read_is_granted_earlier ∷
    home_refuses_a_guest_an_earlier_place ∷
    now_refuses_a_stale_read ∷
    a_reader_bars_an_earlier_place ∷
    a_missed_warped_version_is_refused ∷
    a_later_write_at_one_place_is_skipped ∷
    an_open_reader_fills_a_list ∷
    the_last_locomotive_code_passes ∷
    the_last_turnout_code_passes ∷
    a_revoked_pass_opens_nothing ∷ []

abbrev pub EachExampleComesOut : Type 0
EachExampleComesOut = AllByRecursion ComesOut examples
