-- What is counted in a text of answers.
use Rattle.std.specs.Prelude.{◌≡◌, ℕ, ◌+◌, ◌≤◌, min, Bool, cond, ◌&&◌, List, [], ◌∷◌, ◌++◌, map, replicate, decimal, ◌==◌, nat_lt, slice_index, slice_set}
use Rattle.script.specs.Parts.{joined_by}
use Rattle.cases.specs.declared.answers.Answer.{Answer}
use Rattle.cases.specs.declared.tally.Tally.{Tally}

-- four numbers parted by a space, and a newline
abbrev pub written : Answer → List ℕ
written a = joined_by 32 (map decimal (a.line ∷ a.refusal ∷ a.first ∷ a.second ∷ [])) ++ (10 ∷ [])

-- seven digits are enough for each of its numbers
pub record IsWritable (a : Answer) : Type 0 where
  pub line : a.line ≤ 9999999
  pub refusal : a.refusal ≤ 9999999
  pub first : a.first ≤ 9999999
  pub second : a.second ≤ 9999999

abbrev pub all_written : List Answer → List ℕ
all_written [] = []
all_written (a ∷ rest) = written a ++ all_written rest

-- only a granted commit has a place
abbrev pub is_granted : Answer → Bool
is_granted a = a.refusal == 0 && nat_lt 0 a.second

-- its natural number is above its place
abbrev pub is_warped : Answer → Bool
is_warped a = is_granted a && nat_lt a.second a.first

-- one more, up to the greatest count that there is
abbrev pub more : ℕ → ℕ
more n = min (n + 1) 4294967295

abbrev pub more_if : Bool → ℕ → ℕ
more_if b n = cond b (more n) n

abbrev pub nothing_noted : Tally
nothing_noted = record { scripts = 0; lines = 0; refusals = replicate 19 0; granted = 0; warped = 0 }

abbrev pub noted : Tally → Answer → Tally
noted t a =
    record {
      scripts = t.scripts;
      lines = more t.lines;
      refusals = slice_set t.refusals a.refusal (more (slice_index t.refusals a.refusal));
      granted = more_if (is_granted a) t.granted;
      warped = more_if (is_warped a) t.warped;
    }

abbrev pub all_noted : Tally → List Answer → Tally
all_noted t [] = t
all_noted t (a ∷ rest) = all_noted (noted t a) rest

abbrev pub one_script : Tally → Tally
one_script t = record { scripts = more t.scripts; lines = t.lines; refusals = t.refusals; granted = t.granted; warped = t.warped }

-- the text is answers, one after the other, and each was noted
pub record Noted (before : Tally) (text : List ℕ) (after : Tally) : Type 0 where
  pub answers : List Answer
  pub text_is : text ≡ all_written answers
  pub after_is : after ≡ all_noted before answers
