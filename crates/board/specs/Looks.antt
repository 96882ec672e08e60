-- What a look-up answers: where the questions are all answered "yes", the index; else what the rules then say.
use Rattle.std.specs.Prelude.{◌≡◌, ℕ, true, not, List, [], ◌∷◌, Some, Ok, Err, Result, nat_lt}
use Rattle.calls.specs.declared.refusal.Refusal.{Refusal}
use Rattle.calls.specs.declared.refusal.Refusal.TheVariants.{UnknownSeat, SeatHeld}
use Rattle.history.specs.State.{Setup, State}
use Rattle.history.specs.Steps.{Outcome, Question, asked, refuse, is_held, revoke_questions, pass_questions, item_questions}
use Rattle.board.specs.declared.seat.HeldSeat.{HeldSeat}
use Rattle.board.specs.Holding.{Seated}

abbrev pub AllYes : List Question → Type 0
AllYes [] = Unit {0}
AllYes (q ∷ qs) = (q.yes ≡ true) × AllYes qs

abbrev pub Asked : List Question → State → ℕ → Result ℕ Refusal → Type 0
Asked qs s number (Ok at) = (at ≡ number) × AllYes qs
Asked qs s number (Err refusal) = (go : Outcome) → asked qs s go ≡ refuse refusal s

-- the seat that is found is the one that the rules have
abbrev pub PassAsked : Setup → ℕ → ℕ → State → Result HeldSeat Refusal → Type 0
PassAsked b seat pass s (Ok h) = (h.at ≡ seat) × AllYes (pass_questions b seat pass s) × Seated b.items (Some h.held) (s.seats seat)
PassAsked b seat pass s (Err refusal) = (go : Outcome) → asked (pass_questions b seat pass s) s go ≡ refuse refusal s

abbrev pub ItemAsked : Setup → ℕ → State → Result ℕ Refusal → Type 0
ItemAsked b item s r = Asked (item_questions b item) s item r

-- an admission asks this, and then of the passes
abbrev pub EmptyAsked : Setup → ℕ → State → Result ℕ Refusal → Type 0
EmptyAsked b seat s r = Asked (record { yes = nat_lt seat b.seats; «else» = UnknownSeat } ∷ record { yes = not (is_held (s.seats seat)); «else» = SeatHeld } ∷ []) s seat r

abbrev pub HeldAsked : Setup → ℕ → State → Result ℕ Refusal → Type 0
HeldAsked b seat s r = Asked (revoke_questions b seat s) s seat r
