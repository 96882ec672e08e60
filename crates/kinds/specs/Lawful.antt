-- What every kind of item keeps, over its ghost members.
use Rattle.std.specs.Prelude.{◌≡◌, ℕ, ◌^◌, ◌<◌, ◌≤◌}

pub record LawfulKind {S : Type 0} (state : S → Type 0) (coded : S → ℕ) (decoded : ℕ → S) (count : ℕ) (rest : S) : Type 0 where
  pub code_gives_state_back : (s : S) → state s → decoded (coded s) ≡ s
  pub state_gives_code_back : (n : ℕ) → n < count → coded (decoded n) ≡ n
  pub code_is_below_count : (s : S) → state s → coded s < count
  pub code_below_count_gives_state : (n : ℕ) → n < count → state (decoded n)
  pub rest_is_state : state rest
  pub two_codes_at_least : 2 ≤ count
  pub count_fits : count < 2 ^ 32
