-- What every rule keeps, whatever else it decides.
use Rattle.std.specs.Prelude.{◌≡◌, ℕ, ◌<◌, ◌≤◌, true, false, Some, None, Option}
use Rattle.rules.specs.declared.findings.Findings.{Findings}

-- findings as a board gives them
pub record BoardGives (f : Findings) : Type 0 where
  pub start_below_next : f.start < f.next
  pub missed_below_next : (missed : ℕ) → f.missed ≡ Some missed → missed < f.next
  pub unwarped_missed_above_start : f.warped ≡ false → (missed : ℕ) → f.missed ≡ Some missed → f.start < missed

-- a granted place is above the start and not above next
abbrev pub GrantsInRange : (Findings → Option ℕ) → Type 0
GrantsInRange answers =
    (f : Findings) → BoardGives f → (place : ℕ) → answers f ≡ Some place → (f.start < place) × (place ≤ f.next)

-- a granted place is not above the earliest missed place
abbrev pub GrantsUpToMissed : (Findings → Option ℕ) → Type 0
GrantsUpToMissed answers =
    (f : Findings) → BoardGives f → (missed place : ℕ) → f.missed ≡ Some missed → answers f ≡ Some place → place ≤ missed

-- an overtaken transaction is granted next or nothing
abbrev pub GrantsNextIfOvertaken : (Findings → Option ℕ) → Type 0
GrantsNextIfOvertaken answers =
    (f : Findings) → BoardGives f → f.overtaken ≡ true → (place : ℕ) → answers f ≡ Some place → place ≡ f.next

-- where nothing was missed, next is granted
abbrev pub GrantsNextIfNoneMissed : (Findings → Option ℕ) → Type 0
GrantsNextIfNoneMissed answers = (f : Findings) → BoardGives f → f.missed ≡ None → answers f ≡ Some f.next

pub record FourLaws (answers : Findings → Option ℕ) : Type 0 where
  pub in_range : GrantsInRange answers
  pub up_to_missed : GrantsUpToMissed answers
  pub next_if_overtaken : GrantsNextIfOvertaken answers
  pub next_if_none_missed : GrantsNextIfNoneMissed answers
