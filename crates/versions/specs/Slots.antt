-- How a list of versions lies in slots.
use Rattle.std.specs.Prelude.{ℕ, ◌-◌, Bool, List, ◌++◌, map, length, replicate, nat_le}
use Rattle.history.specs.State.{Version as Kept}
use Rattle.history.specs.Steps.{natural_by, place_by}
use Rattle.versions.specs.declared.version.Version.{Version}
use Rattle.versions.specs.declared.sight.Sight.{Sight}
use Rattle.versions.specs.declared.sight.Sight.TheVariants.{ByNatural, ByPlace}

-- a version by the code of its state
abbrev pub as_code : {S : Type 0} → (S → ℕ) → Version S → Kept
as_code coded v = record { code = coded v.state; natural = v.natural; place = v.place }

abbrev pub as_codes : {S : Type 0} → (S → ℕ) → List (Version S) → List Kept
as_codes coded vs = map (as_code coded) vs

-- the number by which a version is in sight
abbrev pub number_of : {S : Type 0} → Sight → Version S → ℕ
number_of ByNatural v = v.natural
number_of ByPlace v = v.place

abbrev pub in_sight : {S : Type 0} → Sight → ℕ → Version S → Bool
in_sight sight limit v = nat_le (number_of sight v) limit

-- the same of a version by its code
abbrev pub sees : Sight → ℕ → Kept → Bool
sees ByNatural limit = natural_by limit
sees ByPlace limit = place_by limit

-- a list at the front of so many slots, rest versions behind it
abbrev pub padded : ℕ → Kept → List Kept → List Kept
padded slots rest vs = vs ++ replicate (slots - length vs) rest

-- a rest version
abbrev pub rest_version : {S : Type 0} → S → Version S
rest_version rest = record { state = rest; natural = 0; place = 0 }
