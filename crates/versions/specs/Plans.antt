-- What is found in slots, against what the rules say of lists.
use Rattle.std.specs.Prelude.{◌≡◌, ℕ, ◌<◌, ◌≤◌, min, not, ◌||◌, ◌==◌, List, length, take, Some, None, Option, IfSome}
use Rattle.std.specs.List.{AllByRecursion, insert}
use Rattle.history.specs.State.{Version as Kept}
use Rattle.history.specs.Steps.{earliest, is_warped, any, down_to_anchor, insert_version}
use Rattle.versions.specs.declared.version.Version.{Version}
use Rattle.versions.specs.declared.missed.Missed.{Missed}
use Rattle.versions.specs.declared.spot.Spot.{Spot}
use Rattle.versions.specs.Slots.{as_code, as_codes, padded, rest_version}

-- what is known of missed versions is so
pub record Tells (m : Missed) (vs : List Kept) : Type 0 where
  pub earliest_is : m.earliest ≡ earliest vs
  pub warped_is : m.warped ≡ any is_warped vs

-- the lesser of a number and another, if there is another
abbrev pub least_with : Option ℕ → ℕ → ℕ
least_with None n = n
least_with (Some other) n = min other n

-- what is known with one missed version more
abbrev pub missed_with : {S : Type 0} → Missed → Version S → Missed
missed_with m v = record { earliest = Some (least_with m.earliest v.place); warped = m.warped || not (v.place == v.natural) }

-- a list with a new version at an index, or as it is where there is no index
abbrev pub put_in : Kept → Option ℕ → List Kept → List Kept
put_in n None vs = vs
put_in n (Some at) vs = insert vs at n

-- so many versions stay, and a new one with the place goes in among them at the index, unless its place is taken there
pub record Spotted {S : Type 0} (spot : Spot) (slots : List (Version S)) (least place : ℕ) : Type 0 where
  pub within : spot.keep ≤ length slots
  pub inside : IfSome spot.at (λ at. at ≤ spot.keep)
  pub stays : (coded : S → ℕ) → as_codes coded (take spot.keep slots) ≡ down_to_anchor least (as_codes coded slots)
  pub goes : (coded : S → ℕ) (n : Kept) → n.place ≡ place → insert_version n (as_codes coded (take spot.keep slots)) ≡ put_in n spot.at (as_codes coded (take spot.keep slots))

-- the list that the slots then hold has the new version and no version below the anchor, where there is room for it
pub record Stored {S : Type 0} (state : S → Type 0) (coded : S → ℕ) (rest : S) (before after : List (Version S)) (new : Version S) (least : ℕ) : Type 0 where
  pub long : length after ≡ length before
  pub list : length (insert_version (as_code coded new) (down_to_anchor least (as_codes coded before))) ≤ length before
      → as_codes coded after ≡ padded (length before) (as_code coded (rest_version rest)) (insert_version (as_code coded new) (down_to_anchor least (as_codes coded before)))
  -- without room nothing changes
  pub unchanged : length before < length (insert_version (as_code coded new) (down_to_anchor least (as_codes coded before))) → after ≡ before
  -- the slots hold states of the kind, if they did and the new one is
  pub states : AllByRecursion (λ (v : Version S). state v.state) before → state new.state → state rest → AllByRecursion (λ (v : Version S). state v.state) after
