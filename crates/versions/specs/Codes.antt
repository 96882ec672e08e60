-- What the codes of versions tell of them.
use Rattle.std.specs.Prelude.{◌≡◌, ℕ, List}
use Rattle.std.specs.List.{AllByRecursion}
use Rattle.versions.specs.declared.version.Version.{Version}
use Rattle.versions.specs.Slots.{as_codes}

-- all of them: versions whose states are the kind's are the same if they are so told by their codes
abbrev pub CodesTellVersions : {S : Type 0} → (S → Type 0) → (S → ℕ) → Type 0
CodesTellVersions {S} state coded =
    (vs ws : List (Version S)) → AllByRecursion (λ (v : Version S). state v.state) vs → AllByRecursion (λ (w : Version S). state w.state) ws → as_codes coded vs ≡ as_codes coded ws → vs ≡ ws
