use Rattle.std.proofs.Common.{◌≡◌, ◌-◌, length, drop, position}
use Rattle.std.specs.List.{position_from}
use Rattle.versions.specs.Slots.{in_sight}
use Rattle.versions.proofs.sight.find.Given as goal

abbrev pub invariant-loop-version : goal.invariant-loop-version
invariant-loop-version g l = position (in_sight l.sight l.limit) l.slots ≡ position_from (in_sight l.sight l.limit) l.at (drop l.at l.slots)

abbrev pub decreases-loop-version : goal.decreases-loop-version
decreases-loop-version g l = length l.slots - l.at
