-- The number by which C is told how a run ended.
use Rattle.std.specs.Prelude.{ℕ, Ok, Err, Result}
use Rattle.station.specs.declared.status.Unplayed.{Unplayed}
use Rattle.station.specs.declared.status.Unplayed.TheVariants.{BadSetup, Uneven, NoMemory}

abbrev pub status_of : Result (Unit {0}) Unplayed → ℕ
status_of (Ok played) = 0
status_of (Err BadSetup) = 1
status_of (Err Uneven) = 2
status_of (Err NoMemory) = 3
