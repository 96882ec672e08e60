use Rattle.std.proofs.lemmas.Iterator.Adapters.{position_from-zero}
use Rattle.versions.specs.Slots.{in_sight}
use Rattle.versions.proofs.sight.find.Goals as goal

pub loop-version-init : goal.loop-version-init
loop-version-init g c = position_from-zero (in_sight c.args.sight c.args.limit) c.args.slots.now
