use Rattle.std.proofs.Common.{rules}
use Rattle.versions.specs.Slots.{rest_version}
use Rattle.versions.proofs.Edited.{filled, cleared}
use Rattle.versions.proofs.storing.clear_from.Goals as goal

pub returns : goal.returns
returns g c = cleared c.args.slots.now _ c.args.end (rest_version g.K.Kind.REST) c.requires c.fill_with.ensures.len (filled _ _ _ _ (λ x q k. search rules) _ c.fill_with.ensures.ran.1)
