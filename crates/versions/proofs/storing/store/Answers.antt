use Rattle.versions.proofs.Laid.{kept_taken, kept_free}
use Rattle.versions.proofs.storing.store.Goals as goal

pub returns-in-None : goal.returns-in-None
returns-in-None g c = kept_taken _ _ _ c.args.slots.now c.args.new c.args.least c.spot_for-spot.result c.spot_for-spot.ensures _ c.in-None.is c.clear_from.ensures

pub returns-in-Some : goal.returns-in-Some
returns-in-Some g c = kept_free _ _ _ c.args.slots.now c.args.new c.args.least c.spot_for-spot.result c.spot_for-spot.ensures c.in-Some.at _ _ c.in-Some.is c.if-spot-slots.true c.insert_at.ensures c.clear_from-in-Some.ensures
