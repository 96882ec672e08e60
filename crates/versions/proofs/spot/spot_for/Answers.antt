use Rattle.std.proofs.Common.{Some, sym, ap, ◌∙◌}
use Rattle.std.proofs.lemmas.List.{length-take-le}
use Rattle.std.proofs.lemmas.List.Quantifiers.{position-Some}
use Rattle.versions.proofs.Spots.{spot_is, free_at, at_taken, at_free}
use Rattle.versions.proofs.spot.spot_for.Goals as goal

pub returns-in-Some : goal.returns-in-Some
returns-in-Some g c =
    spot_is c.args.slots.now _ c.args.least c.args.place _ _ c.kept-keep.ensures.within c.kept-keep.ensures.list c.find.ensures
    (sym (ap (free_at c.args.place _) c.in-Some.is ∙ at_taken c.args.place _ c.in-Some.at c.index-stay-at.result (position-Some _ _ _ c.index-stay-at.result (sym c.find.ensures ∙ c.in-Some.is)).0 c.if-stay-at.true))

pub returns-in-Some-2 : goal.returns-in-Some-2
returns-in-Some-2 g c =
    spot_is c.args.slots.now _ c.args.least c.args.place _ _ c.kept-keep.ensures.within c.kept-keep.ensures.list c.find.ensures
    (sym (ap (free_at c.args.place _) c.in-Some.is ∙ at_free c.args.place _ c.in-Some.at c.index-stay-at.result (position-Some _ _ _ c.index-stay-at.result (sym c.find.ensures ∙ c.in-Some.is)).0 c.if-stay-at.false))

pub returns-in-None : goal.returns-in-None
returns-in-None g c =
    spot_is c.args.slots.now _ c.args.least c.args.place _ _ c.kept-keep.ensures.within c.kept-keep.ensures.list c.find.ensures
    (sym (ap (free_at c.args.place _) c.in-None.is ∙ ap Some (length-take-le c.kept-keep.result c.args.slots.now c.kept-keep.ensures.within)))
