use Rattle.std.proofs.Common.{ltb, ◌++◌, sym, subst, rules, tests}
use Rattle.std.proofs.lemmas.Iterator.{YieldsList-from_slice}
use Rattle.std.proofs.lemmas.Iterator.Search.{YieldsList-from_take_while}
use Rattle.std.proofs.lemmas.Iterator.Consumers.{fold_from_yields_List}
use Rattle.history.specs.Steps.{newer}
use Rattle.versions.specs.Slots.{as_codes}
use Rattle.versions.specs.Plans.{Tells, missed_with}
use Rattle.versions.proofs.Missing.{tells_newer}
use Rattle.versions.proofs.missed.count_missed.Goals as goal

pub returns : goal.returns
returns g c coded vs t =
    let slots = c.args.slots.now in
    let all = fold_from_yields_List _ missed_with _ _ c.fold.ensures.ran (YieldsList-from_take_while _ (λ v. ltb c.args.start v.natural) (YieldsList-from_slice slots cc) c.take_while.ensures.closure c.take_while.ensures.done (λ x b q k. search (rules, tests))) (λ a x b q k. search (rules, tests)) in
    subst (λ m. Tells m (vs ++ newer c.args.start (as_codes coded slots))) (sym all) (tells_newer coded c.args.start slots c.args.before vs t)
