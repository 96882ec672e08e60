use Rattle.std.proofs.Common.{◌≡◌, ◌+◌, length, take, ap, ◌∙◌, rules}
use Rattle.std.specs.Option.{option_map_or}
use Rattle.versions.specs.Slots.{as_codes}
use Rattle.versions.proofs.Seen.{cut-position}
use Rattle.versions.proofs.spot.kept.Goals as goal

pub returns-clause-list : goal.returns-clause-list
returns-clause-list g c coded =
    let kept : c.map_or.result ≡ option_map_or (λ i. i + 1) c.find.result (length c.args.slots.now) = search rules in
    ap (λ n. as_codes coded (take n c.args.slots.now)) (kept ∙ ap (λ o. option_map_or (λ i. i + 1) o (length c.args.slots.now)) c.find.ensures) ∙ cut-position coded c.args.least c.args.slots.now
