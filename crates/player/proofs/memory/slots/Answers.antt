use Rattle.std.proofs.Common.{sym, ◌∙◌, rules}
use Rattle.std.specs.List.{range_with_len}
use Rattle.std.proofs.lemmas.Iterator.{YieldsList-from_range, YieldsList-from_map, YieldsList-from_any_map, items_from_collect, length_from_collect}
use Rattle.std.proofs.lemmas.List.FromFn.{length-range_with_len, length-map-range_with_len}
use Rattle.std.proofs.lemmas.Result.{IfOk-weaker}
use Rattle.std.proofs.lemmas.Simd.{splat_is_map}
use Rattle.versions.specs.Slots.{rest_version}
use Rattle.player.proofs.memory.slots.Goals as goal
use borrow.Author.Tests.{tests}

pub returns-clause-long : goal.returns-clause-long
returns-clause-long g c =
    length_from_collect c.collect.result 2048 c.collect.ensures.ran (YieldsList-from_any_map _ (YieldsList-from_range 0 2048 2048 c.map.ensures.source (search rules))) (length-map-range_with_len (λ _. tt {0}) 0 2048)

pub returns-clause-resting : goal.returns-clause-resting
returns-clause-resting g c =
    IfOk-weaker c.collect.result _ _ (λ v e. e ∙ sym (splat_is_map (range_with_len 0 2048) 2048 _ (length-range_with_len 0 2048)))
    (items_from_collect c.collect.result c.collect.ensures.ran (YieldsList-from_map _ (λ _. rest_version g.K.Kind.REST) (YieldsList-from_range 0 2048 2048 c.map.ensures.source (search rules)) c.map.ensures.closure (λ x r q k. search (rules, tests))))
