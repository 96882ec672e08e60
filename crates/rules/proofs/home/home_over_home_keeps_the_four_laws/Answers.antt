use Rattle.rules.proofs.home.home_over_home_keeps_the_four_laws.Goals as goal

pub returns : goal.returns
returns g c rule = c.each_rule_keeps_the_four_laws.ensures (record { below = record { below = rule } })
