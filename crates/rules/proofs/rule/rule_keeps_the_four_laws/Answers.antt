use Rattle.rules.proofs.rule.rule_keeps_the_four_laws.Goals as goal

pub returns : goal.returns
returns g c = c.each_rule_keeps_the_four_laws.ensures c.args.rule.now
