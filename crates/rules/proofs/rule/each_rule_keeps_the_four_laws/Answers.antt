use Rattle.rules.proofs.rule.each_rule_keeps_the_four_laws.Goals as goal

pub returns : goal.returns
returns g c rule =
    record {
      in_range = g.met.R.Rule.granted_place_is_above_start_up_to_next rule;
      up_to_missed = g.met.R.Rule.granted_place_is_not_above_missed rule;
      next_if_overtaken = g.met.R.Rule.overtaken_is_granted_next_only rule;
      next_if_none_missed = g.met.R.Rule.nothing_missed_is_granted_next rule;
    }
