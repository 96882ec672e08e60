use Rattle.board.proofs.Committing.{ends_update}
use Rattle.board.proofs.board.Board.commit.Goals as goal

pub returns-in-Update : goal.returns-in-Update
returns-in-Update g c h s l k =
    ends_update g.R.Rule.answers c.args.self.now c.commit_update.new.self c.args.seat c.args.pass c.in_ok-at.field-0 c.in-Some.txn c.commit_update.result h s
    (record {
      in_range = g.met.R.Rule.granted_place_is_above_start_up_to_next c.args.self.now.rule;
      up_to_missed = g.met.R.Rule.granted_place_is_not_above_missed c.args.self.now.rule;
      next_if_overtaken = g.met.R.Rule.overtaken_is_granted_next_only c.args.self.now.rule;
      next_if_none_missed = g.met.R.Rule.nothing_missed_is_granted_next c.args.self.now.rule;
    }) l k (c.in_ok-at.ensures.asked s k) c.in-Some.is c.in-Update.is c.commit_update.ensures
