use Rattle.std.proofs.Common.{◌++◌, sym, ap, subst, add-one, arith}
use Rattle.history.specs.Steps.{gather, missed_of}
use Rattle.versions.specs.Plans.{Tells}
use Rattle.board.specs.Contents.{Contents}
use Rattle.board.proofs.Finding.{missed_unmarked}
use Rattle.board.proofs.board.Board.missed.Goals as goal
use Rattle.board.proofs.board.Board.missed.Goals.{then-txn-item, else-txn-item}

pub loop-item-preserved : goal.loop-item-preserved
loop-item-preserved g c s x h r =
    let so_far = gather c.loop-item.item (missed_of s x) in
    subst (λ n. Tells c.if-txn-item.missed (gather n (missed_of s x))) (sym (add-one c.loop-item.item))
    (elim c.if-txn-item.branch [
      | then-txn-item w ↦ subst (λ m. Tells m (so_far ++ missed_of s x c.loop-item.item)) (sym w.missed-is) (w.with_missed-missed.ensures s x h r so_far (c.loop-item.invariant s x h r))
      | else-txn-item w ↦ subst (λ m. Tells m (so_far ++ missed_of s x c.loop-item.item)) (sym w.missed-is)
          (missed_unmarked g.R.Rule.answers c.args.self.now c.args.txn.now c.loop-item.item c.loop-item.missed (omega (arith, c.loop-item-test.true, ap (λ (b : Contents g.row.R.Denot). b.items) c.self.view_is)) w.if-txn-item.false s x h r so_far (c.loop-item.invariant s x h r))
    ])
