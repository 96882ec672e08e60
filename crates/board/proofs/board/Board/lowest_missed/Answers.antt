use Rattle.std.proofs.Common.{[], ltb, length, sym, ap, ◌∙◌, arith, below_more}
use Rattle.history.specs.Steps.{missed_of}
use Rattle.history.proofs.Lowest.{lowest_none}
use Rattle.board.specs.Contents.{Contents}
use Rattle.board.proofs.Finding.{lowest_at, some_missed, none_missed}
use Rattle.board.proofs.board.Board.lowest_missed.Goals as goal
use Rattle.board.proofs.board.Board.lowest_missed.Goals.{else-txn-item-via-then-txn-item+else-is_some, else-txn-item-via-else-txn-item}

pub returns-then-is_some : goal.returns-then-is_some
returns-then-is_some g c s x h r =
    lowest_at c.args.self.now.items _ c.loop-item.item (omega (arith, c.loop-item-test.true, ap (λ (b : Contents g.row.R.Denot). b.items) c.self.view_is))
    (sym (some_missed c.with_missed.result (missed_of s x c.loop-item.item) (c.with_missed.ensures s x h r [] c.nothing.ensures)) ∙ sym c.is_some.ensures ∙ c.if-is_some.true) (c.loop-item.invariant s x h r)

pub loop-item-preserved : goal.loop-item-preserved
loop-item-preserved g c s x h r =
    below_more _ _ (c.loop-item.invariant s x h r)
    (elim c.else-txn-item.branch [
      | else-txn-item-via-then-txn-item+else-is_some w ↦ sym (some_missed w.with_missed.result (missed_of s x c.loop-item.item) (w.with_missed.ensures s x h r [] w.nothing.ensures)) ∙ sym w.is_some.ensures ∙ w.if-is_some.false
      | else-txn-item-via-else-txn-item w ↦ ap (λ l. ltb 0 (length l))
          (none_missed g.R.Rule.answers c.args.self.now c.args.txn.now c.loop-item.item (omega (arith, c.loop-item-test.true, ap (λ (b : Contents g.row.R.Denot). b.items) c.self.view_is)) w.if-txn-item.false s x h r)
    ])

pub returns : goal.returns
returns g c s x h r =
    ap (λ (b : Contents g.row.R.Denot). b.items) c.self.view_is
    ∙ sym (lowest_none c.args.self.now.items _ (λ k l. c.loop-item.invariant s x h r k (omega (arith, c.loop-item-test.false, ap (λ (b : Contents g.row.R.Denot). b.items) c.self.view_is))))
