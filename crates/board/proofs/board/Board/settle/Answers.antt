use Rattle.std.proofs.Common.{◌+◌, Some, Ok, sym, ap, ◌∙◌, subst}
use Rattle.calls.specs.declared.reply.Reply.TheVariants.{Granted}
use Rattle.history.specs.Steps.{starts, least, settle}
use Rattle.board.specs.Contents.{Contents, setup_of, with_clock}
use Rattle.board.specs.Commits.{Comes}
use Rattle.board.specs.Room.{Reaches}
use Rattle.board.proofs.Ending.{fills, grants, none_full}
use Rattle.board.proofs.board.Board.settle.Goals as goal

pub returns-in-Some : goal.returns-in-Some
returns-in-Some g c ticks s x k r lt reach =
    let is = c.least_start-least.ensures s k ∙ ap (λ n. least n (starts (setup_of g.R.Rule.answers c.args.self.now) s)) r.start in
    fills g.R.Rule.answers c.args.self.now c.end.new.self c.args.at c.in-Some.item c.args.place c.args.txn.now x s k r lt c.end.ensures
    (c.in-Some.ensures s x k r (subst (λ n. Reaches n s) (sym is) reach) is)

pub returns-in-None : goal.returns-in-None
returns-in-None g c ticks s x k r lt reach =
    let is = c.least_start-least.ensures s k ∙ ap (λ n. least n (starts (setup_of g.R.Rule.answers c.args.self.now) s)) r.start in
    let low = subst (λ n. Reaches n s) (sym is) reach in
    let none = c.in-None.ensures s x k r low is in
    subst (λ (b : Contents g.row.R.Denot). Comes g.R.Rule.answers c.args.self.now (with_clock b c.args.next) (Ok (Granted (c.args.next, c.args.place))) (settle (setup_of g.R.Rule.answers c.args.self.now) c.args.at x s (Some c.args.place))) (sym c.self.view_is)
    (grants g.R.Rule.answers c.args.self.now c.store_all.new.self c.end-in-None.new.self c.args.at c.args.next c.args.place c.args.txn.now x s k r lt ticks c.store_all.ensures.only
    (c.store_all.ensures.lists s x k r low is (ticks ∙ ap (λ n. n + 1) k.clock) (none_full g.R.Rule.answers c.args.self.now s x c.args.place none)) c.end-in-None.ensures none)
