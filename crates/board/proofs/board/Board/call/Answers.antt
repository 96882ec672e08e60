use Rattle.std.proofs.Common.{◌≡◌, sym, subst}
use Rattle.calls.specs.declared.call.Call.{Call}
use Rattle.history.specs.Promise.{Lawful}
use Rattle.history.specs.Steps.{Answer}
use Rattle.board.specs.Contents.{Contents, setup_of}
use Rattle.board.specs.Holding.{Follows, KeepsThePromise}
use Rattle.board.proofs.Keeping.{keeps}
use Rattle.board.proofs.board.Board.call.Given as given
use Rattle.board.proofs.board.Board.call.Goals as goal

-- a call that does its step keeps the promise
kept : (g : given.Over) (before after : Contents g.row.R.Denot) (whole call : Call) (answer : Answer) → Lawful (setup_of g.R.Rule.answers before) → whole ≡ call
    → Follows g.R.Rule.answers before after call answer → KeepsThePromise g.R.Rule.answers before after whole answer
kept g before after whole call answer lawful is follows =
    keeps g.R.Rule.answers before after whole answer lawful (subst (λ z. Follows g.R.Rule.answers before after z answer) (sym is) follows)

pub returns-in-Admit : goal.returns-in-Admit
returns-in-Admit g c = kept g c.args.self.now c.admit.new.self c.args.call _ _ c.is_lawful.ensures.setup c.in-Admit.is c.admit.ensures

pub returns-in-Revoke : goal.returns-in-Revoke
returns-in-Revoke g c = kept g c.args.self.now c.revoke.new.self c.args.call _ _ c.is_lawful.ensures.setup c.in-Revoke.is c.revoke.ensures

pub returns-in-Begin : goal.returns-in-Begin
returns-in-Begin g c = kept g c.args.self.now c.begin.new.self c.args.call _ _ c.is_lawful.ensures.setup c.in-Begin.is c.begin.ensures

pub returns-in-Read : goal.returns-in-Read
returns-in-Read g c = kept g c.args.self.now c.read.new.self c.args.call _ _ c.is_lawful.ensures.setup c.in-Read.is c.read.ensures

pub returns-in-Write : goal.returns-in-Write
returns-in-Write g c = kept g c.args.self.now c.write.new.self c.args.call _ _ c.is_lawful.ensures.setup c.in-Write.is c.write.ensures

pub returns-in-Commit : goal.returns-in-Commit
returns-in-Commit g c = kept g c.args.self.now c.commit.new.self c.args.call _ _ c.is_lawful.ensures.setup c.in-Commit.is c.commit.ensures

pub returns-in-Abandon : goal.returns-in-Abandon
returns-in-Abandon g c = kept g c.args.self.now c.abandon.new.self c.args.call _ _ c.is_lawful.ensures.setup c.in-Abandon.is c.abandon.ensures

pub returns-in-Show : goal.returns-in-Show
returns-in-Show g c = kept g c.args.self.now c.args.self.now c.args.call _ _ c.is_lawful.ensures.setup c.in-Show.is c.show.ensures
