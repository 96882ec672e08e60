use Rattle.std.proofs.Common.{◌≡◌, true, false, Err, sym, refl, ◌∙◌, subst, arith, rules}
use Rattle.calls.specs.declared.call.Call.TheVariants.{Write as Writing}
use Rattle.calls.specs.declared.call.Mode.TheVariants.{Update}
use Rattle.calls.specs.declared.refusal.Refusal.TheVariants.{WriteListFull}
use Rattle.board.specs.Holding.{Stepped}
use Rattle.board.specs.Sound.{RunningKnown}
use Rattle.board.proofs.Requesting.{refuses_reader, refuses_code, refuses_full, writes}
use Rattle.board.proofs.Known.{known_more}
use Rattle.board.proofs.board.Board.write.Goals as goal

pub returns-then-eq : goal.returns-then-eq
returns-then-eq g c h s l k =
    refuses_reader g.R.Rule.answers c.args.self.now c.args.seat c.args.pass c.args.item c.args.code _ c.in_ok-at.field-0 c.in-Some.txn s k (c.in_ok-at.ensures.asked s k) c.in-Some.is (c.in_ok-known_item.ensures.asked s) (search rules)

pub returns-then-code-COUNT : goal.returns-then-code-COUNT
returns-then-code-COUNT g c h s l k =
    let update : c.in-Some.txn.mode ≡ Update = search rules in
    refuses_code g.R.Rule.answers c.args.self.now c.args.seat c.args.pass c.args.item c.args.code _ c.COUNT.result c.in_ok-at.field-0 c.in-Some.txn s k (c.in_ok-at.ensures.asked s k) c.in-Some.is (c.in_ok-known_item.ensures.asked s) update
    (c.COUNT.ensures ∙ sym c.is_lawful.ensures.kind) c.if-code-COUNT.true

pub returns-in_err-list : goal.returns-in_err-list
returns-in_err-list g c h s l k =
    let update : c.in-Some.txn.mode ≡ Update = search rules in
    let full : c.from_residual-in_err-list.result ≡ Err WriteListFull = search rules in
    subst (λ a. Stepped g.R.Rule.answers c.args.self.now c.args.self.now (Writing c.args.seat c.args.pass c.args.item c.args.code) a s) (sym full)
    (refuses_full g.R.Rule.answers c.args.self.now c.args.seat c.args.pass c.args.item c.args.code _ c.COUNT.result c.in_ok-at.field-0 c.in-Some.txn s false k (c.in_ok-at.ensures.asked s k) c.in-Some.is (c.in_ok-known_item.ensures.asked s) update
    (c.COUNT.ensures ∙ sym c.is_lawful.ensures.kind) c.if-code-COUNT.false c.in_err-list.ensures.room refl)

pub set_running-requires-clause-writes : goal.set_running-requires-clause-writes
set_running-requires-clause-writes g c =
    known_more c.args.self.now.items c.args.self.now.codes c.in-Some.txn (subst (RunningKnown c.args.self.now.items c.args.self.now.codes) c.in-Some.is c.in_ok-at.ensures.within.1) c.list.new.self c.args.item c.args.code c.in_ok-known_item.ensures.within.1 (omega (arith, c.COUNT.ensures, c.is_lawful.ensures.kind, c.if-code-COUNT.false))
    c.in_ok-list.ensures.listed

pub returns : goal.returns
returns g c h s l k =
    let update : c.in-Some.txn.mode ≡ Update = search rules in
    writes g.R.Rule.answers c.args.self.now c.set_running.new.self c.args.seat c.args.pass c.args.item c.args.code _ c.COUNT.result c.in_ok-at.field-0 c.in-Some.txn c.list.new.self s true k (c.in_ok-at.ensures.asked s k) c.in-Some.is (c.in_ok-known_item.ensures.asked s) update
    (c.COUNT.ensures ∙ sym c.is_lawful.ensures.kind) c.if-code-COUNT.false c.in_ok-list.ensures.room refl c.in_ok-list.ensures.listed c.in_ok-list.ensures.mode c.in_ok-list.ensures.start c.in_ok-list.ensures.marks c.set_running.ensures
