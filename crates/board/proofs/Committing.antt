-- A commit does its step.
use Rattle.std.proofs.Common.{◌≡◌, ℕ, Some, None, Ok, Option, sym, ap, ◌∙◌, subst}
use Rattle.calls.specs.declared.call.Mode.TheVariants.{Reader, Update}
use Rattle.calls.specs.declared.call.Call.TheVariants.{Commit}
use Rattle.calls.specs.declared.reply.Reply.TheVariants.{Granted}
use Rattle.rules.specs.declared.findings.Findings.{Findings}
use Rattle.rules.specs.Laws.{FourLaws}
use Rattle.history.specs.State.{Setup, State}
use Rattle.history.specs.Steps.{Answer, commit_in}
use Rattle.history.specs.Log.{History, Leads}
use Rattle.history.proofs.KeptStep.{invariant}
use Rattle.history.proofs.Granting.{open_reach}
use Rattle.board.specs.declared.transaction.Transaction.{Transaction}
use Rattle.board.specs.declared.seat.HeldSeat.{HeldSeat}
use Rattle.board.specs.Contents.{Contents, setup_of}
use Rattle.board.specs.Ends.{NowRuns}
use Rattle.board.specs.Holding.{Holds, Stepped}
use Rattle.board.specs.Looks.{PassAsked}
use Rattle.board.specs.Commits.{Settled}
use Rattle.board.proofs.Doing.{steps}
use Rattle.board.proofs.Opening.{steps_running}
use Rattle.board.proofs.Requesting.{opened}

module _ {R : Type 0} (answers : R → Findings → Option ℕ) (before : Contents R) where
  abbrev its_setup : Setup
  its_setup = setup_of answers before

  pub ends_reader : (after : Contents R) (seat pass : ℕ) (h : HeldSeat) (t : Transaction) (s : State) → Holds before s
      → PassAsked its_setup seat pass s (Ok h) → h.held.running ≡ Some t → t.mode ≡ Reader → NowRuns before after h.at None
      → Stepped answers before after (Commit seat pass) (Ok (Granted (0, t.start))) s
  ends_reader after seat pass h t s k asked_pass open_is mode is =
      let o = opened its_setup seat pass h t s asked_pass open_is in
      steps_running answers before after seat h.at None None (Commit seat pass) (Granted (0, o.x.start)) (Granted (0, t.start)) s k asked_pass.0 o.in_range tt is
      (o.goes _ ∙ ap (commit_in its_setup seat h.held.class o.x s) (sym o.runs.mode ∙ mode)) (ap (λ n. Granted (0, n)) o.runs.start)

  pub ends_update : (after : Contents R) (seat pass : ℕ) (h : HeldSeat) (t : Transaction) (answer : Answer) (log : History) (s : State) → FourLaws (answers before.rule) → Leads its_setup log s → Holds before s
      → PassAsked its_setup seat pass s (Ok h) → h.held.running ≡ Some t → t.mode ≡ Update
      → Settled answers before after h.at h.held.class t answer
      → Stepped answers before after (Commit seat pass) answer s
  ends_update after seat pass h t answer log s laws leads k asked_pass open_is mode settled =
      let o = opened its_setup seat pass h t s asked_pass open_is in
      let comes = subst (λ n. Settled answers before after n h.held.class t answer) asked_pass.0 settled s o.x k o.runs o.in_range (open_reach (invariant its_setup laws leads) o.x seat o.on_board) in
      let go = o.goes (λ class x. commit_in its_setup seat class x s x.mode) ∙ ap (commit_in its_setup seat h.held.class o.x s) (sym o.runs.mode ∙ mode) in
      steps answers before after (Commit seat pass) answer s (commit_in its_setup seat h.held.class o.x s Update) comes.same_setup go comes.answered comes.holds
