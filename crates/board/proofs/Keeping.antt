-- A call that does its step keeps the promise.
use Rattle.std.proofs.Common.{ℕ, Option, sym, subst}
use Rattle.calls.specs.declared.call.Call.{Call}
use Rattle.rules.specs.declared.findings.Findings.{Findings}
use Rattle.history.specs.Steps.{Answer, step}
use Rattle.history.specs.Log.{◌▷◌, Leads, one_more}
use Rattle.history.specs.Promise.{Lawful}
use Rattle.history.proofs.PromiseKept.{every_history}
use Rattle.board.specs.Contents.{Contents, setup_of}
use Rattle.board.specs.Holding.{Follows, KeepsThePromise}

pub keeps : {R : Type 0} (answers : R → Findings → Option ℕ) (before after : Contents R) (call : Call) (answer : Answer) → Lawful (setup_of answers before) → Follows answers before after call answer → KeepsThePromise answers before after call answer
keeps answers before after call answer lawful follows h s leads k =
    let b = setup_of answers before in
    let stepped = follows h s leads k in
    let on : Leads b (h ▷ (call, answer)) (step b call s).after = subst (λ (a : Answer). Leads b (h ▷ (call, a)) (step b call s).after) (sym stepped.answered) (one_more call leads) in
    record {
      same_setup = stepped.same_setup;
      state_left = (step b call s).after;
      leads = on;
      holds = stepped.holds;
      promise = every_history b lawful (h ▷ (call, answer)) (step b call s).after on;
    }
