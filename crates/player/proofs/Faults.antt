-- A faulty line.
use Rattle.std.proofs.Common.{◌≡◌, ℕ, List, Err, Option, Result, sym, refl, subst}
use Rattle.calls.specs.declared.call.Call.{Call}
use Rattle.calls.specs.declared.fault.Fault.{Fault}
use Rattle.rules.specs.declared.findings.Findings.{Findings}
use Rattle.history.specs.Log.{History}
use Rattle.history.specs.Promise.{Lawful}
use Rattle.history.proofs.PromiseKept.{every_history}
use Rattle.script.specs.Reading.{command_of}
use Rattle.board.specs.Contents.{Contents, setup_of}
use Rattle.player.specs.Lines.{Outcome, Adds, LineTold}

-- it makes no call
adds_none : (h : History) (read : Result Call Fault) (o : Outcome) (fault : Fault) → read ≡ Err fault → o ≡ Err fault → Adds h read o h
adds_none h read o fault e told = subst (λ r. Adds h r o h) (sym e) (told, refl)

pub unplayed : {R : Type 0} (answers : R → Findings → Option ℕ) (board : Contents R) (line : List ℕ) (o : Outcome) (fault : Fault) → Lawful (setup_of answers board)
    → command_of line ≡ Err fault → o ≡ Err fault → LineTold answers board board line o
unplayed answers board line o fault lawful e told = record {
  played = λ h s leads k. record {
    same_setup = refl;
    made = h;
    adds = adds_none h (command_of line) o fault e told;
    state_left = s;
    leads = leads;
    holds = k;
    promise = every_history (setup_of answers board) lawful h s leads;
  };
  untouched = λ _ _. refl;
}
