-- Lines that are played on a new board.
use Rattle.std.proofs.Common.{◌≡◌, ℕ, Bool, true, List, MatchBool, Option, sym, ap, ◌∙◌, subst}
use Rattle.rules.specs.declared.findings.Findings.{Findings}
use Rattle.history.specs.State.{Setup, new_board}
use Rattle.history.specs.Log.{nothing, Leads}
use Rattle.history.specs.Promise.{Promise}
use Rattle.board.specs.Sizes.{fits}
use Rattle.board.specs.Contents.{Contents, setup_of}
use Rattle.board.specs.Holding.{Opened}
use Rattle.player.specs.Lines.{LinesAnswered}
use Rattle.player.specs.Scripts.{BoardAnswered, slots_lent}

when_true : (t : Bool) (P Q : Type 0) → t ≡ true → P → MatchBool t P Q
when_true t P Q e p = subst (λ b. MatchBool b P Q) (sym e) p

pub answered_from_new : {R : Type 0} (answers : R → Findings → Option ℕ) (b : Setup) (slots : ℕ) (board after : Contents R) (lines : List (List ℕ)) (text : List ℕ)
    → slots ≡ slots_lent → fits b.items b.seats slots ≡ true → Opened answers b board → LinesAnswered answers board after lines text → BoardAnswered b lines text
answered_from_new answers b slots board after lines text lent fit new played =
    let p = played nothing (new_board (setup_of answers board)) new.leads new.holds in
    when_true (fits b.items b.seats slots_lent) _ _ (ap (fits b.items b.seats) (sym lent) ∙ fit) (record {
      outcomes = p.outcomes;
      answered = p.answered;
      made = p.made;
      goes = p.goes;
      state_left = p.state_left;
      leads = subst (λ b. Leads b p.made p.state_left) new.made_for p.leads;
      promise = subst (λ b. Promise b p.made) new.made_for p.promise;
    })
