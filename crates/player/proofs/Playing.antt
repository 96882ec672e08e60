-- Lines that are played one after the other.
use Rattle.std.proofs.Common.{◌≡◌, ℕ, ◌+◌, min, List, [], ◌∷◌, ◌++◌, Option, sym, refl, ap, ◌∙◌, subst, append-nil}
use Rattle.std.proofs.lemmas.List.{append_assoc}
use Rattle.rules.specs.declared.findings.Findings.{Findings}
use Rattle.history.specs.State.{State}
use Rattle.history.specs.Log.{History, Leads}
use Rattle.history.specs.Promise.{Lawful}
use Rattle.history.proofs.PromiseKept.{every_history}
use Rattle.script.specs.Answers.{answer}
use Rattle.board.specs.Contents.{Contents, setup_of}
use Rattle.board.specs.Holding.{Holds}
use Rattle.player.specs.Lines.{Outcome, Goes, text_of, LineTold, LinesAnswered}

module _ {R : Type 0} (answers : R → Findings → Option ℕ) where
  -- some lines have been played, and others, from line n on, are to come: whatever these are told, it completes what the first were told
  pub record Underway (before now : Contents R) (h : History) (lines to_come : List (List ℕ)) (n : ℕ) (text : List ℕ) : Type 0 where
    pub same_setup : setup_of answers now ≡ setup_of answers before
    pub made : History
    pub state_left : State
    pub leads : Leads (setup_of answers before) made state_left
    pub holds : Holds now state_left
    pub completes : (os : List Outcome) (after : History) → Goes made to_come os after → (all : List Outcome) × Goes h lines all after × (text ++ text_of n os ≡ text_of 2 all)

  abbrev pub Reached : Contents R → Contents R → List (List ℕ) → List (List ℕ) → ℕ → List ℕ → Type 0
  Reached before now lines to_come n text = (h : History) (s : State) → Leads (setup_of answers before) h s → Holds before s → Underway before now h lines to_come n text

  -- no line has been played
  pub at_start : (board : Contents R) (lines to_come : List (List ℕ)) (text : List ℕ) → to_come ≡ lines → text ≡ [] → Reached board board lines to_come 2 text
  at_start board lines to_come text all none h s leads k = record {
    same_setup = refl;
    made = h;
    state_left = s;
    leads = leads;
    holds = k;
    completes = λ os after goes. (os, subst (λ ls. Goes h ls os after) all goes, ap (λ t. t ++ text_of 2 os) none);
  }

  -- one line more is played
  pub one_line_more : (before now after : Contents R) (lines to_come left : List (List ℕ)) (n m : ℕ) (line text more : List ℕ) (o : Outcome)
      → to_come ≡ line ∷ left → m ≡ min (n + 1) 9999999 → more ≡ text ++ answer n o → LineTold answers now after line o
      → Reached before now lines to_come n text → Reached before after lines left m more
  one_line_more before now after lines to_come left n m line text more o is next added told reached h s leads k =
      let u = reached h s leads k in
      let same = u.same_setup in
      let p = told.played u.made u.state_left (subst (λ b. Leads b u.made u.state_left) (sym same) u.leads) u.holds in
      record {
        same_setup = p.same_setup ∙ same;
        made = p.made;
        state_left = p.state_left;
        leads = subst (λ b. Leads b p.made p.state_left) same p.leads;
        holds = p.holds;
        completes = λ os end goes.
            let whole = u.completes (o ∷ os) end (subst (λ ls. Goes u.made ls (o ∷ os) end) (sym is) (p.made, p.adds, goes)) in
            (whole.0, whole.1, ap (λ t. t ++ text_of m os) added ∙ append_assoc text (answer n o) (text_of m os) ∙ ap (λ k. text ++ (answer n o ++ text_of k os)) next ∙ whole.2);
      }

  -- no line is to come
  pub at_end : (before now : Contents R) (lines to_come : List (List ℕ)) (n : ℕ) (text : List ℕ) → Lawful (setup_of answers before)
      → to_come ≡ [] → Reached before now lines to_come n text → LinesAnswered answers before now lines text
  at_end before now lines to_come n text lawful none reached h s leads k =
      let u = reached h s leads k in
      let whole = u.completes [] u.made (subst (λ ls. Goes u.made ls [] u.made) (sym none) refl) in
      record {
        same_setup = u.same_setup;
        outcomes = whole.0;
        answered = sym (append-nil text) ∙ whole.2;
        made = u.made;
        goes = whole.1;
        state_left = u.state_left;
        leads = u.leads;
        holds = u.holds;
        promise = every_history (setup_of answers before) lawful u.made u.state_left u.leads;
      }
