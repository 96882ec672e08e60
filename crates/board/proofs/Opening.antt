-- Transactions that open and close, and what a seat has open.
use Rattle.std.proofs.Common.{◌≡◌, ℕ, ◌<◌, true, false, not, List, [], ◌∷◌, get_or, take, replicate, is_some, Some, None, Ok, Option, sym, refl, ap, ◌∙◌, subst}
use Rattle.std.proofs.lemmas.Bool.{cond-true, ltb-true, both_ways}
use Rattle.calls.specs.declared.call.Mode.{Mode}
use Rattle.calls.specs.declared.call.Call.{Call}
use Rattle.calls.specs.declared.call.Call.TheVariants.{Begin, Abandon}
use Rattle.calls.specs.declared.reply.Reply.{Reply}
use Rattle.calls.specs.declared.reply.Reply.TheVariants.{Start, Done}
use Rattle.rules.specs.declared.findings.Findings.{Findings}
use Rattle.history.specs.State.{State, Transaction as Running, Seat as Place, empty, held}
use Rattle.history.specs.Steps.{Outcome, Question, asked, accept, step, pass_questions, begin_questions, running_of, runs, set_running, in_running}
use Rattle.board.specs.declared.transaction.Transaction.{Transaction}
use Rattle.board.specs.declared.seat.Held.{Held}
use Rattle.board.specs.declared.seat.HeldSeat.{HeldSeat}
use Rattle.board.specs.Contents.{Contents, setup_of}
use Rattle.board.specs.Ends.{NowRuns, replaced}
use Rattle.board.specs.Holding.{Runs, Opens, Seated, Holds, Stepped}
use Rattle.board.specs.Looks.{AllYes, PassAsked}
use Rattle.board.proofs.Making.{get_d_replicate}
use Rattle.board.proofs.Doing.{steps_seat}

pub asked_yes : (qs : List Question) (s : State) (go : Outcome) → AllYes qs → asked qs s go ≡ go
asked_yes [] s go y = refl
asked_yes (q ∷ qs) s go y = cond-true q.yes _ _ y.0 ∙ asked_yes qs s go y.1

pub seated_set : (items : ℕ) (o : Option Transaction) (r : Option Running) (x : Option Held) (y : Place) → Opens items o r → Seated items x y → Seated items (replaced o x) (runs r y)
seated_set items o r None empty k seated = seated
seated_set items o r None (held p c r') k seated = absurd seated
seated_set items o r (Some h) empty k seated = absurd seated
seated_set items o r (Some h) (held p c r') k seated = (seated.0, seated.1, k)

both_some : (items : ℕ) (o : Option Transaction) (r : Option Running) → Opens items o r → is_some r ≡ is_some o
both_some items None None k = refl
both_some items None (Some x) k = absurd k
both_some items (Some t) None k = absurd k
both_some items (Some t) (Some x) k = refl

seated_some : (items : ℕ) (h : Held) (y : Place) → Seated items (Some h) y → is_some (running_of y) ≡ is_some h.running
seated_some items h empty seated = absurd seated
seated_some items h (held p c r) seated = both_some items h.running r seated.2

in_open : (s : State) (y : Place) (o : Outcome) → is_some (running_of y) ≡ true → in_running s y (λ _ _. o) ≡ o
in_open s empty o e = absurd (both_ways false refl e)
in_open s (held p c None) o e = absurd (both_ways false refl e)
in_open s (held p c (Some x)) o e = refl

-- a new transaction has read nothing and listed nothing
new_runs : (items : ℕ) (t : Transaction) (mode : Mode) (start : ℕ) (r : Running) → t.mode ≡ mode → t.start ≡ start → t.marks ≡ replicate 256 false → t.count ≡ 0
    → r ≡ record { mode = mode; start = start; marked = λ _. false; writes = [] } → Runs items t r
new_runs items t mode start r m s marks count is = subst (Runs items t) (sym is) (record {
  mode = m;
  start = s;
  marks = λ item _. ap (λ l. get_or l item false) marks ∙ get_d_replicate 256 item false;
  writes = ap (λ n. take n t.writes) count;
  once = tt;
})

module _ {R : Type 0} (answers : R → Findings → Option ℕ) (before : Contents R) where
  -- only what a seat has open changes
  pub steps_running : (after : Contents R) (seat at : ℕ) (o : Option Transaction) (r : Option Running) (call : Call) (reply answer : Reply) (s : State) → Holds before s → at ≡ seat → seat < before.seat_count
      → Opens before.items o r → NowRuns before after at o
      → step (setup_of answers before) call s ≡ accept reply (set_running s seat r) → answer ≡ reply
      → Stepped answers before after call (Ok answer) s
  steps_running after seat at o r call reply answer s k e lt both is go told =
      steps_seat answers before after seat seat before.passes s.passes (replaced o (get_or before.seats seat None)) (runs r (s.seats seat)) call reply answer s k refl k.passes
      (seated_set before.items o r (get_or before.seats seat None) (s.seats seat) both (k.seats seat lt))
      (subst (λ n. NowRuns before after n o) e is) go told

  pub begins : (after : Contents R) (seat pass start : ℕ) (mode : Mode) (h : HeldSeat) (t : Transaction) (s : State) → start ≡ before.clock → Holds before s → PassAsked (setup_of answers before) seat pass s (Ok h)
      → is_some h.held.running ≡ false → t.mode ≡ mode → t.start ≡ start → t.marks ≡ replicate 256 false → t.count ≡ 0
      → NowRuns before after h.at (Some t)
      → Stepped answers before after (Begin seat pass mode) (Ok (Start start)) s
  begins after seat pass start mode h t s at_clock k (e, ok, seated) shut m starts marks none is =
      steps_running after seat h.at (Some t) (Some (record { mode = mode; start = s.clock; marked = λ _. false; writes = [] })) (Begin seat pass mode) (Start s.clock) (Start start) s k e (ltb-true seat before.seat_count ok.0)
      (new_runs before.items t mode s.clock _ m (starts ∙ at_clock ∙ k.clock) marks none refl) is
      (asked_yes (pass_questions (setup_of answers before) seat pass s) s _ ok ∙ asked_yes (begin_questions seat s) s _ (ap not (seated_some before.items h.held (s.seats seat) seated ∙ shut), tt)) (ap Start (at_clock ∙ k.clock))

  pub abandons : (after : Contents R) (seat pass : ℕ) (h : HeldSeat) (s : State) → Holds before s → PassAsked (setup_of answers before) seat pass s (Ok h)
      → is_some h.held.running ≡ true → NowRuns before after h.at None
      → Stepped answers before after (Abandon seat pass) (Ok Done) s
  abandons after seat pass h s k (e, ok, seated) begun is =
      steps_running after seat h.at None None (Abandon seat pass) Done Done s k e (ltb-true seat before.seat_count ok.0) tt is
      (asked_yes (pass_questions (setup_of answers before) seat pass s) s _ ok ∙ in_open s (s.seats seat) _ (seated_some before.items h.held (s.seats seat) seated ∙ begun)) refl
