-- Calls that do their step.
use Rattle.std.proofs.Common.{◌≡◌, ℕ, ◌+◌, ◌<◌, ◌≤◌, get_or, Some, None, Ok, Err, Option, sym, refl, ap, ◌∙◌, subst, ⊎_elim, arith}
use Rattle.std.proofs.lemmas.Bool.{cond-true, cond-false, lt-ltb, le-ltb, cases_eq}
use Rattle.calls.specs.declared.call.Class.{Class}
use Rattle.calls.specs.declared.call.Call.{Call}
use Rattle.calls.specs.declared.call.Call.TheVariants.{Admit, Revoke}
use Rattle.calls.specs.declared.reply.Reply.{Reply}
use Rattle.calls.specs.declared.reply.Reply.TheVariants.{Done, Pass}
use Rattle.calls.specs.declared.refusal.Refusal.{Refusal}
use Rattle.calls.specs.declared.refusal.Refusal.TheVariants.{PassesSpent}
use Rattle.rules.specs.declared.findings.Findings.{Findings}
use Rattle.history.specs.State.{State, put, Seat as Place, empty, held}
use Rattle.history.specs.Steps.{Answer, Outcome, accept, refuse, step}
use Rattle.history.proofs.Kept.{put_same, put_other}
use Rattle.board.specs.declared.seat.Held.{Held}
use Rattle.board.specs.Contents.{Contents, setup_of, with_passes}
use Rattle.board.specs.Ends.{SeatPut}
use Rattle.board.specs.Holding.{Seated, Holds, Stepped}
use Rattle.board.specs.Looks.{EmptyAsked, HeldAsked}

module _ {R : Type 0} (answers : R → Findings → Option ℕ) (before : Contents R) where
  -- a step that is known, and a board that is known
  pub steps : (after : Contents R) (call : Call) (answer : Answer) (s : State) (o : Outcome) → setup_of answers after ≡ setup_of answers before
      → step (setup_of answers before) call s ≡ o → answer ≡ o.answer → Holds after o.after
      → Stepped answers before after call answer s
  steps after call answer s o same e a k = record {
    same_setup = same;
    answered = a ∙ sym (ap (λ (o : Outcome). o.answer) e);
    holds = subst (Holds after) (sym (ap (λ (o : Outcome). o.after) e)) k;
  }

  pub refuses : (call : Call) (refusal : Refusal) (s : State) → Holds before s → step (setup_of answers before) call s ≡ refuse refusal s → Stepped answers before before call (Err refusal) s
  refuses call refusal s k e = steps before call (Err refusal) s (refuse refusal s) refl e refl k

  -- a board with one other seat, and perhaps another count of passes
  pub holds_seat : (after : Contents R) (at p q : ℕ) (x : Option Held) (y : Place) (s : State) → Holds before s → p ≡ q → SeatPut (with_passes before p) after at x → Seated before.items x y
      → Holds after (record { clock = s.clock; passes = q; items = s.items; seats = put s.seats at y })
  holds_seat after at p q x y s k same is seated =
      subst (λ (b : Contents R). Holds b (record { clock = s.clock; passes = q; items = s.items; seats = put s.seats at y })) (sym is.only) (record {
        clock = k.clock;
        passes = same;
        stamps = k.stamps;
        seats = λ seat l. ⊎_elim
            (λ e. subst (λ n. Seated before.items (get_or after.seats n None) (put s.seats at y n)) (sym e)
            (subst (λ z. Seated before.items z (put s.seats at y at)) (sym is.here)
            (subst (Seated before.items x) (sym (put_same s.seats at y)) seated)))
            (λ far.
            subst (λ z. Seated before.items z (put s.seats at y seat)) (sym (is.elsewhere seat far))
            (subst (Seated before.items (get_or before.seats seat None)) (sym (put_other s.seats at y seat far)) (k.seats seat l)))
            (cases_eq seat at);
        lists = k.lists;
        few_versions = k.few_versions;
      })

  -- only a seat changes, and perhaps the passes
  pub steps_seat : (after : Contents R) (seat at p q : ℕ) (x : Option Held) (y : Place) (call : Call) (reply answer : Reply) (s : State) → Holds before s → at ≡ seat → p ≡ q
      → Seated before.items x y → SeatPut (with_passes before p) after at x
      → step (setup_of answers before) call s ≡ accept reply (record { clock = s.clock; passes = q; items = s.items; seats = put s.seats seat y }) → answer ≡ reply
      → Stepped answers before after call (Ok answer) s
  steps_seat after seat at p q x y call reply answer s k e same seated is go told =
      let here : SeatPut (with_passes before p) after seat x = subst (λ n. SeatPut (with_passes before p) after n x) e is in
      steps after call (Ok answer) s _ (ap (setup_of answers) here.only) go (ap Ok told) (holds_seat after seat p q x y s k same here seated)

  -- somebody is admitted to an empty seat
  pub admits : (after : Contents R) (seat at : ℕ) (class : Class) (s : State) → Holds before s → EmptyAsked (setup_of answers before) seat s (Ok at) → before.passes < 1000000
      → SeatPut (with_passes before (before.passes + 1)) after at (Some (record { pass = before.passes + 1; class = class; running = None }))
      → Stepped answers before after (Admit seat class) (Ok (Pass (before.passes + 1))) s
  admits after seat at class s k (e, (in_range, (free, _))) few is =
      let more : before.passes + 1 ≡ s.passes + 1 = ap (λ n. n + 1) k.passes in
      steps_seat after seat at (before.passes + 1) (s.passes + 1) (Some (record { pass = before.passes + 1; class = class; running = None })) (held (s.passes + 1) class None) (Admit seat class) (Pass (s.passes + 1)) _ s k e more (more, refl, tt) is
      (cond-true _ _ _ in_range ∙ cond-true _ _ _ free ∙ cond-true _ _ _ (lt-ltb s.passes 1000000 (omega (arith, k.passes, few)))) (ap Pass more)

  pub spends : (seat at : ℕ) (class : Class) (s : State) → Holds before s → EmptyAsked (setup_of answers before) seat s (Ok at) → 1000000 ≤ before.passes
      → Stepped answers before before (Admit seat class) (Err PassesSpent) s
  spends seat at class s k (e, (in_range, (free, _))) many =
      refuses (Admit seat class) PassesSpent s k (cond-true _ _ _ in_range ∙ cond-true _ _ _ free ∙ cond-false _ _ _ (le-ltb s.passes 1000000 (omega (arith, k.passes, many))))

  -- a held seat is emptied
  pub revokes : (after : Contents R) (seat at : ℕ) (s : State) → Holds before s → HeldAsked (setup_of answers before) seat s (Ok at) → SeatPut before after at None
      → Stepped answers before after (Revoke seat) (Ok Done) s
  revokes after seat at s k (e, (in_range, (taken, _))) is =
      steps_seat after seat at before.passes s.passes None empty (Revoke seat) Done Done s k e k.passes tt is (cond-true _ _ _ in_range ∙ cond-true _ _ _ taken) refl
