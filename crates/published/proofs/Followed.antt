-- The board and the machine beside it stay alike over every history.
use Rattle.std.proofs.Common.{◌≡◌, ℕ, ◌≤◌, false, not, List, [], is_ok, Some, None, Option, refl, ap, ◌∙◌, arith}
use Rattle.std.proofs.lemmas.Bool.{le-leb}
use Rattle.calls.specs.declared.call.Mode.{Mode}
use Rattle.calls.specs.declared.call.Mode.TheVariants.{Reader, Update}
use Rattle.calls.specs.declared.call.Call.{Call}
use Rattle.calls.specs.declared.call.Call.TheVariants.{Admit, Revoke, Begin, Read, Write as Writing, Commit, Abandon, Show}
use Rattle.rules.specs.Laws.{FourLaws}
use Rattle.rules.specs.WarpAnswers.{warp_answers}
use Rattle.history.specs.State.{Setup, Version, Transaction, State, new_board}
use Rattle.history.specs.Steps.{step, running_of}
use Rattle.history.specs.Log.{History, Leads, from_new, one_more, Log}
use Rattle.history.specs.Promise.{◌∈◌}
use Rattle.history.proofs.Invariant.{Inv}
use Rattle.history.proofs.Asked.{with_running_cases}
use Rattle.history.proofs.KeptStep.{invariant}
use Rattle.published.specs.Algorithm.{Ver, Tx, Machine, new_machine, passes_over}
use Rattle.published.specs.Beside.{beside, AnswersAlike, SameRunning, as_ver, Follows, BoardFollowsPublished, SparedIsRefused}
use Rattle.published.proofs.Fronts.{reader_passes, update_passes}
use Rattle.published.proofs.Same.{Paired, Same, Step}
use Rattle.published.proofs.Calls.{reach, place_by_natural, at_seat, admit_step, revoke_step, show_step, begin_step, read_here, write_here, abandon_here}
use Rattle.published.proofs.Commits.{commit_here, spared_refused}

module _ {b : Setup} {s : State} {l : Log} {m : Machine} (laws : FourLaws b.rule) (warp : b.rule ≡ warp_answers) (inv : Inv b s l) (both : Same b s m) where
  step_agrees : (call : Call) → Step b m call (step b call s)
  step_agrees (Admit seat class) = admit_step inv both seat class
  step_agrees (Revoke seat) = revoke_step inv both seat
  step_agrees (Begin seat pass mode) = begin_step inv both seat pass mode
  step_agrees (Read seat pass item) = with_running_cases (Step b m (Read seat pass item)) b seat pass s _ (tt, both) (tt, both) (tt, both) (tt, both)
      λ p class x _ _ e. let t = at_seat inv both seat p class x e in read_here inv both seat p class x e t.0 t.1 t.2 pass item
  step_agrees (Writing seat pass item code) = with_running_cases (Step b m (Writing seat pass item code)) b seat pass s _ (tt, both) (tt, both) (tt, both) (tt, both)
      λ p class x _ _ e. let t = at_seat inv both seat p class x e in write_here inv both seat p class x e t.0 t.1 t.2 pass item code
  step_agrees (Commit seat pass) = with_running_cases (Step b m (Commit seat pass)) b seat pass s _ (tt, both) (tt, both) (tt, both) (tt, both)
      λ p class x _ _ e. let t = at_seat inv both seat p class x e in commit_here inv both seat p class x e t.0 t.1 t.2 laws warp pass
  step_agrees (Abandon seat pass) = with_running_cases (Step b m (Abandon seat pass)) b seat pass s _ (tt, both) (tt, both) (tt, both) (tt, both)
      λ p class x _ _ e. let t = at_seat inv both seat p class x e in abandon_here inv both seat p class x e t.0 t.1 t.2 pass
  step_agrees (Show item) = show_step inv both item

  -- a version by the start is visible to either mode
  seen : (mode : Mode) (start i : ℕ) (v : Version) → v ∈ (s.items i).versions → v.natural ≤ start → passes_over mode start (as_ver v) ≡ false
  seen Reader start i v n le = reader_passes start v ∙ ap not (le-leb _ _ (omega (arith, place_by_natural inv both i v n)))
  seen Update start i v n le = update_passes start v (place_by_natural inv both i v n) ∙ ap not (le-leb _ _ le)

  same_running : (o : Option Transaction) (t : Option Tx) (lists : ℕ → List Ver) → Paired b lists o t → SameRunning o t
  same_running None None lists p = tt
  same_running None (Some tx) lists p = p
  same_running (Some x) None lists p = p
  same_running (Some x) (Some tx) lists p = p.same

  follows : Follows s m
  follows = record {
    clock = both.clock;
    stamps = both.stamps;
    transactions = λ k. same_running (running_of (s.seats k)) (m.running k) _ (both.paired k);
    lists = both.lists;
    within = λ k x e i. let r = reach inv both k x e i in (r.0, r.1, seen x.mode x.start i r.0 r.1 r.2);
  }

same_new : (b : Setup) → Same b (new_board b) (new_machine b)
same_new b = record { clock = refl; stamps = λ _. refl; lists = λ _. ([], refl); paired = λ _. tt }

pub stays_same : (b : Setup) → FourLaws b.rule → b.rule ≡ warp_answers → {h : History} {s : State} → Leads b h s → AnswersAlike b h × Same b s (beside b h)
stays_same b laws warp from_new = (tt, same_new b)
stays_same b laws warp (one_more call before) =
    let r = stays_same b laws warp before in
    let st = step_agrees laws warp (invariant b laws before) r.1 call in
    ((r.0, st.0), st.1)

pub board_follows : BoardFollowsPublished
board_follows b lawful warp h s leads =
    let r = stays_same b lawful.lawful_rule warp leads in
    (r.0, follows lawful.lawful_rule warp (invariant b lawful.lawful_rule leads) r.1)

pub spared_is_refused : SparedIsRefused
spared_is_refused b lawful warp h s leads seat pass tx has spared =
    let laws = lawful.lawful_rule in
    let inv = invariant b laws leads in
    let both = (stays_same b laws warp leads).1 in
    with_running_cases (λ o. is_ok o.answer ≡ false) b seat pass s _ refl refl refl refl λ p class x _ _ e.
    let t = at_seat inv both seat p class x e in
    let same : t.0 ≡ tx = cc (t.1, has) in
    spared_refused inv both seat p class x e t.0 t.1 t.2 warp (ap (λ (u : Tx). u.spared) same ∙ spared)
