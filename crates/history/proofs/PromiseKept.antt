-- Every history keeps the promise.
use Rattle.std.proofs.Common.{◌≡◌, ℕ, ◌<◌, ◌≤◌, true, ltb, List, [], ◌∷◌, Ok, filter, sym, refl, ap, ◌∙◌, subst, inl, inr, ⊎_elim, arith}
use Rattle.std.proofs.lemmas.Bool.{cases_lt, lt-ltb, cond-true}
use Rattle.calls.specs.declared.call.Mode.{Mode}
use Rattle.calls.specs.declared.call.Mode.TheVariants.{Reader, Update}
use Rattle.calls.specs.declared.call.Call.{Call}
use Rattle.calls.specs.declared.call.Call.TheVariants.{Show}
use Rattle.calls.specs.declared.reply.Reply.TheVariants.{Code}
use Rattle.history.specs.State.{Setup, State}
use Rattle.history.specs.Steps.{Answer, Outcome, step, newest, accept}
use Rattle.history.specs.Log.{History, ◌▷◌, Leads, from_new, one_more, Grant, log}
use Rattle.history.specs.Order.{order}
use Rattle.history.specs.Run.{run, all_rest}
use Rattle.history.specs.Promise.{◌∈◌, EveryHistoryKeepsThePromise}
use Rattle.history.proofs.Arranged.{Ahead, First, stands_ahead, arranged_has, shuffled_arranged}
use Rattle.history.proofs.Versions.{run_leaves}
use Rattle.history.proofs.Invariant.{Sound, Inv, log_has}
use Rattle.history.proofs.Picks.{update_or_reader, all_picked}
use Rattle.history.proofs.KeptStep.{invariant}
use Rattle.history.proofs.Passes.{passes_kept}

-- the last call of a history is the board's step
pub last_step : (b : Setup) (h : History) (call : Call) (a : Answer) {k : History} {s : State} → Leads b k s → k ≡ h ▷ (call, a) → (before : State) × Leads b h before × (a ≡ (step b call before).answer) × (s ≡ (step b call before).after)
last_step b h call a from_new e = let z : ◌≡◌ {A = ℕ} 0 1 = cc in absurd (omega arith)
last_step b h call a (one_more {h = g} {s = before} made leads) e =
    let same : g ≡ h = cc in
    let pair : ◌≡◌ {A = Call × Answer} (made, (step b made before).answer) (call, a) = cc in
    let is : made ≡ call = ap (λ p. p.0) pair in
    (before, subst (λ k. Leads b k before) same leads, sym (ap (λ p. p.1) pair) ∙ ap (λ c. (step b c before).answer) is, ap (λ c. (step b c before).after) is)

kept_all : (gs : List Grant) → filter (λ _. true) gs ≡ gs
kept_all [] = refl
kept_all (g ∷ gs) = ap (λ l. g ∷ l) (kept_all gs)

module _ {b : Setup} {s : State} (h : History) (inv : Inv b s (log h)) where
  -- what was granted before another began is ahead of it
  ahead_in_time : (f g : Grant) → f ∈ (log h).granted → g ∈ (log h).granted → f.ended < g.trace.began → Ahead f g
  ahead_in_time f g mf mg lt = ⊎_elim
      (λ e. inl (omega (arith, place, (known.as_update e).above_start)))
      (λ e. ⊎_elim (λ l. inl l) (λ le. inr (omega (arith, place, known.reader_place e), subst (λ m. First f.trace.mode m f g) (sym e) (first f.trace.mode))) (cases_lt f.place g.place))
      (update_or_reader g.trace.mode)
    where
      known : Sound s.clock (log h).calls s.items g
      known = inv.sound g mg

      place : f.place ≤ g.trace.start
      place = inv.real_time f g mf mg lt

      first : (m : Mode) → First m Reader f g
      first Update = tt
      first Reader = omega (arith, (inv.sound f mf).began_by)

  shows : (item : ℕ) → item < b.items → (step b (Show item) s).answer ≡ Ok (Code (run (order h) (all_rest b) item))
  shows item lt =
      ap (λ (o : Outcome). o.answer) (cond-true (ltb item b.items) (accept (Code (newest b (λ _. true) (s.items item).versions).code) s) _ (lt-ltb _ _ lt))
      ∙ ap (λ c. Ok (Code c)) (sym (run_leaves b (log h).granted item (λ _. true) _ inv.arrayed (all_picked inv.sound b item (s.items item).versions (inv.keeps item))) ∙ ap (λ gs. run gs (all_rest b) item) (kept_all (order h)))

pub every_history : EveryHistoryKeepsThePromise
every_history b lawful h s leads =
    let inv = invariant b lawful.lawful_rule leads in
    record {
      once = shuffled_arranged (log h).granted;
      arrayed = inv.arrayed;
      real_time = λ f g mf mg lt. stands_ahead f g (order h) inv.arrayed (arranged_has f (log h).granted mf) (arranged_has g (log h).granted mg) (ahead_in_time h inv f g mf mg lt);
      granted_answered = inv.answered;
      shown = λ item a after lt more.
          let last = last_step b h (Show item) a more refl in
          last.2 ∙ shows h (invariant b lawful.lawful_rule last.1) item lt;
      dropped_answered = λ t m. (inv.dropped t m).answered;
      running_answered = λ seat t e. (log_has inv seat t e).1.both.consistent.answered;
      locked_out = (passes_kept b leads).locked;
    }
