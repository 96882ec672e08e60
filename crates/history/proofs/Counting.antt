-- Natural numbers count the granted updates.
use Rattle.std.proofs.Common.{◌≡◌, ℕ, ◌+◌, cond, ltb, List, ◌∷◌, map, length, Some, None, filter, Option, sym, refl, ap, ◌∙◌, subst, arith}
use Rattle.std.proofs.lemmas.Bool.{cond_both}
use Rattle.calls.specs.declared.call.Class.{Class}
use Rattle.calls.specs.declared.call.Mode.{Mode}
use Rattle.calls.specs.declared.call.Mode.TheVariants.{Reader, Update}
use Rattle.calls.specs.declared.call.Call.{Call}
use Rattle.calls.specs.declared.call.Call.TheVariants.{Admit, Revoke, Begin, Read, Write as Writing, Commit, Abandon, Show}
use Rattle.rules.specs.Laws.{FourLaws}
use Rattle.history.specs.State.{Setup, Transaction, State}
use Rattle.history.specs.Steps.{Outcome, step, limit, is_update, listed, findings, read_in, read_by_natural, settle, commit_in, lowest, is_full, running_of, admit_questions, revoke_questions, pass_questions, begin_questions, item_questions, write_questions}
use Rattle.history.specs.Log.{History, Leads, from_new, one_more, Trace, Grant, Log, log, note, drop_it, grant_it}
use Rattle.history.specs.Progress.{down_to_two, NaturalsCountGrants}
use Rattle.history.proofs.Invariant.{Inv, board_has}
use Rattle.history.proofs.Asked.{asked_cases, with_running_cases}
use Rattle.history.proofs.KeptStep.{invariant}

abbrev numbers : List Grant → List ℕ
numbers gs = map (λ (g : Grant). g.natural) (filter (λ (g : Grant). is_update g.trace.mode) gs)

-- so many updates are granted, and the clock is one further
record Counted (clock : ℕ) (gs : List Grant) : Type 0 where
  clock_is : clock ≡ length (numbers gs) + 1
  counts : numbers gs ≡ down_to_two (length (numbers gs))

-- nothing is granted
record Quiet (s : State) (l : Log) (call : Call) (o : Outcome) : Type 0 where
  clock : o.after.clock ≡ s.clock
  granted : (note l call o.answer).granted ≡ l.granted

drop_granted : (l : Log) (seat : ℕ) (o : Option Trace) → (drop_it l seat o).granted ≡ l.granted
drop_granted l seat None = refl
drop_granted l seat (Some t) = refl

module _ (b : Setup) (s : State) (l : Log) where
  read_quiet : (seat pass item : ℕ) (x : Transaction) (m : Mode) → Quiet s l (Read seat pass item) (read_in b seat item x s m)
  read_quiet seat pass item x Reader = record { clock = refl; granted = refl }
  read_quiet seat pass item x Update = go (listed item x.writes)
    where
      go : (o : Option ℕ) → Quiet s l (Read seat pass item) (read_by_natural b seat item x s o)
      go None = record { clock = refl; granted = refl }
      go (Some c) = record { clock = refl; granted = refl }

-- a call that grants nothing
counted_quiet : {s : State} {l : Log} {call : Call} {o : Outcome} → Counted s.clock l.granted → Quiet s l call o → Counted o.after.clock (note l call o.answer).granted
counted_quiet {s} {l} {call} {o} c q = subst (λ n. Counted n (note l call o.answer).granted) (sym q.clock) (subst (Counted s.clock) (sym q.granted) c)

-- one that grants a reader, or an update
counted_reader : (clock : ℕ) (g : Grant) (gs : List Grant) → g.trace.mode ≡ Reader → Counted clock gs → Counted clock (g ∷ gs)
counted_reader clock g gs e c =
    let same : numbers (g ∷ gs) ≡ numbers gs = ap (λ m. map (λ (f : Grant). f.natural) (cond (is_update m) (g ∷ filter (λ (f : Grant). is_update f.trace.mode) gs) (filter (λ (f : Grant). is_update f.trace.mode) gs))) e in
    record { clock_is = c.clock_is ∙ ap (λ ns. length ns + 1) (sym same); counts = same ∙ c.counts ∙ ap (λ ns. down_to_two (length ns)) (sym same) }

counted_update : (clock : ℕ) (g : Grant) (gs : List Grant) → g.trace.mode ≡ Update → g.natural ≡ clock + 1 → Counted clock gs → Counted (clock + 1) (g ∷ gs)
counted_update clock g gs e is c =
    let more : numbers (g ∷ gs) ≡ g.natural ∷ numbers gs = ap (λ m. map (λ (f : Grant). f.natural) (cond (is_update m) (g ∷ filter (λ (f : Grant). is_update f.trace.mode) gs) (filter (λ (f : Grant). is_update f.trace.mode) gs))) e in
    let head : g.natural ≡ length (numbers gs) + 2 = omega (arith, c.clock_is) in
    record {
      clock_is = omega (arith, c.clock_is, ap length more);
      counts = more ∙ ap (λ n. n ∷ numbers gs) head ∙ ap (λ ns. (length (numbers gs) + 2) ∷ ns) c.counts ∙ ap (λ ns. down_to_two (length ns)) (sym more);
    }

module _ {b : Setup} {s : State} {l : Log} (inv : Inv b s l) (c : Counted s.clock l.granted) where
  abbrev Counts : Call → Outcome → Type 0
  Counts call o = Counted o.after.clock (note l call o.answer).granted

  -- a transaction that is dropped
  drops : (clock seat : ℕ) → clock ≡ s.clock → Counted clock (drop_it l seat (l.running seat)).granted
  drops clock seat e = subst (λ n. Counted n (drop_it l seat (l.running seat)).granted) (sym e) (subst (Counted s.clock) (sym (drop_granted l seat (l.running seat))) c)

  grants : (clock seat : ℕ) (pair : ℕ × ℕ) (x : Transaction) → running_of (s.seats seat) ≡ Some x
      → ((t : Trace) → x.mode ≡ t.mode → Counted clock (record { trace = t; natural = pair.0; place = pair.1; ended = l.calls } ∷ l.granted)) → Counted clock (grant_it l seat pair (l.running seat)).granted
  grants clock seat pair x e then =
      let t = board_has inv seat x e in
      subst (λ o. Counted clock (grant_it l seat pair o).granted) (sym t.1.in_log) (then t.0 t.1.both.same_mode)

  counted_commit : (seat pass : ℕ) (class : Class) (x : Transaction) → running_of (s.seats seat) ≡ Some x → (m : Mode) → x.mode ≡ m → Counts (Commit seat pass) (commit_in b seat class x s m)
  counted_commit seat pass class x e Reader em = grants s.clock seat (0, x.start) x e (λ t d. counted_reader s.clock _ l.granted (sym d ∙ em) c)
  counted_commit seat pass class x e Update em = cond_both (ltb s.clock limit) _ _ (Counts (Commit seat pass)) (λ _. settled (b.rule (findings b s class x))) (λ _. drops s.clock seat refl)
    where
      settled : (o : Option ℕ) → Counts (Commit seat pass) (settle b seat x s o)
      settled None = drops s.clock seat refl
      settled (Some place) = cond_both (ltb (lowest b.items (is_full b s x place)) b.items) _ _ (Counts (Commit seat pass))
          (λ _. drops s.clock seat refl)
          (λ _. grants (s.clock + 1) seat (s.clock + 1, place) x e (λ t d. counted_update s.clock _ l.granted (sym d ∙ em) refl c))

  counted_step : (call : Call) → Counts call (step b call s)
  counted_step (Admit seat class) = asked_cases (Counts (Admit seat class)) (admit_questions b seat s) s _ (c, (c, (c, tt))) λ _. c
  counted_step (Revoke seat) = asked_cases (Counts (Revoke seat)) (revoke_questions b seat s) s _ (c, (c, tt)) λ _. drops s.clock seat refl
  counted_step (Begin seat pass mode) = asked_cases (Counts (Begin seat pass mode)) (pass_questions b seat pass s) s _ (c, (c, (c, tt))) λ _.
      asked_cases (Counts (Begin seat pass mode)) (begin_questions seat s) s _ (c, tt) λ _. c
  counted_step (Read seat pass item) = with_running_cases (Counts (Read seat pass item)) b seat pass s _ c c c c λ _ _ x _ _ _.
      asked_cases (Counts (Read seat pass item)) (item_questions b item) s _ (c, tt) λ _. counted_quiet c (read_quiet b s l seat pass item x x.mode)
  counted_step (Writing seat pass item code) = with_running_cases (Counts (Writing seat pass item code)) b seat pass s _ c c c c λ _ _ x _ _ _.
      asked_cases (Counts (Writing seat pass item code)) (write_questions b item code x) s _ (c, (c, (c, (c, tt)))) λ _. c
  counted_step (Commit seat pass) = with_running_cases (Counts (Commit seat pass)) b seat pass s _ c c c c λ _ class x _ _ e. counted_commit seat pass class x (ap running_of e) x.mode refl
  counted_step (Abandon seat pass) = with_running_cases (Counts (Abandon seat pass)) b seat pass s _ c c c c λ _ _ x _ _ _. drops s.clock seat refl
  counted_step (Show item) = asked_cases (Counts (Show item)) (item_questions b item) s _ (c, tt) λ _. c

counted : (b : Setup) → FourLaws b.rule → {h : History} {s : State} → Leads b h s → Counted s.clock (log h).granted
counted b laws from_new = record { clock_is = refl; counts = refl }
counted b laws (one_more call before) = counted_step (invariant b laws before) (counted b laws before) call

pub naturals_count_grants : NaturalsCountGrants
naturals_count_grants b lawful h s leads = (counted b lawful.lawful_rule leads).counts
