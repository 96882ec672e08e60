-- The invariant is kept where a transaction is granted, given what is shown of its reads and of the lists.
use Rattle.std.proofs.Common.{◌≡◌, ℕ, ◌+◌, ◌<◌, ◌≤◌, ◌⊎◌, ◌∷◌, Some, None, Option, sym, refl, ◌∙◌, subst, ⊎_elim, arith}
use mathlib.Core.List.Memᴰ
use Rattle.std.proofs.lemmas.Bool.{cases_eq}
use Rattle.calls.specs.declared.call.Class.{Class}
use Rattle.history.specs.State.{Setup, Version, Item, Transaction, Seat, empty, held, State, put}
use Rattle.history.specs.Log.{Trace, Grant, Log, count_call, grant_it}
use Rattle.history.specs.Order.{put_in, arranged}
use Rattle.history.specs.Run.{EachAnswered, all_rest}
use Rattle.history.specs.Promise.{◌∈◌}
use Rattle.history.proofs.Arranged.{Ahead, in_order_put_in, in_arranged}
use Rattle.history.proofs.Versions.{Keeps}
use Rattle.history.proofs.Invariant.{Sound, Consistent, Matched, Inv, AtSeat, log_has}
use Rattle.history.proofs.Kept.{Changed, changed_put, sound_later}

module _ {b : Setup} {s : State} {l : Log} (inv : Inv b s l) (k : ℕ) (x : Transaction) (t : Trace) (at : AtSeat b s l k x t)
    (clock passes : ℕ) (items : ℕ → Item) (natural place : ℕ) where
  abbrev granted_now : Grant
  granted_now = record { trace = t; natural = natural; place = place; ended = l.calls }

  pub record Granting : Type 0 where
    pub onward : s.clock ≤ clock
    pub stamps : (i : ℕ) → (s.items i).stamp ≤ (items i).stamp
    pub by_clock : (i : ℕ) → (items i).stamp ≤ clock
    pub lists : (i : ℕ) → Keeps b (granted_now ∷ l.granted) i (items i).versions
    pub itself : Sound clock (l.calls + 1) items granted_now
    pub decided : (f : Grant) → f ∈ l.granted → Ahead granted_now f ⊎ Ahead f granted_now
    pub each : EachAnswered (put_in granted_now (arranged l.granted)) (all_rest b)
    pub others : (u : Trace) → Consistent b s.clock s.items l.granted u → Consistent b clock items (granted_now ∷ l.granted) u
    pub reach : (j : ℕ) (y : Transaction) (u : Trace) → AtSeat b s l j y u → (i : ℕ) → (v : Version) × (v ∈ (items i).versions) × (v.natural ≤ u.start)

  module _ (g : Granting) (seats : ℕ → Seat) (pass : ℕ) (class : Class) (on_board : Changed s.seats seats k (held pass class None)) where
    gone : Changed l.running (put l.running k None) k None
    gone = changed_put l.running k None

    member : (P : Grant → Type 0) → P granted_now → ((f : Grant) → f ∈ l.granted → P f) → (f : Grant) → f ∈ granted_now ∷ l.granted → P f
    member P own old f m = ⊎_elim (λ e. subst P (sym e) own) (old f) (Memᴰ.cases_cons m)

    other_seat : (j : ℕ) → (j ≡ k → ⊥) → (y : Seat) (o : Option Trace) → s.seats j ≡ y → l.running j ≡ o → Matched b s.clock l.calls s.items l.granted y o → Matched b clock (l.calls + 1) items (granted_now ∷ l.granted) y o
    other_seat j far empty None e d m = tt
    other_seat j far empty (Some u) e d m = m
    other_seat j far (held p c None) None e d m = tt
    other_seat j far (held p c None) (Some u) e d m = m
    other_seat j far (held p c (Some y)) None e d m = m
    other_seat j far (held p c (Some y)) (Some u) e d m =
        let here = log_has inv j u d in
        record {
          same_mode = m.same_mode;
          same_start = m.same_start;
          same_writes = m.same_writes;
          marks = m.marks;
          began_by = omega (arith, m.began_by);
          consistent = g.others u m.consistent;
          reaches = g.reach j here.0 u here.1;
          since = member (λ f. f.ended < u.began → f.place ≤ u.start) (λ lt. absurd (omega (arith, m.began_by))) m.since;
          new_trace = member (λ f. f.trace.began ≡ u.began → ⊥) (λ same. far (inv.apart j k u t d at.in_log (sym same))) m.new_trace;
        }

    pub kept_grant : Inv b (record { clock = clock; passes = passes; items = items; seats = seats }) (count_call (grant_it l k (natural, place) (Some t)))
    kept_grant = record {
      sound = member (Sound clock (l.calls + 1) items) g.itself (λ f m. sound_later g.onward g.stamps f (omega arith) (inv.sound f m));
      arrayed = in_order_put_in granted_now (arranged l.granted) (λ f m. g.decided f (in_arranged f l.granted m)) inv.arrayed;
      answered = g.each;
      keeps = g.lists;
      stamps_by = g.by_clock;
      real_time = λ e f m n. member (λ e. e.ended < f.trace.began → e.place ≤ f.trace.start)
          (λ lt. absurd (member (λ f. l.calls < f.trace.began → ⊥) (λ d. omega (arith, at.both.began_by)) (λ f j d. omega (arith, (inv.sound f j).began_by, (inv.sound f j).ended_by)) f n lt))
          (λ e i. member (λ f. e.ended < f.trace.began → e.place ≤ f.trace.start) (at.both.since e i) (λ f j. inv.real_time e f i j) f n)
          e m;
      dropped = λ u m. g.others u (inv.dropped u m);
      seats = λ j. ⊎_elim
          (λ e. subst (λ n. Matched b clock (l.calls + 1) items (granted_now ∷ l.granted) (seats n) (put l.running k None n)) (sym e)
          (subst (λ y. Matched b clock (l.calls + 1) items (granted_now ∷ l.granted) y (put l.running k None k)) (sym on_board.here)
          (subst (Matched b clock (l.calls + 1) items (granted_now ∷ l.granted) (held pass class None)) (sym gone.here) tt)))
          (λ far.
          subst (λ y. Matched b clock (l.calls + 1) items (granted_now ∷ l.granted) y (put l.running k None j)) (sym (on_board.elsewhere j far))
          (subst (Matched b clock (l.calls + 1) items (granted_now ∷ l.granted) (s.seats j)) (sym (gone.elsewhere j far)) (other_seat j far (s.seats j) (l.running j) refl refl (inv.seats j))))
          (cases_eq j k);
      apart = λ i j u v p q same. inv.apart i j u v (still i u p) (still j v q) same;
      seated = λ j u e. inv.seated j u (still j u e);
    }
      where
        still : (j : ℕ) (u : Trace) → put l.running k None j ≡ Some u → l.running j ≡ Some u
        still j u e = ⊎_elim
            (λ d. let h = gone.here in let w : put l.running k None k ≡ Some u = subst (λ n. put l.running k None n ≡ Some u) d e in let z : ◌≡◌ {A = ℕ} 0 1 = cc in absurd (omega arith))
            (λ far. sym (gone.elsewhere j far) ∙ e)
            (cases_eq j k)
