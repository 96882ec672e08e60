-- A granted update: its own reads stand at its place, nobody's earlier reads fall, and the lists stay good.
use Rattle.std.proofs.Common.{◌≡◌, ℕ, ◌+◌, ◌<◌, ◌≤◌, Bool, true, false, cond, not, ◌&&◌, leb, List, [], ◌∷◌, Some, None, filter, Option, sym, refl, ap, ◌∙◌, subst, inl, inr, ⊎_elim, arith}
use mathlib.Core.List.Memᴰ
use mathlib.Core.List.{Memᴰ}
use Rattle.std.proofs.lemmas.Bool.{leb-true, lt-leb, le-leb, both_ways, and_from, and_parts, and_right, not-true, not-false, cases_lt, eqb-true}
use Rattle.calls.specs.declared.call.Class.{Class}
use Rattle.calls.specs.declared.call.Mode.TheVariants.{Update}
use Rattle.rules.specs.Laws.{BoardGives, FourLaws}
use Rattle.history.specs.State.{Setup, Version, Transaction, State}
use Rattle.history.specs.Steps.{newest, natural_by, newer, listed, missed_of, missed, is_warped, findings, is_update, running_of, start_of, starts, least_start, cut_down, stored}
use Rattle.history.specs.Log.{Trace, Grant, Log}
use Rattle.history.specs.Order.{ahead, put_in, arranged}
use Rattle.history.specs.Run.{Answered, run, all_rest, seen_by, within_start}
use Rattle.history.specs.Promise.{◌∈◌}
use Rattle.history.proofs.Runs.{written, Sees, Writes, answered_agrees, run_put_in, kept_put_in}
use Rattle.history.proofs.Arranged.{Ahead, First, ahead_place, first_updates, tell_ahead, ahead_told, not_behind}
use Rattle.history.proofs.Versions.{Keeps, Newest, newest_is, Last, rests, stores, run_leaves}
use Rattle.history.proofs.Invariant.{Consistent, Running, Inv, AtSeat, board_has}
use Rattle.history.proofs.Picks.{update_or_reader, writer_updates, writer, version_by, natural_picked}
use Rattle.history.proofs.Stored.{Cut, cut_down_is, keeps_unwritten, keeps_written, insert_keeps}
use Rattle.history.proofs.Found.{in_gather, gather_in, any_false, earliest_least, earliest_in, in_newer, newer_in, overtaken_by, least_first, least_each, least_in}

-- what the laws of a rule say of a granted place, of a transaction x on a board s
pub record Fair (b : Setup) (s : State) (x : Transaction) (place : ℕ) : Type 0 where
  pub above_start : x.start < place
  pub by_next : place ≤ s.clock + 1
  pub before_missed : (i : ℕ) (u : Version) → i < b.items → x.marked i ≡ true → u ∈ newer x.start (s.items i).versions → place ≤ u.place
  pub if_overtaken : (i c : ℕ) → listed i x.writes ≡ Some c → x.start ≤ (s.items i).stamp → place ≡ s.clock + 1

module _ {b : Setup} {s : State} {l : Log} (inv : Inv b s l) (class : Class) (x : Transaction) (start_by : x.start ≤ s.clock) where
  missed_known : (u : Version) → u ∈ missed b s x → (u.place ≤ u.natural) × (u.natural ≤ s.clock) × (x.start < u.natural)
  missed_known u m =
      let r = gather_in b.items (missed_of s x) u m in
      let i = r.0 in
      let n : u ∈ newer x.start (s.items i).versions =
      (elim (x.marked i) as (λ k. u ∈ cond k (newer x.start (s.items i).versions) [] → u ∈ newer x.start (s.items i).versions) [ true ↦ λ j. j | false ↦ λ j. elim j [ ] ]) r.2 in
      let q = newer_in x.start (s.items i).versions u n in
      let v = version_by inv.sound i (s.items i).versions u (inv.keeps i) q.0 in
      (v.0, v.1, q.1)

  -- a board's findings are such as the laws are owed for
  pub board_gives : BoardGives (findings b s class x)
  board_gives = record {
    start_below_next = omega arith;
    missed_below_next = λ p e. let r = earliest_in (missed b s x) p e in omega (arith, r.2, missed_known r.0 r.1);
    unwarped_missed_above_start = λ none p e.
        let r = earliest_in (missed b s x) p e in
        let same = eqb-true _ _ (not-false _ (any_false is_warped (missed b s x) r.0 none r.1)) in
        omega (arith, r.2, missed_known r.0 r.1, same);
  }

  pub fair : FourLaws b.rule → (place : ℕ) → b.rule (findings b s class x) ≡ Some place → Fair b s x place
  fair laws place e = record {
    above_start = (laws.in_range _ board_gives place e).0;
    by_next = (laws.in_range _ board_gives place e).1;
    before_missed = λ i u lt mark m.
        let here : u ∈ missed_of s x i = subst (λ k. u ∈ cond k (newer x.start (s.items i).versions) []) (sym mark) m in
        let r = earliest_least (missed b s x) u (in_gather b.items (missed_of s x) i u lt here) in
        omega (arith, laws.up_to_missed _ board_gives r.0 place r.1 e, r.2);
    if_overtaken = λ i c w le. laws.next_if_overtaken _ board_gives (overtaken_by s x i c w le) place e;
  }

not_ahead : (f g : Grant) → (Ahead f g → ⊥) → ahead f g ≡ false
not_ahead f g far = (elim (ahead f g) as (λ k. ahead f g ≡ k → k ≡ false) [ true ↦ λ e. absurd (far (ahead_told f g e)) | false ↦ λ _. refl ]) refl

-- every list reaches down to the least start of an open transaction, if it does to that of the one at hand
pub reached_by_least : {b : Setup} {s : State} {l : Log} (inv : Inv b s l) (x : Transaction) → ((i : ℕ) → (v : Version) × (v ∈ (s.items i).versions) × (v.natural ≤ x.start))
    → (i : ℕ) → (v : Version) × (v ∈ (s.items i).versions) × (v.natural ≤ least_start b s x)
reached_by_least {b} {s} {l} inv x own i = ⊎_elim
    (λ e. let w = own i in (w.0, w.1, omega (arith, w.2, e)))
    (λ m.
    let k = gather_in b.seats (λ seat. start_of (running_of (s.seats seat))) (least_start b s x) m in
    go k.0 (running_of (s.seats k.0)) refl k.2)
    (least_in x.start (starts b s))
  where
    go : (k : ℕ) (o : Option Transaction) → running_of (s.seats k) ≡ o → least_start b s x ∈ start_of o → (v : Version) × (v ∈ (s.items i).versions) × (v.natural ≤ least_start b s x)
    go k None e m = elim m [ ]
    go k (Some y) e m =
        let at = board_has inv k y e in
        let w = at.1.both.reaches i in
        let is : least_start b s x ≡ y.start = ⊎_elim (λ d. d) (λ j. elim j [ ]) (Memᴰ.cases_cons m) in
        (w.0, w.1, omega (arith, w.2, at.1.both.same_start, is))

-- the same where a transaction is open
pub open_reach : {b : Setup} {s : State} {l : Log} (inv : Inv b s l) (x : Transaction) (seat : ℕ) → running_of (s.seats seat) ≡ Some x → (i : ℕ) → (v : Version) × (v ∈ (s.items i).versions) × (v.natural ≤ least_start b s x)
open_reach inv x seat e = reached_by_least inv x (λ i. let at = board_has inv seat x e in let w = at.1.both.reaches i in (w.0, w.1, omega (arith, w.2, at.1.both.same_start)))

-- the transaction x, traced by t, is granted the place
module _ {b : Setup} {s : State} {l : Log} (inv : Inv b s l) (x : Transaction) (t : Trace) (r : Running b s.clock l.calls s.items l.granted x t)
    (updates : t.mode ≡ Update) (place : ℕ) (fair : Fair b s x place) where
  abbrev pub T : Grant
  T = record { trace = t; natural = s.clock + 1; place = place; ended = l.calls }

  overtakes : (i stamped : ℕ) → place ≤ stamped → stamped ≤ s.clock → stamped ≤ (s.items i).stamp + 1 → written t.deeds i ≡ None
  overtakes i stamped p q le = go (written t.deeds i) refl
    where
      go : (w : Option ℕ) → written t.deeds i ≡ w → w ≡ None
      go None e = refl
      go (Some c) e = absurd (omega (arith, fair.above_start, fair.if_overtaken i c (r.same_writes i ∙ e) (omega (arith, fair.above_start))))

  -- those behind the new transaction look at nothing that it writes
  pub free_behind : (f : Grant) → f ∈ l.granted → Ahead T f → (i : ℕ) → Sees f.trace.deeds i → written t.deeds i ≡ None
  free_behind f m a i sees =
      let behind = ahead_place T f a in
      let known = inv.sound f m in
      ⊎_elim
      (λ e. let u = known.as_update e in overtakes i f.natural (omega (arith, u.place_by)) u.natural_by (u.stamped i sees))
      (λ e. overtakes i f.trace.start (omega (arith, known.reader_place e)) known.start_by (omega (arith, (known.as_reader e).stamped i sees)))
      (update_or_reader f.trace.mode)

  -- nor do the ungranted readers that see it
  pub consistent_still : (u : Trace) → Consistent b s.clock s.items l.granted u → Answered u.deeds (run (filter (seen_by u) (arranged (T ∷ l.granted))) (all_rest b))
  consistent_still u c = go (seen_by u T) refl
    where
      unseen : seen_by u T ≡ false → Answered u.deeds (run (filter (seen_by u) (put_in T (arranged l.granted))) (all_rest b))
      unseen e = subst (λ gs. Answered u.deeds (run gs (all_rest b))) (sym (kept_put_in (seen_by u) T (arranged l.granted) e)) c.answered

      go : (k : Bool) → seen_by u T ≡ k → Answered u.deeds (run (filter (seen_by u) (put_in T (arranged l.granted))) (all_rest b))
      go false e = unseen e
      go true e = ⊎_elim
          (λ m. let n : seen_by u T ≡ false = and_right (is_update t.mode) _ (ap (λ k. within_start k u.start T) m ∙ lt-leb _ _ (omega (arith, c.start_by))) in unseen n)
          (λ m.
          let near : place ≤ u.start = leb-true _ _ (sym (ap (λ k. within_start k u.start T) m) ∙ (and_parts (is_update t.mode) _ e).1) in
          answered_agrees u.deeds _ _
          (λ i sees. sym (run_put_in (seen_by u) T (arranged l.granted) (all_rest b) i (overtakes i u.start near c.start_by (omega (arith, (c.as_reader m).stamped i sees)))))
          c.answered)
          (update_or_reader u.mode)

  -- a version newer than the one that was read keeps its update behind the new transaction
  newer_behind : (i : ℕ) (f : Grant) (u : Version) (c : ℕ) → f ∈ l.granted → Writes f i c → Sees t.deeds i → u ∈ (s.items i).versions → u.place ≡ f.place → (newest b (natural_by t.start) (s.items i).versions).place < u.place → Ahead T f
  newer_behind i f u c m w sees j e above =
      let mark = r.marks updates i sees in
      let missed_here = in_newer b t.start (s.items i).versions u (inv.keeps i).falling j above in
      let first = fair.before_missed i u mark.1 mark.0 (subst (λ n. u ∈ newer n (s.items i).versions) (sym r.same_start) missed_here) in
      let is_writer = writer inv.sound f i c m w in
      ⊎_elim
      (λ lower. inl (omega (arith, e)))
      (λ same. inr (omega (arith, e), subst (λ k. First k f.trace.mode T f) (sym updates) (subst (λ k. First Update k T f) (sym (writer_updates inv.sound f i c m w)) (omega (arith, is_writer.natural_by)))))
      (cases_lt place u.place)

  seen_is : (g : Grant) → seen_by t g ≡ (is_update g.trace.mode && leb g.natural t.start)
  seen_is g = ap (λ k. is_update g.trace.mode && within_start k t.start g) updates

  seen_old : (f : Grant) (i c : ℕ) → f ∈ l.granted → Writes f i c → f.natural ≤ t.start → seen_by t f ≡ true
  seen_old f i c m w le = seen_is f ∙ and_from _ _ (ap is_update (writer_updates inv.sound f i c m w)) (le-leb _ _ le)

  read_last : (i : ℕ) → Last b l.granted i (seen_by t) (newest b (natural_by t.start) (s.items i).versions)
  read_last i = let w = r.reaches i in natural_picked inv.sound b i t.start (s.items i).versions (seen_by t) (inv.keeps i) seen_is w.0 w.1 w.2

  -- the version that was read belongs to the last update ahead of the new transaction, too
  own_last : (i : ℕ) → Sees t.deeds i → Last b l.granted i (not_behind T) (newest b (natural_by t.start) (s.items i).versions)
  own_last i sees = go (read_last i)
    where
      vs : List Version
      vs = (s.items i).versions

      v : Version
      v = newest b (natural_by t.start) vs

      n : Newest vs (natural_by t.start) v
      n = let w = r.reaches i in newest_is b (natural_by t.start) vs w.0 (inv.keeps i).falling w.1 (le-leb _ _ w.2)

      old : v.natural ≤ t.start
      old = leb-true _ _ n.passes

      -- an update that is not behind T and was not seen has a place not above v's
      low : (f : Grant) (c : ℕ) → f ∈ l.granted → not_behind T f ≡ true → Writes f i c → f.place ≤ v.place
      low f c m q w = ⊎_elim
          (λ u. ⊎_elim
          (λ above. absurd (both_ways _ (not-true _ q) (tell_ahead T f (newer_behind i f u.0 c m w sees u.1 u.2 above))))
          (λ le. omega (arith, u.2))
          (cases_lt v.place u.0.place))
          (λ below. omega (arith, below v n.within))
          ((inv.keeps i).to_versions f m c w)

      go : Last b l.granted i (seen_by t) v → Last b l.granted i (not_behind T) v
      go (rests e free) = rests e (λ f m q c w. omega (arith, low f c m q w, (writer inv.sound f i c m w).above_start, ap (λ (y : Version). y.place) e))
      go (stores g m st q last) = stores g m st
          (ap not (not_ahead T g (λ a. omega (arith, ahead_place T g a, st.place, (version_by inv.sound i vs v (inv.keeps i) n.within).0, old, fair.above_start, r.same_start))))
          (λ f mf nb c w a. ⊎_elim
          (λ new.
          let level = low f c mf nb w in
          let behind = ahead_place g f a in
          ⊎_elim
          (λ lower. omega (arith, st.place))
          (λ same. omega (arith, first_updates g f st.update (writer_updates inv.sound f i c mf w) same.1, st.natural, old))
          a)
          (λ seen. last f mf (seen_old f i c mf w seen) c w a)
          (cases_lt t.start f.natural))

  -- at its place it reads what it was answered
  pub own_reads : Answered t.deeds (run (filter (not_behind T) (arranged l.granted)) (all_rest b))
  own_reads = answered_agrees t.deeds _ _
      (λ i sees. run_leaves b l.granted i (seen_by t) _ inv.arrayed (read_last i) ∙ sym (run_leaves b l.granted i (not_behind T) _ inv.arrayed (own_last i sees)))
      r.consistent.answered

  ---- the lists

  -- every open transaction's start is at least the least, and every list reaches down to it
  least_by : (k : ℕ) (y : Transaction) (u : Trace) → AtSeat b s l k y u → least_start b s x ≤ u.start
  least_by k y u a =
      let here : y.start ∈ start_of (running_of (s.seats k)) = subst (λ o. y.start ∈ start_of o) (sym a.on_board) (Memᴰ.head refl) in
      omega (arith, a.both.same_start, least_each x.start (starts b s) y.start (in_gather b.seats (λ seat. start_of (running_of (s.seats seat))) k y.start (inv.seated k u a.in_log) here))

  least_reached : (i : ℕ) → (v : Version) × (v ∈ (s.items i).versions) × (v.natural ≤ least_start b s x)
  least_reached = reached_by_least inv x (λ i. let w = r.reaches i in (w.0, w.1, omega (arith, w.2, r.same_start)))

  pub cut_is : (i : ℕ) → Cut (least_start b s x) (s.items i).versions (cut_down b s x i)
  cut_is i = let w = least_reached i in cut_down_is (least_start b s x) (s.items i).versions w.0 (inv.keeps i).falling w.1 w.2

  pub least_below : least_start b s x < place
  least_below = omega (arith, least_first x.start (starts b s), fair.above_start)

  pub lists_keep : (i : ℕ) → Keeps b (T ∷ l.granted) i (stored b s x place i (listed i x.writes))
  lists_keep i = go (listed i x.writes) refl
    where
      go : (o : Option ℕ) → listed i x.writes ≡ o → Keeps b (T ∷ l.granted) i (stored b s x place i o)
      go None e = keeps_unwritten inv.sound i (s.items i).versions (inv.keeps i) T (sym (r.same_writes i) ∙ e)
      go (Some c) e = keeps_written inv.sound i (s.items i).versions (inv.keeps i) T _ (least_start b s x) (cut_down b s x i)
          (record { update = updates; natural = refl; place = refl; wrote = sym (r.same_writes i) ∙ e }) (cut_is i) least_below (omega arith)

  pub lists_reach : (k : ℕ) (y : Transaction) (u : Trace) → AtSeat b s l k y u → (i : ℕ) → (v : Version) × (v ∈ stored b s x place i (listed i x.writes)) × (v.natural ≤ u.start)
  lists_reach k y u a i = go (listed i x.writes)
    where
      go : (o : Option ℕ) → (v : Version) × (v ∈ stored b s x place i o) × (v.natural ≤ u.start)
      go None = a.both.reaches i
      go (Some c) = let cut = cut_is i in (cut.anchor, insert_keeps _ cut.anchor (cut_down b s x i) cut.within, omega (arith, cut.old, least_by k y u a))
