-- What an open transaction reads and writes.
use Rattle.std.proofs.Common.{◌≡◌, ℕ, ◌<◌, ◌≤◌, Bool, true, false, cond, ◌||◌, eqb, ltb, List, [], ◌∷◌, length, get_or, is_some, Some, None, Ok, Err, Option, sym, refl, ap, ◌∙◌, subst, ⊎_elim, arith}
use Rattle.std.specs.List.{AllByRecursion}
use Rattle.std.proofs.lemmas.Bool.{cond-true, cond-false, lt-ltb, le-ltb, ltb-true, eqb-true, cases_eq, cases_Bool}
use Rattle.calls.specs.declared.write.Write.{Write}
use Rattle.calls.specs.declared.call.Class.{Class}
use Rattle.calls.specs.declared.call.Mode.{Mode}
use Rattle.calls.specs.declared.call.Mode.TheVariants.{Reader, Update}
use Rattle.calls.specs.declared.call.Call.TheVariants.{Read, Write as Writing}
use Rattle.calls.specs.declared.reply.Reply.TheVariants.{Code, Done}
use Rattle.calls.specs.declared.refusal.Refusal.TheVariants.{ReaderWrites, UnknownCode, WriteListFull}
use Rattle.rules.specs.declared.findings.Findings.{Findings}
use Rattle.history.specs.State.{Setup, State, Item, Version as Kept, Transaction as Running, Seat as Place, empty, held, put, at_rest}
use Rattle.history.specs.Steps.{Outcome, accept, step, listed, list_code, newest, natural_by, place_by, is_update, pass_questions, item_questions, running_of, in_running, with_running, read_in, read_by_natural}
use Rattle.history.proofs.Kept.{put_same, put_other}
use Rattle.history.proofs.KeptCalls.{listed_code}
use Rattle.versions.specs.Slots.{padded}
use Rattle.board.specs.declared.transaction.Transaction.{Transaction}
use Rattle.board.specs.declared.seat.Held.{Held}
use Rattle.board.specs.declared.seat.HeldSeat.{HeldSeat}
use Rattle.board.specs.Contents.{Contents, setup_of}
use Rattle.board.specs.Lists.{write_list, slots_of, Marked}
use Rattle.board.specs.Ends.{NowRuns, Stamped}
use Rattle.board.specs.Holding.{OnceEach, Runs, Opens, Seated, Holds, Stepped}
use Rattle.board.specs.Looks.{PassAsked, ItemAsked}
use Rattle.board.proofs.Doing.{steps, refuses}
use Rattle.board.proofs.Opening.{asked_yes, steps_running}
use Rattle.board.proofs.Seeing.{seen}

---- the open transaction that a call finds

pub record Opened (b : Setup) (seat pass : ℕ) (class : Class) (t : Transaction) (s : State) : Type 0 where
  pub x : Running
  pub runs : Runs b.items t x
  pub in_range : seat < b.seats
  pub on_board : running_of (s.seats seat) ≡ Some x
  pub goes : (go : Class → Running → Outcome) → with_running b seat pass s go ≡ go class x

in_seated : (b : Setup) (h : Held) (t : Transaction) (y : Place) (s : State) → Seated b.items (Some h) y → h.running ≡ Some t → (x : Running) × Runs b.items t x × ((go : Class → Running → Outcome) → in_running s y go ≡ go h.class x) × (running_of y ≡ Some x)
in_seated b h t empty s k is = absurd k
in_seated b h t (held p c None) s k is = absurd (subst (λ o. Opens b.items o None) is k.2)
in_seated b h t (held p c (Some x)) s k is = (x, subst (λ o. Opens b.items o (Some x)) is k.2, λ go. ap (λ c. go c x) (sym k.1), refl)

pub opened : (b : Setup) (seat pass : ℕ) (h : HeldSeat) (t : Transaction) (s : State) → PassAsked b seat pass s (Ok h) → h.held.running ≡ Some t → Opened b seat pass h.held.class t s
opened b seat pass h t s (e, ok, seated) is =
    let r = in_seated b h.held t (s.seats seat) s seated is in
    record { x = r.0; runs = r.1; in_range = ltb-true seat b.seats ok.0; on_board = r.3; goes = λ go. asked_yes (pass_questions b seat pass s) s _ ok ∙ r.2 go }

---- write lists

once_listed : (item code : ℕ) (ws : List Write) → OnceEach ws → OnceEach (list_code item code ws)
once_listed item code [] o = (refl, tt)
once_listed item code (w ∷ ws) o = ⊎_elim
    (λ e. subst OnceEach (sym (cond-true (eqb w.item item) _ _ e)) (subst (λ n. listed n ws ≡ None) (eqb-true _ _ e) o.0, o.1))
    (λ e. subst OnceEach (sym (cond-false (eqb w.item item) _ _ e)) (listed_code w.item item code ws ∙ cond-false (eqb w.item item) _ _ e ∙ o.0, once_listed item code ws o.1))
    (cases_Bool (eqb w.item item))

pub all_listed : (P : Write → Type 0) (item code : ℕ) (ws : List Write) → P (record { item = item; code = code }) → AllByRecursion P ws → AllByRecursion P (list_code item code ws)
all_listed P item code [] p o = (p, tt)
all_listed P item code (w ∷ ws) p o = ⊎_elim
    (λ e. subst (AllByRecursion P) (sym (cond-true (eqb w.item item) _ _ e)) (p, o.1))
    (λ e. subst (AllByRecursion P) (sym (cond-false (eqb w.item item) _ _ e)) (o.0, all_listed P item code ws p o.1))
    (cases_Bool (eqb w.item item))

lists_runs : (items : ℕ) (t u : Transaction) (x : Running) (item code : ℕ) → Runs items t x → write_list u ≡ list_code item code (write_list t) → u.mode ≡ t.mode → u.start ≡ t.start → u.marks ≡ t.marks
    → Runs items u (record { mode = x.mode; start = x.start; marked = x.marked; writes = list_code item code x.writes })
lists_runs items t u x item code r ws m st ms = record {
  mode = m ∙ r.mode;
  start = st ∙ r.start;
  marks = λ i l. ap (λ l. get_or l i false) ms ∙ r.marks i l;
  writes = ws ∙ ap (list_code item code) r.writes;
  once = once_listed item code x.writes r.once;
}

---- marks

marks_runs : (items : ℕ) (t u : Transaction) (x : Running) (item : ℕ) → Runs items t x → Marked t u item → Runs items u (record { mode = x.mode; start = x.start; marked = put x.marked item true; writes = x.writes })
marks_runs items t u x item r m = subst (λ (z : Transaction). Runs items z (record { mode = x.mode; start = x.start; marked = put x.marked item true; writes = x.writes })) (sym m.only) (record {
  mode = r.mode;
  start = r.start;
  marks = λ i l. ⊎_elim
      (λ e. subst (λ n. get_or u.marks n false ≡ put x.marked item true n) (sym e) (m.here ∙ sym (put_same x.marked item true)))
      (λ far. m.elsewhere i far ∙ r.marks i l ∙ sym (put_other x.marked item true i far))
      (cases_eq i item);
  writes = r.writes;
  once = r.once;
})

---- the calls

module _ {R : Type 0} (answers : R → Findings → Option ℕ) (before : Contents R) where
  abbrev its_setup : Setup
  its_setup = setup_of answers before

  -- a stamp is raised to the clock
  holds_stamp : (after : Contents R) (item : ℕ) (s : State) → Holds before s → Stamped before after item
      → Holds after (record { clock = s.clock; passes = s.passes; items = put s.items item (record { stamp = s.clock; versions = (s.items item).versions }); seats = s.seats })
  holds_stamp after item s k is = subst (λ (b : Contents R). Holds b (record { clock = s.clock; passes = s.passes; items = put s.items item new; seats = s.seats })) (sym is.only) (record {
    clock = k.clock;
    passes = k.passes;
    stamps = λ i l. ⊎_elim
        (λ e. subst (λ n. get_or after.stamps n 0 ≡ (put s.items item new n).stamp) (sym e) (is.here ∙ k.clock ∙ sym (ap (λ (y : Item). y.stamp) (put_same s.items item new))))
        (λ far. is.elsewhere i far ∙ k.stamps i l ∙ sym (ap (λ (y : Item). y.stamp) (put_other s.items item new i far)))
        (cases_eq i item);
    seats = k.seats;
    lists = λ i l. k.lists i l ∙ ap (padded 8 (at_rest its_setup)) (sym (same i));
    few_versions = λ i l. subst (λ (vs : List Kept). length vs ≤ 8) (sym (same i)) (k.few_versions i l);
  })
    where
      new : Item
      new = record { stamp = s.clock; versions = (s.items item).versions }

      same : (i : ℕ) → (put s.items item new i).versions ≡ (s.items i).versions
      same i = ⊎_elim
          (λ e. subst (λ n. (put s.items item new n).versions ≡ (s.items n).versions) (sym e) (ap (λ (y : Item). y.versions) (put_same s.items item new)))
          (λ far. ap (λ (y : Item). y.versions) (put_other s.items item new i far))
          (cases_eq i item)

  pub reads_by_place : (after : Contents R) (seat pass item at code : ℕ) (h : HeldSeat) (t : Transaction) (slots : List Kept) (s : State) → Holds before s
      → PassAsked its_setup seat pass s (Ok h) → h.held.running ≡ Some t → ItemAsked its_setup item s (Ok at) → t.mode ≡ Reader
      → slots ≡ slots_of before.versions at → code ≡ (newest its_setup (place_by t.start) slots).code → Stamped before after at
      → Stepped answers before after (Read seat pass item) (Ok (Code code)) s
  reads_by_place after seat pass item at code h t slots s k asked_pass open_is (e, ok) mode is told stamped =
      let o = opened its_setup seat pass h t s asked_pass open_is in
      let lt = ltb-true item before.items ok.0 in
      steps answers before after (Read seat pass item) (Ok (Code code)) s (read_in its_setup seat item o.x s Reader) (ap (setup_of answers) stamped.only)
      (o.goes _ ∙ asked_yes (item_questions its_setup item) s _ ok ∙ ap (read_in its_setup seat item o.x s) (sym o.runs.mode ∙ mode))
      (ap (λ n. Ok (Code n)) (told ∙ ap (λ (v : Kept). v.code) (seen answers before item at slots (place_by t.start) s k e lt is) ∙ ap (λ n. (newest its_setup (place_by n) (s.items item).versions).code) o.runs.start))
      (holds_stamp after item s k (subst (Stamped before after) e stamped))

  read_update : (seat pass item at : ℕ) (h : HeldSeat) (t : Transaction) (s : State) (found : Option ℕ) (o : Opened its_setup seat pass h.held.class t s) → ItemAsked its_setup item s (Ok at) → t.mode ≡ Update → found ≡ listed item (write_list t)
      → step its_setup (Read seat pass item) s ≡ read_by_natural its_setup seat item o.x s found
  read_update seat pass item at h t s found o (e, ok) mode is =
      o.goes _ ∙ asked_yes (item_questions its_setup item) s _ ok ∙ ap (read_in its_setup seat item o.x s) (sym o.runs.mode ∙ mode)
      ∙ ap (read_by_natural its_setup seat item o.x s) (sym (is ∙ ap (listed item) o.runs.writes))

  pub reads_own : (seat pass item at code : ℕ) (h : HeldSeat) (t : Transaction) (s : State) → Holds before s
      → PassAsked its_setup seat pass s (Ok h) → h.held.running ≡ Some t → ItemAsked its_setup item s (Ok at) → t.mode ≡ Update → Some code ≡ listed item (write_list t)
      → Stepped answers before before (Read seat pass item) (Ok (Code code)) s
  reads_own seat pass item at code h t s k asked_pass open_is asked_item mode is =
      steps answers before before (Read seat pass item) (Ok (Code code)) s (accept (Code code) s) refl
      (read_update seat pass item at h t s (Some code) (opened its_setup seat pass h t s asked_pass open_is) asked_item mode is) refl k

  pub reads_by_natural : (after : Contents R) (seat pass item at code : ℕ) (h : HeldSeat) (t u : Transaction) (slots : List Kept) (s : State) → Holds before s
      → PassAsked its_setup seat pass s (Ok h) → h.held.running ≡ Some t → ItemAsked its_setup item s (Ok at) → t.mode ≡ Update → None ≡ listed item (write_list t)
      → slots ≡ slots_of before.versions at → code ≡ (newest its_setup (natural_by t.start) slots).code
      → Marked t u at → NowRuns before after h.at (Some u)
      → Stepped answers before after (Read seat pass item) (Ok (Code code)) s
  reads_by_natural after seat pass item at code h t u slots s k asked_pass open_is asked_item mode none is told marked put_is =
      let o = opened its_setup seat pass h t s asked_pass open_is in
      let e = asked_item.0 in
      let lt = ltb-true item before.items asked_item.1.0 in
      steps_running answers before after seat h.at (Some u) (Some (record { mode = o.x.mode; start = o.x.start; marked = put o.x.marked item true; writes = o.x.writes }))
      (Read seat pass item) (Code (newest its_setup (natural_by o.x.start) (s.items item).versions).code) (Code code) s k asked_pass.0 o.in_range
      (marks_runs before.items t u o.x item o.runs (subst (Marked t u) e marked))
      put_is
      (read_update seat pass item at h t s None o asked_item mode none)
      (ap Code (told ∙ ap (λ (v : Kept). v.code) (seen answers before item at slots (natural_by t.start) s k e lt is) ∙ ap (λ n. (newest its_setup (natural_by n) (s.items item).versions).code) o.runs.start))

  update_is : (t : Transaction) (x : Running) (m : Mode) → Runs before.items t x → t.mode ≡ m → is_update x.mode ≡ is_update m
  update_is t x m r e = ap is_update (sym r.mode ∙ e)

  pub refuses_reader : (seat pass item code at : ℕ) (h : HeldSeat) (t : Transaction) (s : State) → Holds before s
      → PassAsked its_setup seat pass s (Ok h) → h.held.running ≡ Some t → ItemAsked its_setup item s (Ok at) → t.mode ≡ Reader
      → Stepped answers before before (Writing seat pass item code) (Err ReaderWrites) s
  refuses_reader seat pass item code at h t s k asked_pass open_is (e, ok) mode =
      let o = opened its_setup seat pass h t s asked_pass open_is in
      refuses answers before (Writing seat pass item code) ReaderWrites s k
      (o.goes _ ∙ cond-true _ _ _ ok.0 ∙ cond-false _ _ _ (update_is t o.x Reader o.runs mode))

  pub refuses_code : (seat pass item code at codes : ℕ) (h : HeldSeat) (t : Transaction) (s : State) → Holds before s
      → PassAsked its_setup seat pass s (Ok h) → h.held.running ≡ Some t → ItemAsked its_setup item s (Ok at) → t.mode ≡ Update → codes ≡ before.codes → codes ≤ code
      → Stepped answers before before (Writing seat pass item code) (Err UnknownCode) s
  refuses_code seat pass item code at codes h t s k asked_pass open_is (e, ok) mode all much =
      let o = opened its_setup seat pass h t s asked_pass open_is in
      refuses answers before (Writing seat pass item code) UnknownCode s k
      (o.goes _ ∙ cond-true _ _ _ ok.0 ∙ cond-true _ _ _ (update_is t o.x Update o.runs mode) ∙ cond-false _ _ _ (le-ltb code before.codes (omega (arith, all, much))))

  room_is : (item : ℕ) (t : Transaction) (x : Running) (k : Bool) → Runs before.items t x → k ≡ (is_some (listed item (write_list t)) || ltb (length (write_list t)) 8) → (is_some (listed item x.writes) || ltb (length x.writes) 8) ≡ k
  room_is item t x k r e = sym (e ∙ ap (λ (ws : List Write). is_some (listed item ws) || ltb (length ws) 8) r.writes)

  pub refuses_full : (seat pass item code at codes : ℕ) (h : HeldSeat) (t : Transaction) (s : State) (room : Bool) → Holds before s
      → PassAsked its_setup seat pass s (Ok h) → h.held.running ≡ Some t → ItemAsked its_setup item s (Ok at) → t.mode ≡ Update → codes ≡ before.codes → code < codes
      → room ≡ (is_some (listed item (write_list t)) || ltb (length (write_list t)) 8) → room ≡ false
      → Stepped answers before before (Writing seat pass item code) (Err WriteListFull) s
  refuses_full seat pass item code at codes h t s room k asked_pass open_is (e, ok) mode all few roomy none =
      let o = opened its_setup seat pass h t s asked_pass open_is in
      refuses answers before (Writing seat pass item code) WriteListFull s k
      (o.goes _ ∙ cond-true _ _ _ ok.0 ∙ cond-true _ _ _ (update_is t o.x Update o.runs mode) ∙ cond-true _ _ _ (lt-ltb code before.codes (omega (arith, all, few))) ∙ cond-false _ _ _ (room_is item t o.x room o.runs roomy ∙ none))

  pub writes : (after : Contents R) (seat pass item code at codes : ℕ) (h : HeldSeat) (t u : Transaction) (s : State) (room : Bool) → Holds before s
      → PassAsked its_setup seat pass s (Ok h) → h.held.running ≡ Some t → ItemAsked its_setup item s (Ok at) → t.mode ≡ Update → codes ≡ before.codes → code < codes
      → room ≡ (is_some (listed item (write_list t)) || ltb (length (write_list t)) 8) → room ≡ true
      → write_list u ≡ cond room (list_code item code (write_list t)) (write_list t) → u.mode ≡ t.mode → u.start ≡ t.start → u.marks ≡ t.marks
      → NowRuns before after h.at (Some u)
      → Stepped answers before after (Writing seat pass item code) (Ok Done) s
  writes after seat pass item code at codes h t u s room k asked_pass open_is (e, ok) mode all few roomy some ws m st ms put_is =
      let o = opened its_setup seat pass h t s asked_pass open_is in
      let below : code < before.codes = omega (arith, all, few) in
      steps_running answers before after seat h.at (Some u) (Some (record { mode = o.x.mode; start = o.x.start; marked = o.x.marked; writes = list_code item code o.x.writes }))
      (Writing seat pass item code) Done Done s k asked_pass.0 o.in_range
      (lists_runs before.items t u o.x item code o.runs (ws ∙ cond-true room _ _ some) m st ms)
      put_is
      (o.goes _ ∙ cond-true _ _ _ ok.0 ∙ cond-true _ _ _ (update_is t o.x Update o.runs mode) ∙ cond-true _ _ _ (lt-ltb code before.codes below) ∙ cond-true _ _ _ (room_is item t o.x room o.runs roomy ∙ some)) refl
