-- Passes: a revoked one is held at no seat, now or ever, so every call that shows it is refused.
use Rattle.std.proofs.Common.{◌≡◌, ℕ, ◌+◌, ◌≤◌, true, false, ltb, ◌⊎◌, is_ok, Some, None, Err, Option, sym, refl, ap, ◌∙◌, inl, inr, ⊎_elim, arith}
use Rattle.std.proofs.lemmas.Bool.{eqb-true, cases_eq, cond_both}
use Rattle.calls.specs.declared.call.Class.{Class}
use Rattle.calls.specs.declared.call.Mode.{Mode}
use Rattle.calls.specs.declared.call.Mode.TheVariants.{Reader, Update}
use Rattle.calls.specs.declared.call.Call.{Call}
use Rattle.calls.specs.declared.call.Call.TheVariants.{Admit, Revoke, Begin, Read, Write as Writing, Commit, Abandon, Show}
use Rattle.calls.specs.declared.refusal.Refusal.{Refusal}
use Rattle.history.specs.State.{Setup, Transaction, Seat, empty, held, State, put, new_board}
use Rattle.history.specs.Steps.{Outcome, Answer, step, has_pass, runs, with_running, admit, revoke, begin, read_in, read_by_natural, listed, commit_in, settle, limit, findings, lowest, is_full, admit_questions, revoke_questions, pass_questions, begin_questions, item_questions, write_questions}
use Rattle.history.specs.Log.{History, nothing, ◌▷◌, Leads, from_new, one_more}
use Rattle.history.specs.Promise.{pass_at, pass_noted, Empties, Revoked, shown_pass, LockedOut}
use Rattle.history.proofs.Kept.{put_cases, put_same, put_other, put_maps}
use Rattle.history.proofs.Asked.{asked_cases, with_running_cases}

abbrev pub pass_of : Seat → Option ℕ
pass_of empty = None
pass_of (held pass class o) = Some pass

pass_shown : (x : Seat) (shown : ℕ) → has_pass shown x ≡ true → pass_of x ≡ Some shown
pass_shown empty shown e = let z : ◌≡◌ {A = ℕ} 0 1 = cc in absurd (omega arith)
pass_shown (held pass class o) shown e = ap Some (eqb-true pass shown e)

pass_runs : (o : Option Transaction) (x : Seat) → pass_of (runs o x) ≡ pass_of x
pass_runs o empty = refl
pass_runs o (held pass class _) = refl

-- no seat's pass changes
pub record Unmoved (s : State) (o : Outcome) : Type 0 where
  pub passes : o.after.passes ≡ s.passes
  pub seats : (k : ℕ) → pass_of (o.after.seats k) ≡ pass_of (s.seats k)

same : (s : State) (a : Answer) → Unmoved s (record { answer = a; after = s })
same s a = record { passes = refl; seats = λ k. refl }

-- only what a seat has open changes
opens : (s : State) (seat : ℕ) (o : Option Transaction) (k : ℕ) → pass_of (put s.seats seat (runs o (s.seats seat)) k) ≡ pass_of (s.seats k)
opens s seat o k = put_cases (λ x. pass_of x ≡ pass_of (s.seats k)) s.seats seat (runs o (s.seats seat)) k (λ e. pass_runs o (s.seats seat) ∙ ap (λ j. pass_of (s.seats j)) (sym e)) refl

module _ (b : Setup) (s : State) where
  begin_unmoved : (seat pass : ℕ) (mode : Mode) → Unmoved s (begin b seat pass mode s)
  begin_unmoved seat pass mode = asked_cases (Unmoved s) (pass_questions b seat pass s) s _ (same s _, (same s _, (same s _, tt))) λ _.
      asked_cases (Unmoved s) (begin_questions seat s) s _ (same s _, tt) λ _. record { passes = refl; seats = opens s seat _ }

  read_unmoved : (seat item : ℕ) (x : Transaction) (m : Mode) → Unmoved s (read_in b seat item x s m)
  read_unmoved seat item x Reader = record { passes = refl; seats = λ k. refl }
  read_unmoved seat item x Update = go (listed item x.writes)
    where
      go : (o : Option ℕ) → Unmoved s (read_by_natural b seat item x s o)
      go (Some code) = record { passes = refl; seats = λ k. refl }
      go None = record { passes = refl; seats = opens s seat _ }

  settle_unmoved : (seat : ℕ) (x : Transaction) (o : Option ℕ) → Unmoved s (settle b seat x s o)
  settle_unmoved seat x None = record { passes = refl; seats = opens s seat None }
  settle_unmoved seat x (Some place) = cond_both (ltb (lowest b.items (is_full b s x place)) b.items) _ _ (Unmoved s)
      (λ _. record { passes = refl; seats = opens s seat None }) (λ _. record { passes = refl; seats = opens s seat None })

  commit_unmoved : (seat : ℕ) (class : Class) (x : Transaction) (m : Mode) → Unmoved s (commit_in b seat class x s m)
  commit_unmoved seat class x Reader = record { passes = refl; seats = opens s seat None }
  commit_unmoved seat class x Update = cond_both (ltb s.clock limit) _ _ (Unmoved s)
      (λ _. settle_unmoved seat x (b.rule (findings b s class x))) (λ _. record { passes = refl; seats = opens s seat None })

-- passes as the board has them and as calls and answers tell
pub record PassInv (s : State) (h : History) : Type 0 where
  pub told : (k : ℕ) → pass_at h k ≡ pass_of (s.seats k)
  pub given : (k p : ℕ) → pass_of (s.seats k) ≡ Some p → p ≤ s.passes
  pub apart : (j k p : ℕ) → pass_of (s.seats j) ≡ Some p → pass_of (s.seats k) ≡ Some p → j ≡ k
  pub spent : (p : ℕ) → Revoked h p → p ≤ s.passes
  pub gone : (p : ℕ) → Revoked h p → (k : ℕ) → pass_of (s.seats k) ≡ Some p → ⊥
  pub locked : LockedOut h

pass_new : (b : Setup) → PassInv (new_board b) nothing
pass_new b = record {
  told = λ k. refl;
  given = λ k p e. let z : ◌≡◌ {A = ℕ} 0 1 = cc in absurd (omega arith);
  apart = λ j k p e. let z : ◌≡◌ {A = ℕ} 0 1 = cc in absurd (omega arith);
  spent = λ p r. absurd r;
  gone = λ p r. absurd r;
  locked = tt;
}

module _ {s : State} {h : History} (inv : PassInv s h) where
  abbrev Locked : Call → Outcome → Type 0
  Locked call o = (pass : ℕ) → shown_pass call ≡ Some pass → Revoked h pass → is_ok o.answer ≡ false

  -- a call that changes no pass, of those that show one and of show
  unmoved : (call : Call) (o : Outcome) → pass_noted (pass_at h) call o.answer ≡ pass_at h → ((p : ℕ) → Empties h call o.answer p → ⊥) → Unmoved s o → Locked call o → PassInv o.after (h ▷ (call, o.answer))
  unmoved call o noted none u locked = record {
    told = λ k. ap (λ f. f k) noted ∙ inv.told k ∙ sym (u.seats k);
    given = λ k p e. omega (arith, inv.given k p (sym (u.seats k) ∙ e), u.passes);
    apart = λ j k p d e. inv.apart j k p (sym (u.seats j) ∙ d) (sym (u.seats k) ∙ e);
    spent = λ p r. omega (arith, inv.spent p (⊎_elim (λ old. old) (λ now. absurd (none p now)) r), u.passes);
    gone = λ p r k e. inv.gone p (⊎_elim (λ old. old) (λ now. absurd (none p now)) r) k (sym (u.seats k) ∙ e);
    locked = (inv.locked, locked);
  }

  -- the pass shown is the seat's, so it is not revoked
  not_revoked : (seat shown pass : ℕ) → has_pass shown (s.seats seat) ≡ true → ◌≡◌ {A = Option ℕ} (Some shown) (Some pass) → Revoked h pass → ⊥
  not_revoked seat shown pass has e r = inv.gone pass r seat (pass_shown (s.seats seat) shown has ∙ e)

  module _ (b : Setup) where
    admit_passes : (seat : ℕ) (class : Class) → PassInv (admit b seat class s).after (h ▷ (Admit seat class, (admit b seat class s).answer))
    admit_passes seat class = asked_cases (λ o. PassInv o.after (h ▷ (Admit seat class, o.answer))) (admit_questions b seat s) s _ (no_change, (no_change, (no_change, tt))) λ ys.
        let new : Seat = held (s.passes + 1) class None in
        record {
          told = λ k. put_maps pass_of s.seats (pass_at h) seat new k (inv.told k);
          given = λ k p. put_cases (λ x. pass_of x ≡ Some p → p ≤ s.passes + 1) s.seats seat new k (λ _ e. let is : s.passes + 1 ≡ p = cc in omega arith) (λ e. omega (arith, inv.given k p e));
          apart = λ j k p d e. ⊎_elim
              (λ c. ⊎_elim (λ c'. c.0 ∙ sym c'.0) (λ old. absurd (omega (arith, inv.given k p old, c.1))) (new_pass k p e))
              (λ old. ⊎_elim (λ c. absurd (omega (arith, inv.given j p old, c.1))) (λ old'. inv.apart j k p old old') (new_pass k p e))
              (new_pass j p d);
          spent = λ p r. ⊎_elim (λ old. omega (arith, inv.spent p old)) (λ now. absurd now) r;
          gone = λ p r k. put_cases (λ x. pass_of x ≡ Some p → ⊥) s.seats seat new k
              (λ _ e. let is : s.passes + 1 ≡ p = cc in ⊎_elim (λ old. omega (arith, inv.spent p old)) (λ now. absurd now) r)
              (λ e. inv.gone p (⊎_elim (λ old. old) (λ now. absurd now) r) k e);
          locked = (inv.locked, λ pass e. let z : ◌≡◌ {A = ℕ} 0 1 = cc in absurd (omega arith));
        }
      where
        new_pass : (j p : ℕ) → pass_of (put s.seats seat (held (s.passes + 1) class None) j) ≡ Some p → ((j ≡ seat) × (p ≡ s.passes + 1)) ⊎ (pass_of (s.seats j) ≡ Some p)
        new_pass j p = put_cases (λ x. pass_of x ≡ Some p → ((j ≡ seat) × (p ≡ s.passes + 1)) ⊎ (pass_of (s.seats j) ≡ Some p)) s.seats seat (held (s.passes + 1) class None) j (λ e d. inl (e, (cc))) inr

        no_change : {r : Refusal} → PassInv s (h ▷ (Admit seat class, Err r))
        no_change {r} = unmoved (Admit seat class) (record { answer = Err r; after = s }) refl (λ p e. e) (same s _) (λ pass e. let z : ◌≡◌ {A = ℕ} 0 1 = cc in absurd (omega arith))

    revoke_passes : (seat : ℕ) → PassInv (revoke b seat s).after (h ▷ (Revoke seat, (revoke b seat s).answer))
    revoke_passes seat = asked_cases (λ o. PassInv o.after (h ▷ (Revoke seat, o.answer))) (revoke_questions b seat s) s _ (no_change, (no_change, tt)) λ ys. record {
      told = λ k. put_maps pass_of s.seats (pass_at h) seat empty k (inv.told k);
      given = λ k p e. inv.given k p (still k p e).0;
      apart = λ j k p d e. inv.apart j k p (still j p d).0 (still k p e).0;
      spent = λ p r. ⊎_elim (inv.spent p) (λ now. inv.given seat p (sym (inv.told seat) ∙ now.1)) r;
      gone = λ p r k e. ⊎_elim
          (λ old. inv.gone p old k (still k p e).0)
          (λ now. (still k p e).1 (inv.apart k seat p (still k p e).0 (sym (inv.told seat) ∙ now.1)))
          r;
      locked = (inv.locked, λ pass e. let z : ◌≡◌ {A = ℕ} 0 1 = cc in absurd (omega arith));
    }
      where
        -- a pass that is still held was held, and not here
        still : (k p : ℕ) → pass_of (put s.seats seat empty k) ≡ Some p → (pass_of (s.seats k) ≡ Some p) × (k ≡ seat → ⊥)
        still k p e = ⊎_elim
            (λ d. let none : pass_of (put s.seats seat empty k) ≡ None = ap pass_of (ap (put s.seats seat empty) d ∙ put_same s.seats seat empty) in let z : ◌≡◌ {A = ℕ} 0 1 = cc in absurd (omega arith))
            (λ far. (ap pass_of (sym (put_other s.seats seat empty k far)) ∙ e, far))
            (cases_eq k seat)

        no_change : {r : Refusal} → PassInv s (h ▷ (Revoke seat, Err r))
        no_change {r} = unmoved (Revoke seat) (record { answer = Err r; after = s }) refl (λ p e. let z : ◌≡◌ {A = ℕ} 0 1 = cc e.0 in absurd (omega arith)) (same s _) (λ pass e. let z : ◌≡◌ {A = ℕ} 0 1 = cc in absurd (omega arith))

    -- a call that needs an open transaction
    locked_running : (call : Call) (seat shown : ℕ) (go : Class → Transaction → Outcome) → shown_pass call ≡ Some shown → Locked call (with_running b seat shown s go)
    locked_running call seat shown go is pass e r = with_running_cases (λ o. is_ok o.answer ≡ false) b seat shown s go refl refl refl refl
        λ p class x _ has _. absurd (not_revoked seat shown pass has (sym is ∙ e) r)

    running_unmoved : (seat shown : ℕ) (go : Class → Transaction → Outcome) → ((class : Class) (x : Transaction) → Unmoved s (go class x)) → Unmoved s (with_running b seat shown s go)
    running_unmoved seat shown go each = with_running_cases (Unmoved s) b seat shown s go (same s _) (same s _) (same s _) (same s _) λ p class x _ _ _. each class x

    pub step_passes : (call : Call) → PassInv (step b call s).after (h ▷ (call, (step b call s).answer))
    step_passes (Admit seat class) = admit_passes seat class
    step_passes (Revoke seat) = revoke_passes seat
    step_passes (Begin seat pass mode) = unmoved (Begin seat pass mode) (begin b seat pass mode s) refl (λ p e. e) (begin_unmoved b s seat pass mode)
        (λ p e r. asked_cases (λ o. is_ok o.answer ≡ false) (pass_questions b seat pass s) s _ (refl, (refl, (refl, tt))) λ ys. absurd (not_revoked seat pass p ys.1.1.0 e r))
    step_passes (Read seat pass item) = unmoved (Read seat pass item) (step b (Read seat pass item) s) refl (λ p e. e)
        (running_unmoved seat pass _ (λ class x. asked_cases (Unmoved s) (item_questions b item) s _ (same s _, tt) λ _. read_unmoved b s seat item x x.mode)) (locked_running (Read seat pass item) seat pass _ refl)
    step_passes (Writing seat pass item code) = unmoved (Writing seat pass item code) (step b (Writing seat pass item code) s) refl (λ p e. e)
        (running_unmoved seat pass _ (λ class x. asked_cases (Unmoved s) (write_questions b item code x) s _ (same s _, (same s _, (same s _, (same s _, tt)))) λ _. record { passes = refl; seats = opens s seat _ })) (locked_running (Writing seat pass item code) seat pass _ refl)
    step_passes (Commit seat pass) = unmoved (Commit seat pass) (step b (Commit seat pass) s) refl (λ p e. e)
        (running_unmoved seat pass _ (λ class x. commit_unmoved b s seat class x x.mode)) (locked_running (Commit seat pass) seat pass _ refl)
    step_passes (Abandon seat pass) = unmoved (Abandon seat pass) (step b (Abandon seat pass) s) refl (λ p e. e)
        (running_unmoved seat pass _ (λ class x. record { passes = refl; seats = opens s seat None })) (locked_running (Abandon seat pass) seat pass _ refl)
    step_passes (Show item) = unmoved (Show item) (step b (Show item) s) refl (λ p e. e)
        (asked_cases (Unmoved s) (item_questions b item) s _ (same s _, tt) λ _. same s _) (λ p e r. let z : ◌≡◌ {A = ℕ} 0 1 = cc in absurd (omega arith))

pub passes_kept : (b : Setup) {h : History} {s : State} → Leads b h s → PassInv s h
passes_kept b from_new = pass_new b
passes_kept b (one_more call before) = step_passes (passes_kept b before) b call
