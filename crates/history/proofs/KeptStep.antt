-- Every call keeps the invariant, so it holds after every history.
use Rattle.std.proofs.Common.{◌≡◌, ℕ, refl, ap, inl, ⊎_elim, arith}
use mathlib.Core.List.Memᴰ
use Rattle.calls.specs.declared.call.Call.{Call}
use Rattle.calls.specs.declared.call.Call.TheVariants.{Admit, Revoke, Begin, Read, Write as Writing, Commit, Abandon, Show}
use Rattle.rules.specs.Laws.{FourLaws}
use Rattle.history.specs.State.{Setup, State, new_board, at_rest}
use Rattle.history.specs.Steps.{step, running_of}
use Rattle.history.specs.Log.{History, nothing, Leads, from_new, one_more, Log, log}
use Rattle.history.proofs.Invariant.{Inv, board_has}
use Rattle.history.proofs.Kept.{idle}
use Rattle.history.proofs.Asked.{with_running_cases}
use Rattle.history.proofs.KeptCalls.{Kept, admit_kept, revoke_kept, show_kept, begin_kept, read_here_kept, write_here_kept, abandon_here_kept}
use Rattle.history.proofs.KeptCommit.{commit_here_kept}

pub inv_new : (b : Setup) → Inv b (new_board b) (log nothing)
inv_new b = record {
  sound = λ g m. elim m [ ];
  arrayed = tt;
  answered = tt;
  keeps = λ i. record {
    falling = (tt, tt);
    some = (at_rest b, Memᴰ.head refl);
    from_writers = λ v m. ⊎_elim inl (λ k. elim k [ ]) (Memᴰ.cases_cons m);
    to_versions = λ g m. elim m [ ];
  };
  stamps_by = λ i. omega arith;
  real_time = λ f g m. elim m [ ];
  dropped = λ t m. elim m [ ];
  seats = λ k. tt;
  apart = λ j k t u e. let z : ◌≡◌ {A = ℕ} 0 1 = cc in absurd (omega arith);
  seated = λ k t e. let z : ◌≡◌ {A = ℕ} 0 1 = cc in absurd (omega arith);
}

module _ {b : Setup} {s : State} {l : Log} (laws : FourLaws b.rule) (inv : Inv b s l) where
  pub step_kept : (call : Call) → Kept b l call (step b call s)
  step_kept (Admit seat class) = admit_kept inv seat class
  step_kept (Revoke seat) = revoke_kept inv seat
  step_kept (Begin seat pass mode) = begin_kept inv seat pass mode
  step_kept (Read seat pass item) = with_running_cases (Kept b l (Read seat pass item)) b seat pass s _ (idle inv) (idle inv) (idle inv) (idle inv)
      λ p class x _ _ e. let t = board_has inv seat x (ap running_of e) in read_here_kept inv seat p class x e t.0 t.1.in_log t.1.both pass item
  step_kept (Writing seat pass item code) = with_running_cases (Kept b l (Writing seat pass item code)) b seat pass s _ (idle inv) (idle inv) (idle inv) (idle inv)
      λ p class x _ _ e. let t = board_has inv seat x (ap running_of e) in write_here_kept inv seat p class x e t.0 t.1.in_log t.1.both pass item code
  step_kept (Commit seat pass) = with_running_cases (Kept b l (Commit seat pass)) b seat pass s _ (idle inv) (idle inv) (idle inv) (idle inv)
      λ p class x _ _ e. let t = board_has inv seat x (ap running_of e) in commit_here_kept inv seat p class x t.0 e t.1 laws pass
  step_kept (Abandon seat pass) = with_running_cases (Kept b l (Abandon seat pass)) b seat pass s _ (idle inv) (idle inv) (idle inv) (idle inv)
      λ p class x _ _ e. let t = board_has inv seat x (ap running_of e) in abandon_here_kept inv seat p class x e t.0 t.1.in_log t.1.both pass
  step_kept (Show item) = show_kept inv item

pub invariant : (b : Setup) → FourLaws b.rule → {h : History} {s : State} → Leads b h s → Inv b s (log h)
invariant b laws from_new = inv_new b
invariant b laws (one_more call before) = step_kept laws (invariant b laws before) call
