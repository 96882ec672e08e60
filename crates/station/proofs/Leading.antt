-- A list of calls leads to one state.
use Rattle.std.proofs.Common.{◌≡◌, ℕ, sym, refl, ap, ◌∙◌, arith}
use Rattle.history.specs.State.{Setup, State, new_board}
use Rattle.history.specs.Steps.{step}
use Rattle.history.specs.Log.{History, nothing, Leads, from_new, one_more}
use Rattle.history.proofs.PromiseKept.{last_step}

only_new : (b : Setup) {k : History} {s : State} → Leads b k s → k ≡ nothing → s ≡ new_board b
only_new b from_new e = refl
only_new b (one_more call leads) e = let z : ◌≡◌ {A = ℕ} 0 1 = cc in absurd (omega arith)

pub same_state : (b : Setup) {h : History} {s t : State} → Leads b h s → Leads b h t → s ≡ t
same_state b from_new other = sym (only_new b other refl)
same_state b (one_more {h = g} {s = before} call leads) other =
    let last = last_step b g call (step b call before).answer other refl in
    ap (λ z. (step b call z).after) (same_state b leads last.1) ∙ sym last.3
