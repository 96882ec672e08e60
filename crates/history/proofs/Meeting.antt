-- The premises of the theorems are met on a board of two items and two seats under the rule now.
use Rattle.std.proofs.Common.{◌≡◌, ℕ, zero, suc, ◌<◌, false, List, [], ◌∷◌, ◌++◌, refl, arith, lit<, lit≤}
use Rattle.calls.specs.declared.call.Class.TheVariants.{Member}
use Rattle.calls.specs.declared.call.Mode.TheVariants.{Reader, Update}
use Rattle.calls.specs.declared.call.Call.{Call}
use Rattle.calls.specs.declared.call.Call.TheVariants.{Admit, Begin, Read, Write as Writing, Commit}
use Rattle.rules.specs.Laws.{FourLaws}
use Rattle.rules.specs.NowAnswers.{now_answers}
use Rattle.history.specs.State.{Setup, Transaction, State}
use Rattle.history.specs.Steps.{is_full}
use Rattle.history.specs.Log.{History, Leads, from_new, one_more}
use Rattle.history.specs.Premises.{PremisesMet}

-- where calls lead
pub record Way (b : Setup) : Type 0 where
  pub h : History
  pub s : State
  pub leads : Leads b h s

abbrev pub on : {b : Setup} → Way b → List Call → Way b
on w [] = w
on w (call ∷ calls) = on (record { h = _; s = _; leads = one_more call w.leads }) calls

abbrev board : Setup
board = record { items = 2; seats = 2; codes = 35; rest = 0; rule = now_answers }

abbrev admitted : Way board
admitted = on (record { h = _; s = _; leads = from_new }) (Admit 0 Member ∷ Admit 1 Member ∷ [])

abbrev about_to_commit : Way board
about_to_commit = on admitted (Begin 0 1 Update ∷ Writing 0 1 0 5 ∷ [])

-- seat 1 reads what seat 0 then changes
abbrev stale : Way board
stale = on admitted (Begin 1 2 Update ∷ Read 1 2 0 ∷ Begin 0 1 Update ∷ Writing 0 1 0 5 ∷ Commit 0 1 ∷ [])

abbrev one_write : List Call
one_write = Begin 0 1 Update ∷ Writing 0 1 0 5 ∷ Commit 0 1 ∷ []

-- a reader at seat 1 stays open while seat 0 writes item 0 over and over
abbrev crowded : Way board
crowded = on admitted (Begin 1 2 Reader ∷ one_write ++ one_write ++ one_write ++ one_write ++ one_write ++ one_write ++ one_write ++ Begin 0 1 Update ∷ Writing 0 1 0 5 ∷ [])

abbrev its : Transaction
its = record { mode = Update; start = 1; marked = λ _. false; writes = record { item = 0; code = 5 } ∷ [] }

roomy : (item : ℕ) → item < 2 → is_full board about_to_commit.s its 2 item ≡ false
roomy zero lt = refl
roomy (suc zero) lt = refl
roomy (suc (suc item)) lt = absurd (omega arith)

pub premises_met : FourLaws now_answers → PremisesMet
premises_met laws = record {
  b = board;
  lawful = record { some_items = lit≤ tt; few_items = lit≤ tt; some_seats = lit≤ tt; few_seats = lit≤ tt; two_codes = lit≤ tt; rest_code = lit< tt; lawful_rule = laws };
  goes_through = record {
    h = about_to_commit.h;
    s = about_to_commit.s;
    leads = about_to_commit.leads;
    seat = 0;
    pass = 1;
    class = Member;
    x = its;
    commits = record { known_seat = lit< tt; open_there = refl; updates = refl; time_left = lit< tt };
    none_missed = refl;
    room = roomy;
    item = 0;
    code = 5;
    known = lit< tt;
    writes = refl;
  };
  rule_refuses = record { h = stale.h; s = stale.s; leads = stale.leads; seat = 1; pass = 2; refused = refl };
  list_is_full = record { h = crowded.h; s = crowded.s; leads = crowded.leads; seat = 0; pass = 1; refused = refl };
}
