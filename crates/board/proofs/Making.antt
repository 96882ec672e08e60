-- A new board.
use base.Fml.{GName}
use Rattle.std.proofs.Common.{◌≡◌, ℕ, zero, suc, ◌+◌, ◌*◌, ◌≤◌, true, leb, List, ◌∷◌, length, get_or, take, drop, replicate, None, Option, sym, refl, ap, ◌∙◌, subst, arith}
use lib.ListN.{length-replicate}
use Rattle.std.specs.List.{AllByRecursion}
use Rattle.std.proofs.lemmas.Bool.{leb-true, and_parts}
use Rattle.rules.specs.declared.findings.Findings.{Findings}
use Rattle.history.specs.State.{Version as Kept, new_board, empty}
use Rattle.versions.specs.declared.version.Version.{Version}
use Rattle.versions.specs.Slots.{rest_version}
use Rattle.versions.proofs.Laid.{all_replicate}
use Rattle.board.specs.Lists.{slots_of}
use Rattle.board.specs.Sizes.{fits}
use Rattle.board.specs.Contents.{Contents, setup_of}
use Rattle.board.specs.Sound.{SeatKnown, Sound}
use Rattle.board.specs.Holding.{Seated, Holds}

pub get_d_replicate : {X : Type 0} (n i : ℕ) (x : X) → get_or (replicate n x) i x ≡ x
get_d_replicate zero i x = refl
get_d_replicate (suc n) zero x = refl
get_d_replicate (suc n) (suc i) x = get_d_replicate n i x

take_replicate : {X : Type 0} (k n : ℕ) (x : X) → k ≤ n → take k (replicate n x) ≡ replicate k x
take_replicate zero n x le = refl
take_replicate (suc k) zero x le = absurd (omega arith)
take_replicate (suc k) (suc n) x le = ap (λ l. x ∷ l) (take_replicate k n x (omega arith))

part_replicate : {X : Type 0} (k j n : ℕ) (x : X) → j + k ≤ n → take k (drop j (replicate n x)) ≡ replicate k x
part_replicate k zero n x le = take_replicate k n x (omega arith)
part_replicate k (suc j) zero x le = absurd (omega arith)
part_replicate k (suc j) (suc n) x le = part_replicate k j n x (omega arith)

-- what the question of a setup tells
record Fits (items seats slots : ℕ) : Type 0 where
  pub some_items : 1 ≤ items
  pub few_items : items ≤ 256
  pub some_seats : 1 ≤ seats
  pub few_seats : seats ≤ 32
  pub enough : items * 8 ≤ slots

fitting : (items seats slots : ℕ) → fits items seats slots ≡ true → Fits items seats slots
fitting items seats slots e =
    let a = and_parts (leb 1 items) _ e in
    let b = and_parts (leb items 256) _ a.1 in
    let c = and_parts (leb 1 seats) _ b.1 in
    let d = and_parts (leb seats 32) _ c.1 in
    record { some_items = leb-true _ _ a.0; few_items = leb-true _ _ b.0; some_seats = leb-true _ _ c.0; few_seats = leb-true _ _ d.0; enough = leb-true _ _ d.1 }

-- the fields of a new board are sound
pub new_sound : {S : Type 0} (state : S → Type 0) (codes items seats slots : ℕ) (rest : S) (versions : List (Version S)) → state rest → fits items seats slots ≡ true → versions ≡ replicate (items * 8) (rest_version rest)
    → Sound state codes items seats (replicate 32 None) versions
new_sound {S} state codes items seats slots rest versions resting fit laid =
    let z = fitting items seats slots fit in
    record {
      some_items = z.some_items;
      few_items = z.few_items;
      some_seats = z.some_seats;
      few_seats = z.few_seats;
      memory = ap length laid ∙ length-replicate (items * 8) (rest_version rest) ∙ omega arith;
      states = subst (AllByRecursion (λ (v : Version S). state v.state)) (sym laid) (all_replicate (λ (v : Version S). state v.state) (items * 8) (rest_version rest) resting);
      known = λ seat. subst (SeatKnown items codes) (sym (get_d_replicate 32 seat None)) tt;
    }

-- a board with nothing in it but rest versions holds the new state
pub new_holds : {R : Type 0} (answers : R → Findings → Option ℕ) (items seats codes rest : ℕ) (rule : R) (versions : List Kept) (lent : (ℕ × ℕ) × GName) → versions ≡ replicate (items * 8) (record { code = rest; natural = 0; place = 0 })
    → (board : Contents R) → board ≡ record { items = items; seat_count = seats; codes = codes; rest = rest; rule = rule; clock = 1; passes = 0; stamps = replicate 256 0; seats = replicate 32 None; versions = versions; lent = lent }
    → Holds board (new_board (setup_of answers board))
new_holds {R} answers items seats codes rest rule versions lent laid board is = subst (λ (b : Contents R). Holds b (new_board (setup_of answers b))) (sym is) (record {
  clock = refl;
  passes = refl;
  stamps = λ item _. get_d_replicate 256 item 0;
  seats = λ seat _. subst (λ x. Seated items x empty) (sym (get_d_replicate 32 seat None)) tt;
  lists = λ item lt. ap (λ l. slots_of l item) laid ∙ part_replicate 8 (8 * item) (items * 8) (record { code = rest; natural = 0; place = 0 }) (omega arith);
  few_versions = λ item _. omega arith;
})
