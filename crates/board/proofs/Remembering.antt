-- Slots within the version memory.
use Rattle.std.proofs.Common.{◌≡◌, ℕ, ◌+◌, ◌-◌, ◌*◌, ◌≤◌, List, ◌++◌, length, take, drop, sym, refl, ap, ◌∙◌, subst, ⊎_elim, arith, take-append-drop}
use borrow.Rule.Slice.PartMut.{put_mid}
use Rattle.std.specs.List.{AllByRecursion}
use Rattle.std.proofs.lemmas.Bool.{cases_order}
use Rattle.std.proofs.lemmas.List.{take_at, drop_at, length-take-le, length-append, length-drop, take-append-le, drop-append-le, take-map, drop-map}
use Rattle.std.proofs.ByRecursion.{All-append, All-take, All-drop}
use Rattle.std.proofs.lemmas.Slice.{drop-put_mid}
use Rattle.versions.specs.declared.version.Version.{Version}
use Rattle.history.specs.Steps.{down_to_anchor, insert_version}
use Rattle.versions.specs.Slots.{as_code, as_codes, padded, rest_version}
use Rattle.versions.specs.Plans.{Stored}
use Rattle.board.specs.Contents.{Contents, with_versions}
use Rattle.board.specs.Lists.{slots_of}
use Rattle.board.specs.Holding.{rest_of}
use Rattle.board.specs.Memory.{StoredAt}

module _ {X : Type 0} (item : ℕ) (xs ys : List X) (fits : 8 * item + 8 ≤ length xs) (eight : length ys ≡ 8) where
  head_long : length (take (8 * item) xs) ≡ 8 * item
  head_long = length-take-le (8 * item) xs (omega arith)

  pub slots_here : slots_of (put_mid (8 * item) (8 * item + 8 - 8 * item) xs ys) item ≡ ys
  slots_here = ap (take 8) (drop_at (take (8 * item) xs) _ (8 * item) head_long) ∙ take_at ys _ 8 eight

  -- what lies within the front is not touched
  front : (p q : List X) (j : ℕ) → j + 8 ≤ length p → take 8 (drop j (p ++ q)) ≡ take 8 (drop j p)
  front p q j le = ap (take 8) (drop-append-le j p q (omega arith)) ∙ take-append-le 8 (drop j p) q (omega (arith, length-drop j p))

  pub slots_elsewhere : (other : ℕ) → (other ≡ item → ⊥) → slots_of (put_mid (8 * item) (8 * item + 8 - 8 * item) xs ys) other ≡ slots_of xs other
  slots_elsewhere other far = ⊎_elim
      (λ e. absurd (far e))
      (⊎_elim
      (λ lower. front (take (8 * item) xs) _ (8 * other) (omega (arith, head_long)) ∙ sym (front (take (8 * item) xs) (drop (8 * item) xs) (8 * other) (omega (arith, head_long))) ∙ ap (λ l. slots_of l other) (take-append-drop (8 * item) xs))
      (λ higher. ap (take 8) (drop-put_mid (8 * item) (8 * item + 8 - 8 * item) xs ys (8 * other) (omega arith) (omega arith) (omega arith))))
      (cases_order other item)

  pub memory_long : length (put_mid (8 * item) (8 * item + 8 - 8 * item) xs ys) ≡ length xs
  memory_long =
      length-append (take (8 * item) xs) _
      ∙ omega (arith, head_long, length-append ys (drop (8 * item + 8 - 8 * item) (drop (8 * item) xs)), length-drop (8 * item + 8 - 8 * item) (drop (8 * item) xs), length-drop (8 * item) xs)

  pub memory_all : (P : X → Type 0) → AllByRecursion P xs → AllByRecursion P ys → AllByRecursion P (put_mid (8 * item) (8 * item + 8 - 8 * item) xs ys)
  memory_all P all new = All-append P (take (8 * item) xs) _ (All-take P (8 * item) xs all) (All-append P ys _ new (All-drop P (8 * item + 8 - 8 * item) _ (All-drop P (8 * item) xs all)))

-- the slots of an item, told by codes
pub told : {S : Type 0} (coded : S → ℕ) (item : ℕ) (memory : List (Version S)) → slots_of (as_codes coded memory) item ≡ as_codes coded (slots_of memory item)
told coded item memory = ap (take 8) (drop-map (as_code coded) (8 * item) memory) ∙ take-map (as_code coded) 8 (drop (8 * item) memory)

-- one item's slots are stored into: what the board then tells of them
module _ {S : Type 0} (state : S → Type 0) (coded : S → ℕ) (rest : S) (item : ℕ) (new : Version S) (least : ℕ) (mem slots : List (Version S)) (fits : 8 * item + 8 ≤ length mem)
    (st : Stored state coded rest (take (8 * item + 8 - 8 * item) (drop (8 * item) mem)) slots new least) where
  abbrev pub left : List (Version S)
  left = put_mid (8 * item) (8 * item + 8 - 8 * item) mem slots

  stored : Stored state coded rest (slots_of mem item) slots new least
  stored = subst (λ n. Stored state coded rest (take n (drop (8 * item) mem)) slots new least) (let e : 8 * item + 8 - 8 * item ≡ 8 = omega arith in e) st

  was_eight : length (slots_of mem item) ≡ 8
  was_eight = length-take-le 8 (drop (8 * item) mem) (omega (arith, length-drop (8 * item) mem))

  eight : length slots ≡ 8
  eight = stored.long ∙ was_eight

  pub long_left : length left ≡ length mem
  long_left = memory_long item mem slots fits eight

  pub states_left : AllByRecursion (λ (v : Version S). state v.state) mem → state new.state → state rest → AllByRecursion (λ (v : Version S). state v.state) left
  states_left all n r = memory_all item mem slots fits eight (λ (v : Version S). state v.state) all (stored.states (All-take (λ (v : Version S). state v.state) 8 _ (All-drop (λ (v : Version S). state v.state) (8 * item) mem all)) n r)

  pub stored_at : {R : Type 0} (before after : Contents R) → before.rest ≡ coded rest → before.versions ≡ as_codes coded mem → after ≡ with_versions before (as_codes coded left) → StoredAt before after item (as_code coded new) least
  stored_at before after resting was is = subst (λ z. StoredAt before z item (as_code coded new) least) (sym is) (record {
    only = refl;
    here = λ room.
        let own = ap (λ m. slots_of m item) was ∙ told coded item mem in
        told coded item left ∙ ap (as_codes coded) (slots_here item mem slots fits eight)
        ∙ stored.list (subst (λ l. length (insert_version (as_code coded new) (down_to_anchor least l)) ≤ length (slots_of mem item)) own (subst (λ n. length (insert_version (as_code coded new) (down_to_anchor least (slots_of before.versions item))) ≤ n) (sym was_eight) room))
        ∙ ap (λ n. padded n (as_code coded (rest_version rest)) (insert_version (as_code coded new) (down_to_anchor least (as_codes coded (slots_of mem item))))) was_eight
        ∙ ap (λ n. padded 8 (record { code = n; natural = 0; place = 0 }) (insert_version (as_code coded new) (down_to_anchor least (as_codes coded (slots_of mem item))))) (sym resting)
        ∙ ap (λ l. padded 8 (rest_of before) (insert_version (as_code coded new) (down_to_anchor least l))) (sym own);
    elsewhere = λ other far. told coded other left ∙ ap (as_codes coded) (slots_elsewhere item mem slots fits eight other far) ∙ sym (told coded other mem) ∙ ap (λ m. slots_of m other) (sym was);
  })
