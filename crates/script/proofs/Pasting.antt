-- Lemmas on bytes that are written one after the other.
use Rattle.std.proofs.Common.{◌≡◌, ℕ, ◌+◌, ◌-◌, ◌/◌, ◌%◌, ◌^◌, ◌<◌, ◌≤◌, ◌⊎◌, inl, inr, List, [], ◌∷◌, ◌++◌, map, length, take, drop, replicate, slice_set, decimal, sym, ap, ◌∙◌, arith}
use Rattle.std.proofs.Math.Nat.{mod-eq_of_lt}
use Rattle.std.proofs.lemmas.Fmt.{decimal_digit, decimal_step}
use Rattle.std.proofs.Math.Seq.{drop-append-add}
use Rattle.std.proofs.lemmas.List.{append_assoc, length-append, length-drop, length-take-le, take-append-drop, take_more_set, drop-drop, drop-set-lt, drop-replicate}
use Rattle.script.specs.Answers.{shown, padded}
use Rattle.script.specs.Parts.{joined_by}

-- the last digit of n comes behind the others, if there are any
pub last_digit : (n : ℕ) (start now : List ℕ) → n < 2 ^ 64 → ((10 ≤ n) × (now ≡ start ++ decimal (n / 10))) ⊎ ((n < 10) × (now ≡ start)) → now ++ ((48 + n % 10) ∷ []) ≡ start ++ decimal n
last_digit n start now h (inl (more, e)) = rw (e, decimal_step n more h) (append_assoc start (decimal (n / 10)) ((48 + n % 10) ∷ []))
last_digit n start now h (inr (one, e)) = rw (e, decimal_digit n one) (ap (λ d. start ++ ((48 + d) ∷ [])) (mod-eq_of_lt one))

-- four numbers of an answer, one after the other
pub answered : (a b c d : ℕ) (s t u v w : List ℕ) → s ≡ [] → t ≡ s ++ (shown a ++ (32 ∷ [])) → u ≡ t ++ (shown b ++ (32 ∷ [])) → v ≡ u ++ (shown c ++ (32 ∷ [])) → w ≡ v ++ (shown d ++ (10 ∷ [])) → w ≡ joined_by 32 (map shown (a ∷ b ∷ c ∷ d ∷ [])) ++ (10 ∷ [])
answered a b c d s t u v w new e f g h = rw (h, g, f, e, new) (simp append_assoc)

-- where a text has grown up to `end` and nothing has changed behind that, zeros stand behind it still
pub still_padded : (was is : List ℕ) (len end : ℕ) → length was ≡ 32 → length (take end is) ≡ end → len ≤ end → end ≤ 32 → was ≡ padded (take len was) → drop end is ≡ drop end was → is ≡ padded (take end is)
still_padded was is len end long whole grown within zeros same =
    let front : length (take len was) ≡ len = length-take-le len was (omega arith) in
    let behind : drop end was ≡ replicate (32 - end) 0 =
    ap (drop end) zeros ∙ ap (λ k. drop k (padded (take len was))) (omega (arith, front)) ∙ drop-append-add (take len was) (replicate (32 - length (take len was)) 0) (end - len)
    ∙ drop-replicate (end - len) (32 - length (take len was)) 0 ∙ ap (λ n. replicate n 0) (omega (arith, front)) in
    sym (take-append-drop end is) ∙ ap (λ l. take end is ++ l) (same ∙ behind ∙ ap (λ n. replicate (32 - n) 0) (sym whole))

-- behind a text of `len` bytes, digits are put up to `at`, and a byte after them
pub record Added (was is : List ℕ) (len at : ℕ) (field : List ℕ) : Type 0 where
  pub text : take (at + 1) is ≡ take len was ++ field
  pub zeros : is ≡ padded (take (at + 1) is)

pub added : (was put digits : List ℕ) (len at end : ℕ) → length was ≡ 32 → len ≤ 32 → was ≡ padded (take len was) → at ≡ len + length digits → at < 32
    → take at put ≡ take len was ++ digits → drop at put ≡ drop at was → Added was (slice_set put at end) len at (digits ++ end ∷ [])
added was put digits len at end long within zeros there room front behind =
    let first : length (take len was) ≡ len = length-take-le len was (omega arith) in
    let more : at < length put = omega (arith, long, ap length behind, length-drop at put, length-drop at was) in
    let text : take (at + 1) (slice_set put at end) ≡ take len was ++ (digits ++ end ∷ []) = take_more_set put at end more ∙ ap (λ l. l ++ end ∷ []) front ∙ append_assoc (take len was) digits (end ∷ []) in
    let whole : length (take (at + 1) (slice_set put at end)) ≡ at + 1 = omega (arith, ap length text, length-append (take len was) (digits ++ end ∷ []), length-append digits (end ∷ []), first, there) in
    let rest : drop (at + 1) (slice_set put at end) ≡ drop (at + 1) was = drop-set-lt (at + 1) put at end (omega arith) ∙ sym (drop-drop 1 at put) ∙ ap (drop 1) behind ∙ drop-drop 1 at was in
    record { text = text; zeros = still_padded was (slice_set put at end) len (at + 1) long whole (omega (arith, there)) (omega arith) zeros rest }
