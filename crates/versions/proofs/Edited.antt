-- What slots hold after they are cleared from an index on, and after a version is put in.
use Rattle.std.proofs.Common.{◌≡◌, ℕ, suc, ◌+◌, ◌-◌, ◌<◌, ◌≤◌, List, [], ◌∷◌, ◌++◌, length, get_or, take, drop, set, replicate, sym, refl, ap, ◌∙◌, subst, append-nil, append_assoc, arith, drop-cons}
use Rattle.std.specs.List.{FoldsTo, insert}
use borrow.Rule.Slice.PartMut.{put_mid}
use Rattle.std.proofs.lemmas.List.{drop_all, take-take, length-take-le, length-drop, set_at, drop-drop}
use Rattle.std.proofs.lemmas.Slice.{between_is}

-- what calls that all give one value leave
pub filled : {X F : Type 0} (R : F → X → F → Type 0) (f last : F) (r : X) → ((x : X) (q : F) → R f x q → (q ≡ f) × (x ≡ r)) → (xs : List X) → FoldsTo R f xs last → xs ≡ replicate (length xs) r
filled R f last r each [] ran = refl
filled R f last r each (x ∷ xs) ran =
    let e = each x ran.0 ran.1 in
    ap (λ y. y ∷ xs) e.1 ∙ ap (λ l. r ∷ l) (filled R f last r each xs (subst (λ p. FoldsTo R p xs last) e.0 ran.2))

pub cleared : {X : Type 0} (xs ys : List X) (end : ℕ) (x : X) → end ≤ length xs → length ys ≡ length (take (length xs - end) (drop end xs)) → ys ≡ replicate (length ys) x → put_mid end (length xs - end) xs ys ≡ take end xs ++ replicate (length xs - end) x
cleared xs ys end x le n e =
    ap (λ l. take end xs ++ (ys ++ l)) (drop_all (length xs - end) (drop end xs) (omega (arith, length-drop end xs)))
    ∙ ap (λ l. take end xs ++ l) (append-nil ys ∙ e ∙ ap (λ k. replicate k x) (n ∙ length-take-le (length xs - end) (drop end xs) (omega (arith, length-drop end xs))))

pub put_at : {X : Type 0} (xs ys : List X) (at keep : ℕ) (new : X) → at ≤ keep → keep < length xs
    → ys ≡ drop (length (take (keep + 1 - at) (drop at xs)) - 1) (take (keep + 1 - at) (drop at xs)) ++ take (length (take (keep + 1 - at) (drop at xs)) - 1) (take (keep + 1 - at) (drop at xs))
    → set (put_mid at (keep + 1 - at) xs ys) at new ≡ insert (take keep xs) at new ++ drop (keep + 1) xs
put_at {X} xs ys at keep new le lt e =
    ap (λ (l : List X). set (take at xs ++ (l ++ drop (keep + 1 - at) (drop at xs))) at new) (e ∙ turned)
    ∙ set_at (take at xs) (get_or part (keep - at) new) (take (keep - at) (drop at xs) ++ drop (keep + 1 - at) (drop at xs)) new at (length-take-le at xs (omega arith))
    ∙ ap (λ (l : List X). take at xs ++ new ∷ (take (keep - at) (drop at xs) ++ l)) (drop-drop (keep + 1 - at) at xs ∙ ap (λ n. drop n xs) ends)
    ∙ ap (λ (l : List X). take at xs ++ new ∷ (l ++ drop (keep + 1) xs)) (between_is xs at keep)
    ∙ ap (λ (l : List X). l ++ new ∷ (drop at (take keep xs) ++ drop (keep + 1) xs)) (sym (take-take at keep xs le))
    ∙ sym (append_assoc (take at (take keep xs)) (new ∷ drop at (take keep xs)) (drop (keep + 1) xs))
  where
    part : List X
    part = take (keep + 1 - at) (drop at xs)

    long : length part ≡ keep + 1 - at
    long = length-take-le (keep + 1 - at) (drop at xs) (omega (arith, length-drop at xs))

    last : length part - 1 ≡ keep - at
    last = omega (arith, long)

    ends : at + (keep + 1 - at) ≡ keep + 1
    ends = omega arith

    -- the last of the part comes to its front
    turned : drop (length part - 1) part ++ take (length part - 1) part ≡ get_or part (keep - at) new ∷ take (keep - at) (drop at xs)
    turned =
        ap (λ n. drop n part ++ take n part) last
        ∙ ap (λ (l : List X). l ++ take (keep - at) part) (drop-cons part (keep - at) new (omega (arith, long)) ∙ ap (λ (l : List X). get_or part (keep - at) new ∷ l) (drop_all (suc (keep - at)) part (omega (arith, long))))
        ∙ ap (λ (l : List X). get_or part (keep - at) new ∷ l) (take-take (keep - at) (keep + 1 - at) (drop at xs) (omega arith))
