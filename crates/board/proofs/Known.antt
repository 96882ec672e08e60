-- Writes that are listed are of items and codes that the board has.
use Rattle.std.proofs.Common.{◌≡◌, ℕ, ◌<◌, List, [], ◌∷◌, length, get_or, sym, subst}
use Rattle.std.specs.List.{AllByRecursion}
use Rattle.std.proofs.ByRecursion.{All-get_or}
use Rattle.calls.specs.declared.write.Write.{Write}
use Rattle.history.specs.State.{Version as Kept}
use Rattle.history.specs.Steps.{list_code}
use Rattle.versions.specs.declared.version.Version.{Version}
use Rattle.versions.specs.Slots.{as_codes}
use Rattle.board.specs.declared.transaction.Transaction.{Transaction}
use Rattle.board.specs.Lists.{write_list}
use Rattle.board.specs.Sound.{WritesKnown}
use Rattle.board.proofs.Requesting.{all_listed}

module _ (items codes : ℕ) (t : Transaction) (known : WritesKnown items codes t) where
  -- each of them
  pub known_at : (ws : List Write) (k : ℕ) (d : Write) → ws ≡ write_list t → k < length ws → ((get_or ws k d).item < items) × ((get_or ws k d).code < codes)
  known_at ws k d e lt = All-get_or (λ (w : Write). (w.item < items) × (w.code < codes)) ws k d lt (subst (AllByRecursion (λ (w : Write). (w.item < items) × (w.code < codes))) (sym e) known)

  -- one more, which is known too
  pub known_more : (u : Transaction) (item code : ℕ) → item < items → code < codes → write_list u ≡ list_code item code (write_list t) → WritesKnown items codes u
  known_more u item code li lc ws =
      subst (AllByRecursion (λ (w : Write). (w.item < items) × (w.code < codes))) (sym ws) (all_listed (λ (w : Write). (w.item < items) × (w.code < codes)) item code (write_list t) (li, lc) known)

  -- the same ones
  pub known_same : (u : Transaction) → write_list u ≡ write_list t → WritesKnown items codes u
  known_same u ws = subst (AllByRecursion (λ (w : Write). (w.item < items) × (w.code < codes))) (sym ws) known

-- every stored state is told by a code that the kind has
pub codes_known : {S : Type 0} (state : S → Type 0) (coded : S → ℕ) (count : ℕ) → ((s : S) → state s → coded s < count) → (versions : List (Version S)) → AllByRecursion (λ (v : Version S). state v.state) versions
    → AllByRecursion (λ (v : Kept). v.code < count) (as_codes coded versions)
codes_known state coded count below [] k = tt
codes_known state coded count below (v ∷ vs) k = (below v.state k.0, codes_known state coded count below vs k.1)
