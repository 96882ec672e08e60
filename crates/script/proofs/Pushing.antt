-- Lemmas on answers that are added one after the other.
use Rattle.std.proofs.Common.{◌≡◌, ℕ, List, length, take, sym}
use Rattle.std.proofs.lemmas.List.{take_at}
use Rattle.script.specs.Answers.{padded}

-- the text at the front of the 32 bytes
pub front : (text out : List ℕ) (n : ℕ) → out ≡ padded text → n ≡ length text → take n out ≡ text
front text out n e f = rw e (take_at text _ n (sym f))
