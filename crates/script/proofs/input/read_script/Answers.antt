use Rattle.std.proofs.Common.{◌≡◌, ℕ, List, [], ◌++◌, take, Some, None, Option, IfSome}
use Rattle.std.specs.Option.{option_map}
use Rattle.script.proofs.input.read_script.Goals as goal

-- what `take` leaves of the bytes is read
front : {R : Type 0} (bytes_of : R → Option (List ℕ)) (inner input : R) (limit n : ℕ) (was got : List ℕ) → inner ≡ input → limit ≡ n → was ≡ [] → IfSome (option_map (take limit) (bytes_of inner)) (λ xs. got ≡ was ++ xs) → IfSome (bytes_of input) (λ bytes. got ≡ take n bytes)
front bytes_of inner input limit n was got e f g h = given (bytes_of input) (rw (e, f, g) at h) where
  given : (o : Option (List ℕ)) → IfSome (option_map (take n) o) (λ xs. got ≡ xs) → IfSome o (λ bytes. got ≡ take n bytes)
  given None k = k
  given (Some bytes) k = k

pub returns : goal.returns
returns g c = front g.R.Read.remaining c.take.result.inner c.args.input c.take.result.limit _ c.new-script.result.items c.read_to_end.new.buf.items c.take.ensures.inner c.take.ensures.limit c.new-script.ensures.items c.in_ok-read_to_end.ensures.bytes
