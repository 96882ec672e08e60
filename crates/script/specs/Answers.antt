-- What an answer line says, and its bytes.
use Rattle.std.specs.Prelude.{ℕ, ◌-◌, min, List, [], ◌∷◌, ◌++◌, map, length, replicate, Ok, Err, decimal, Result}
use Rattle.calls.specs.Numbers.{first, second, fault_number, fault_named}
use Rattle.calls.specs.declared.fault.Fault.{Fault}
use Rattle.calls.specs.declared.reply.Reply.{Reply}
use Rattle.script.specs.Parts.{joined_by}

-- the number of the refusal, or 0
abbrev pub refusal_of : Result Reply Fault → ℕ
refusal_of (Ok reply) = 0
refusal_of (Err fault) = fault_number fault

-- a pass, a start, a code, a natural number, or what the refusal names
abbrev pub first_of : Result Reply Fault → ℕ
first_of (Ok reply) = first reply
first_of (Err fault) = fault_named fault

-- a place, or 0
abbrev pub second_of : Result Reply Fault → ℕ
second_of (Ok reply) = second reply
second_of (Err fault) = 0

-- a number's decimal digits. It stays at 9,999,999
abbrev pub shown : ℕ → List ℕ
shown n = decimal (min n 9999999)

-- four numbers parted by a space, and a newline
abbrev pub answer : ℕ → Result Reply Fault → List ℕ
answer line outcome = joined_by 32 (map shown (line ∷ refusal_of outcome ∷ first_of outcome ∷ second_of outcome ∷ [])) ++ (10 ∷ [])

-- the text at the front of 32 bytes, and zeros after it
abbrev pub padded : List ℕ → List ℕ
padded text = text ++ replicate (32 - length text) 0
