-- What a board keeps, as numbers. Of a kind of item it needs the count of codes and the code of the rest state,
-- of an admission rule what it answers to findings.
use Rattle.std.specs.Prelude.{ℕ, Bool, cond, List, [], ◌∷◌, Option, ◌==◌}
use Rattle.calls.specs.declared.call.Class.{Class}
use Rattle.calls.specs.declared.call.Mode.{Mode}
use Rattle.calls.specs.declared.write.Write.{Write}
use Rattle.rules.specs.declared.findings.Findings.{Findings}

-- what a board is made for
pub record Setup : Type 0 where
  pub items : ℕ
  pub seats : ℕ
  pub codes : ℕ
  pub rest : ℕ
  pub rule : Findings → Option ℕ

-- a past state of an item: its code, and the natural number and place of the commit that stored it
pub record Version : Type 0 where
  pub code : ℕ
  pub natural : ℕ
  pub place : ℕ

-- versions stand by place, highest first; the newest is the head
pub record Item : Type 0 where
  pub stamp : ℕ
  pub versions : List Version

-- an open transaction
pub record Transaction : Type 0 where
  pub mode : Mode
  pub start : ℕ
  pub marked : ℕ → Bool
  pub writes : List Write

pub data Seat : Type 0 where
  empty : Seat
  held : (pass : ℕ) (class : Class) (running : Option Transaction) → Seat

-- items and seats by number
pub record State : Type 0 where
  pub clock : ℕ
  pub passes : ℕ
  pub items : ℕ → Item
  pub seats : ℕ → Seat

-- the function f, but x at i
abbrev pub put : {A : Type 0} → (ℕ → A) → ℕ → A → ℕ → A
put f i x j = cond (j == i) x (f j)

-- the rest version of an item
abbrev pub at_rest : Setup → Version
at_rest b = record { code = b.rest; natural = 0; place = 0 }

abbrev pub new_board : Setup → State
new_board b = record {
  clock = 1;
  passes = 0;
  items = λ _. record { stamp = 0; versions = at_rest b ∷ [] };
  seats = λ _. empty;
}
