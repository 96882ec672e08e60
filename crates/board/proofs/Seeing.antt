-- What is seen of an item in its slots.
use Rattle.std.proofs.Common.{◌≡◌, ℕ, zero, suc, ◌<◌, Bool, true, false, cond, List, [], ◌∷◌, ◌++◌, replicate, Ok, Option, refl, ap, ◌∙◌}
use Rattle.std.proofs.lemmas.Bool.{ltb-true}
use Rattle.calls.specs.declared.call.Call.TheVariants.{Show}
use Rattle.calls.specs.declared.reply.Reply.TheVariants.{Code}
use Rattle.rules.specs.declared.findings.Findings.{Findings}
use Rattle.history.specs.State.{Setup, State, Version as Kept, at_rest}
use Rattle.history.specs.Steps.{newest, item_questions}
use Rattle.board.specs.Contents.{Contents, setup_of}
use Rattle.board.specs.Lists.{slots_of}
use Rattle.board.specs.Holding.{Holds, Stepped}
use Rattle.board.specs.Looks.{ItemAsked}
use Rattle.board.proofs.Doing.{steps}
use Rattle.board.proofs.Opening.{asked_yes}

newest_rests : (b : Setup) (test : Kept → Bool) (n : ℕ) → newest b test (replicate n (at_rest b)) ≡ at_rest b
newest_rests b test zero = refl
newest_rests b test (suc n) = elim (test (at_rest b)) as (λ k. cond k (at_rest b) (newest b test (replicate n (at_rest b))) ≡ at_rest b) [ true ↦ refl | false ↦ newest_rests b test n ]

newest_padded : (b : Setup) (test : Kept → Bool) (n : ℕ) (vs : List Kept) → newest b test (vs ++ replicate n (at_rest b)) ≡ newest b test vs
newest_padded b test n [] = newest_rests b test n
newest_padded b test n (v ∷ vs) = ap (cond (test v) v) (newest_padded b test n vs)

module _ {R : Type 0} (answers : R → Findings → Option ℕ) (before : Contents R) where
  -- the newest version that passes a test is the same in the slots and in the state
  pub seen : (item at : ℕ) (slots : List Kept) (test : Kept → Bool) (s : State) → Holds before s → at ≡ item → item < before.items → slots ≡ slots_of before.versions at
      → newest (setup_of answers before) test slots ≡ newest (setup_of answers before) test (s.items item).versions
  seen item at slots test s k e lt is =
      let b = setup_of answers before in
      ap (newest b test) (is ∙ ap (slots_of before.versions) e) ∙ ap (newest b test) (k.lists item lt) ∙ newest_padded b test _ (s.items item).versions

  pub shows : (item at code : ℕ) (slots : List Kept) (s : State) → Holds before s → ItemAsked (setup_of answers before) item s (Ok at)
      → slots ≡ slots_of before.versions at
      → code ≡ (newest (setup_of answers before) (λ _. true) slots).code
      → Stepped answers before before (Show item) (Ok (Code code)) s
  shows item at code slots s k (e, ok) is told =
      let b = setup_of answers before in
      steps answers before before (Show item) (Ok (Code code)) s _ refl (asked_yes (item_questions b item) s _ ok)
      (ap (λ n. Ok (Code n)) (told ∙ ap (λ (v : Kept). v.code) (seen item at slots (λ _. true) s k e (ltb-true item before.items ok.0) is))) k
