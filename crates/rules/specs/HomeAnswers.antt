use Rattle.std.specs.Prelude.{ℕ, cond, Some, None, Option, nat_lt}
use Rattle.calls.specs.declared.call.Class.TheVariants.{Member, Guest}
use Rattle.rules.specs.declared.findings.Findings.{Findings}

-- an answer without the places below next
abbrev pub not_below : ℕ → Option ℕ → Option ℕ
not_below next None = None
not_below next (Some place) = cond (nat_lt place next) None (Some place)

-- the answer from below, for a guest without the places below next
abbrev pub home_answers : (Findings → Option ℕ) → Findings → Option ℕ
home_answers below f = elim f.class [ Member ↦ below f | Guest ↦ not_below f.next (below f) ]
