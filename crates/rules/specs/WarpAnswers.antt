use Rattle.std.specs.Prelude.{ℕ, cond, Some, None, Option}
use Rattle.rules.specs.declared.findings.Findings.{Findings}

-- next if nothing was missed, else the earliest missed place,
-- unless a missed version is warped or the transaction was overtaken
abbrev pub warp_answers : Findings → Option ℕ
warp_answers f =
    elim f.missed [ None ↦ Some f.next | Some missed ↦ cond f.warped None (cond f.overtaken None (Some missed)) ]
