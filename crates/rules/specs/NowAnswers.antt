use Rattle.std.specs.Prelude.{ℕ, Some, None, Option}
use Rattle.rules.specs.declared.findings.Findings.{Findings}

-- next, unless anything was missed
abbrev pub now_answers : Findings → Option ℕ
now_answers f = elim f.missed [ None ↦ Some f.next | Some missed ↦ None ]
