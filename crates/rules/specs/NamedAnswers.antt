use Rattle.std.specs.Prelude.{ℕ, Option}
use Rattle.calls.specs.declared.header.RuleName.{RuleName}
use Rattle.calls.specs.declared.header.RuleName.TheVariants.{Now, Warp, HomeNow, HomeWarp}
use Rattle.rules.specs.declared.findings.Findings.{Findings}
use Rattle.rules.specs.HomeAnswers.{home_answers}
use Rattle.rules.specs.NowAnswers.{now_answers}
use Rattle.rules.specs.WarpAnswers.{warp_answers}

-- what each name stands for
abbrev pub named_answers : RuleName → Findings → Option ℕ
named_answers Now = now_answers
named_answers Warp = warp_answers
named_answers HomeNow = home_answers now_answers
named_answers HomeWarp = home_answers warp_answers
