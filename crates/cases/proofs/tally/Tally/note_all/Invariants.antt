use Rattle.std.proofs.Common.{◌≡◌, List, length}
use Rattle.std.specs.List.{AllByRecursion}
use Rattle.cases.specs.declared.answers.Answer.{Answer}
use Rattle.cases.specs.Counting.{IsWritable, all_written, all_noted, Noted}
use Rattle.cases.proofs.tally.Tally.note_all.Given as goal

abbrev pub invariant-loop-rest : goal.invariant-loop-rest
invariant-loop-rest l = record {
  noted : (more : List Answer) → l.rest ≡ all_written more → Noted l.initial.self l.text (all_noted l.self more);
  each : (answers : List Answer) → AllByRecursion IsWritable answers → l.text ≡ all_written answers → (more : List Answer) × AllByRecursion IsWritable more × (l.rest ≡ all_written more);
}

abbrev pub decreases-loop-rest : goal.decreases-loop-rest
decreases-loop-rest l = length l.rest
