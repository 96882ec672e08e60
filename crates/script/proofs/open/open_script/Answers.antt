use Rattle.script.proofs.Newlines.{some_line}
use Rattle.script.proofs.open.open_script.Goals as goal

pub unwrap-first-requires : goal.unwrap-first-requires
unwrap-first-requires c = some_line c.args.script.now _ _ _ c.new-lines.ensures c.next_line.ensures
