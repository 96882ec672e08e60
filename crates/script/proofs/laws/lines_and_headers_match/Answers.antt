use Rattle.script.proofs.Matching.{lines_and_headers_match}
use Rattle.script.proofs.laws.lines_and_headers_match.Goals as goal

pub returns : goal.returns
returns c = lines_and_headers_match
