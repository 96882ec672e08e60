use Rattle.board.specs.Contents.{setup_of}
use Rattle.board.proofs.Seeing.{shows}
use Rattle.board.proofs.board.Board.show.Goals as goal

pub returns : goal.returns
returns g c h s l k =
    shows g.R.Rule.answers c.args.self.now c.args.item c.in_ok-at.at c.head_code.result _ s k (c.in_ok-at.ensures.asked s) c.slots.ensures.slots (c.head_code.ensures (setup_of g.R.Rule.answers c.args.self.now) c.slots.ensures.rest)
