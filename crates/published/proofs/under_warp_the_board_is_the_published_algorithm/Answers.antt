use Rattle.published.proofs.Followed.{board_follows}
use Rattle.published.proofs.under_warp_the_board_is_the_published_algorithm.Goals as goal

pub returns : goal.returns
returns c = board_follows
