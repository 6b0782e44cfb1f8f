use Rattle.spectro_notions.proofs.Holding.{NotionHolds-below}
use Rattle.spectro_notions.proofs.laws.notions_below_hold_more.Goals as goal

pub returns : goal.returns
returns c = NotionHolds-below
