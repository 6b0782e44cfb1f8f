use Rattle.spectro_notions.proofs.Growing.{AreNotions-nil}
use Rattle.spectro_notions.proofs.draft.Draft.new.Goals as goal

pub invariant_of-result : goal.invariant_of-result
invariant_of-result c = rw c.new.ensures.items AreNotions-nil
