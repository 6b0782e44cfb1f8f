use Rattle.spectro_notions.specs.LineReading.{AreRead}
use Rattle.spectro_notions.proofs.words.parts_at.Given as goal

abbrev pub invariant-loop-part : goal.invariant-loop-part
invariant-loop-part l = AreRead l.text l.part-index l.part-items l.rest
