use Rattle.std.proofs.Common.{length}
use Rattle.spectro_hmltext.proofs.CharacterLaws.{IsWalked}
use Rattle.spectro_hmltext.proofs.quoted_label.label_end.Given as goal

abbrev pub invariant-loop-taken : goal.invariant-loop-taken
invariant-loop-taken l = IsWalked l.inside l.bytes l.rest

abbrev pub decreases-loop-taken : goal.decreases-loop-taken
decreases-loop-taken l = length l.rest
