use Rattle.std.proofs.Common.{◌≡◌, ◌≤◌, ◌-◌}
use Rattle.spectro_io.proofs.ReadSoFar.{HasReadSoFar}
use Rattle.spectro_io.proofs.read.read_into.Given as goal
use Rattle.spectro_io.specs.declared.read.TheConstants.{READ_LIMIT}

abbrev pub invariant-reading : goal.invariant-reading
invariant-reading g l = record {
  front : HasReadSoFar g.I.Intake.has_taken (g.S.Source.left l.initial.source) (g.S.Source.left l.source) l.initial.intake l.intake l.taken;
  within : l.taken ≤ READ_LIMIT;
  texts : g.S.Source.texts l.source ≡ g.S.Source.texts l.initial.source;
  faults : g.S.Source.faults l.source ≡ g.S.Source.faults l.initial.source;
}

abbrev pub decreases-reading : goal.decreases-reading
decreases-reading g l = READ_LIMIT - l.taken
