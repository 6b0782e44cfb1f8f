use Rattle.std.proofs.Common.{subst}
use Rattle.spectro_spec.specs.System.{IsWhole}
use Rattle.spectro_lts.proofs.Numbering.{whole}
use Rattle.spectro_lts.proofs.lts.Lts.states.Goals as goal

pub returns-clause-whole : goal.returns-clause-whole
returns-clause-whole c = subst IsWhole c.self.view_is
    (whole c.self.inside.states c.self.inside.initial c.self.inside.labels.keys c.self.inside.steps.items c.self.invariant.numbered)
