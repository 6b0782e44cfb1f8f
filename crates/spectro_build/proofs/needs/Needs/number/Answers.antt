-- A key that is there is found, at the place where it stands.
use Rattle.std.proofs.Common.{List, subst, sym}
use Rattle.spectro_game.specs.Reached.{StandsAt}
use Rattle.spectro_build.specs.declared.key.Key.{Key}
use Rattle.spectro_build.proofs.KeySets.{found-key}
use Rattle.spectro_build.proofs.needs.Needs.number.Goals as goal

pub returns : goal.returns
returns c = subst (λ (keys : List Key). StandsAt keys c.in-Some.number c.args.key) c.self.view_is
    (found-key c.args.key c.self.inside.keys.keys c.in-Some.number (sym c.in-Some.ensures.index))
