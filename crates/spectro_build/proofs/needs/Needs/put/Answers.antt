-- The set puts a new key last.
use Rattle.std.proofs.Common.{List, subst, sym}
use Rattle.spectro_build.specs.Needs.{IsPut}
use Rattle.spectro_build.specs.declared.key.Key.{Key}
use Rattle.spectro_build.proofs.KeySets.{put-key}
use Rattle.spectro_build.proofs.needs.Needs.put.Goals as goal

pub returns : goal.returns
returns c = subst (λ (keys : List Key). IsPut keys c.args.key c.insert.new.self.keys) c.self.view_is
    (subst (IsPut c.self.inside.keys.keys c.args.key) (sym c.in_ok-insert.ensures.keys) (put-key c.self.inside.keys.keys c.args.key))
