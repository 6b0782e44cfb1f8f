-- An observation takes one key, and a split those of its clauses.
use Rattle.std.proofs.Common.{sym, subst}
use Rattle.std.proofs.lemmas.Result.{on_ok_weaker}
use Rattle.spectro_build.specs.Kept.{keys_taken}
use Rattle.spectro_build.specs.Needs.{ArePut}
use Rattle.spectro_build.proofs.KeySets.{put-one}
use Rattle.spectro_build.proofs.needs.Needs.take.Goals as goal

pub returns-in-Observed : goal.returns-in-Observed
returns-in-Observed c = on_ok_weaker c.put.result
    (λ put. subst (λ chosen. ArePut c.args.self.now (keys_taken c.args.clauses.now chosen) c.put.new.self) (sym c.in-Observed.is)
    (put-one c.args.self.now c.put.new.self c.in-Observed.seen.next put))
    c.put.ensures
