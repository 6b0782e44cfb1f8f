-- Where there is no command nothing is held, and nothing is written; what comes of a command is told by `finish`.
use Rattle.std.proofs.Common.{[], refl}
use Rattle.std.specs.Prelude.{None}
use Rattle.std.proofs.KnownBytes.{Appends-nil}
use Rattle.spectro_run.proofs.Endings.{prepared-stops}
use Rattle.spectro_run.proofs.runner.perform.Goals as goal

pub returns-in-None-clause-answer : goal.returns-in-None-clause-answer
returns-in-None-clause-answer g c = rw c.in-None.is
    (record { held = λ which. None; are = λ which. refl; ends = ([], (refl, refl), Appends-nil (g.O.Sink.written c.args.out.now)) })

-- of whatever shelf it is, a demo is not prepared only where it stops
pub finish-requires-in-Some-Demo : goal.finish-requires-in-Some-Demo
finish-requires-in-Some-Demo g c = prepared-stops None _ _ _ c.demo.result (c.demo.ensures None 0 0)
