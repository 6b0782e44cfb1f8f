use Rattle.std.proofs.Common.{arith}
use Rattle.spectro_spec.specs.Spectrum.{notions}
use Rattle.spectro_notions.proofs.TableLemmas.{no_name}
use Rattle.spectro_notions.proofs.builtin.by_name.Goals as goal

pub returns : goal.returns
returns c = no_name notions c.args.text.now (λ k below. c.loop-k.invariant k (omega (arith, below)))
