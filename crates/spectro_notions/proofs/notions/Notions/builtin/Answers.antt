use Rattle.spectro_notions.proofs.TableLemmas.{notions-IsTable}
use Rattle.spectro_notions.proofs.notions.Notions.builtin.Goals as goal

pub invariant_of-result : goal.invariant_of-result
invariant_of-result c = notions-IsTable
