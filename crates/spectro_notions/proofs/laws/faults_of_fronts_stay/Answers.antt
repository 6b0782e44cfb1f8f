use Rattle.spectro_notions.proofs.Texts.{fault_of_read_front}
use Rattle.spectro_notions.proofs.laws.faults_of_fronts_stay.Goals as goal

pub returns : goal.returns
returns c = fault_of_read_front
