use Rattle.spectro_theory.proofs.Locality.{unmarked-keeps}
use Rattle.spectro_theory.proofs.generations.unmarked_pairs_keep_their_lists.Goals as goal

pub returns : goal.returns
returns c = unmarked-keeps
