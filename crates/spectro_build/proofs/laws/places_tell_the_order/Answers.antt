use Rattle.spectro_build.proofs.NeedKeys.{places-first}
use Rattle.spectro_build.proofs.laws.places_tell_the_order.Goals as goal

pub returns : goal.returns
returns c = places-first
