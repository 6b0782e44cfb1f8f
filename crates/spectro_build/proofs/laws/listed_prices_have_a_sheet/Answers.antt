use Rattle.spectro_build.proofs.BuiltExist.{built-exists}
use Rattle.spectro_build.proofs.laws.listed_prices_have_a_sheet.Goals as goal

pub returns : goal.returns
returns c = λ weighing system pairs table wanted solved listed. built-exists weighing system pairs table solved wanted listed
