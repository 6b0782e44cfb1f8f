use Rattle.spectro_theory.proofs.Winning.{wins_step, wins_back}
use Rattle.spectro_theory.proofs.steps.wins_are_afforded.Goals as goal

pub returns : goal.returns
returns c = λ weighing system p qs e. (wins_step weighing system p qs e, wins_back weighing system p qs e)
