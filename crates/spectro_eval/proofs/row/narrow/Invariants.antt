use Rattle.spectro_eval.proofs.Meets.{HasMet}
use Rattle.spectro_eval.proofs.row.narrow.Given as goal

abbrev pub invariant-loop-k : goal.invariant-loop-k
invariant-loop-k l = HasMet l.positive l.part l.initial.row l.k l.row
