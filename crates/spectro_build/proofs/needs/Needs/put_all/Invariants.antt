use Rattle.std.proofs.Common.{take}
use Rattle.spectro_build.specs.Kept.{keys_of_clauses}
use Rattle.spectro_build.specs.Needs.{ArePut}
use Rattle.spectro_build.proofs.needs.Needs.put_all.Given as goal

-- those of the first clauses were put
abbrev pub invariant-loop-clause : goal.invariant-loop-clause
invariant-loop-clause l = ArePut l.initial.self (keys_of_clauses (take l.clause-index l.clauses)) l.self
