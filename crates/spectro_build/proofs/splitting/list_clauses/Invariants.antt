use Rattle.std.proofs.Common.{◌≡◌, ◌++◌, take}
use Rattle.spectro_build.specs.Splits.{clauses_outside, left_clauses}
use Rattle.spectro_build.proofs.splitting.list_clauses.Given as goal

-- those of the first members are there, after that of the left part
abbrev pub invariant-loop-i : goal.invariant-loop-i
invariant-loop-i l = l.clauses.items ≡ left_clauses l.split.left ++ clauses_outside l.split.mask (take l.i l.others)
