use Rattle.std.proofs.Common.{ℕ, ◌≡◌, ◌<◌, length, Contains}
use Rattle.std.specs.Prelude.{◌↔◌}
use Rattle.spectro_solve.proofs.marks.Marks.all.Given as goal

abbrev pub invariant-loop-k : goal.invariant-loop-k
invariant-loop-k l = ((j : ℕ) → Contains l.numbers.items j ↔ j < l.k) × (length l.numbers.items ≡ l.k)
