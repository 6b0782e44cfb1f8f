use Rattle.std.proofs.Common.{◌≡◌, ℕ, ◌<◌, Some}
use Rattle.spectro_spec.specs.Spectrum.{notions}
use Rattle.spectro_notions.specs.Tables.{name_at}
use Rattle.spectro_notions.proofs.builtin.by_name.Given as goal

abbrev pub invariant-loop-k : goal.invariant-loop-k
invariant-loop-k l = (j : ℕ) → j < l.k → name_at notions j ≡ Some l.text → ⊥
