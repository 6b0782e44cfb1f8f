use Rattle.std.proofs.Common.{◌≡◌, ℕ, ◌<◌, None, Some, slice_get}
use Rattle.std.specs.Int.{bit_at}
use Rattle.spectro_build.proofs.splitting.lacks.Given as goal

-- each earlier member has a clause or is in the mask
abbrev pub invariant-loop-i : goal.invariant-loop-i
invariant-loop-i l = (j : ℕ) → j < l.i → slice_get l.others j ≡ Some None → bit_at l.mask j ≡ 0 → ⊥
