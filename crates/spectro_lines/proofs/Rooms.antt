-- The room that is left for bytes of one line.
use Rattle.std.proofs.Common.{ℕ, ◌+◌, ◌-◌, ◌<◌, min, inl, inr, arith}
use Rattle.std.specs.Prelude.{◌⊎◌}
use Rattle.std.proofs.lemmas.Bool.{cases_lt}
use Rattle.spectro_lines.specs.declared.feed.TheConstants.{MAX_HELD}

pub no_room : (limit bytes held part : ℕ) → min (limit - bytes) (MAX_HELD - held) < part → (limit < bytes + part) ⊎ (MAX_HELD < held + part)
no_room limit bytes held part less = elim (cases_lt limit (bytes + part)) [ inl over ↦ inl over | inr within ↦ inr (grind arith) ]

pub some_beyond : (room part : ℕ) → room < part → 0 < part
some_beyond room part less = omega arith
