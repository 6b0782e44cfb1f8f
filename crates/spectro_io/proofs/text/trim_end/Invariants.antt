use Rattle.std.proofs.Common.{◌≡◌, length, reverse}
use Rattle.spectro_io.specs.Blanks.{skip_blanks}
use Rattle.spectro_io.proofs.text.trim_end.Given as goal

abbrev pub invariant-loop-front : goal.invariant-loop-front
invariant-loop-front l = skip_blanks (reverse l.front) ≡ skip_blanks (reverse l.bytes)

abbrev pub decreases-loop-front : goal.decreases-loop-front
decreases-loop-front l = length l.front
