use Rattle.std.proofs.Common.{◌≡◌, ◌++◌, ℕ, List, length}
use Rattle.spectro_lines.specs.Feeding.{Takes}
use Rattle.spectro_lines.proofs.feed.Feed.take_bytes.Given as goal

-- these bytes were taken, and the others are left
abbrev pub invariant-loop-line : goal.invariant-loop-line
invariant-loop-line g l = (bytes : List ℕ) × (l.piece ≡ bytes ++ l.rest) × Takes g.G.Grammar.form l.initial.self l.self bytes

abbrev pub decreases-loop-line : goal.decreases-loop-line
decreases-loop-line g l = length l.rest
