-- What comes of `size`, of what two files hold, and a limit.
use Rattle.std.specs.Prelude.{ℕ, List, ◌++◌, length, Option, codes}
use Rattle.std.specs.Fmt.{decimal}
use Rattle.spectro_game.specs.Pairs as game
use Rattle.spectro_run.specs.Comparisons.{pairs_of}
use Rattle.spectro_run.specs.Refusals.{system_of}
use Rattle.spectro_run.specs.Stages.{Outcome, After, Writes}
use Rattle.spectro_run.specs.declared.status.Which.TheVariants.{Left, Right}

-- a line of how many pairs and positions there are
abbrev pub size_line : ℕ → ℕ → List ℕ
size_line pairs positions = codes "pairs " ++ decimal pairs ++ codes ", positions " ++ decimal positions ++ codes "\n"

-- the left system, the right one, the pairs of their comparison, and then the line
abbrev pub size_outcome : Option (List ℕ) → Option (List ℕ) → ℕ → Outcome
size_outcome left right limit =
    After (system_of Left left)
    (λ first. After (system_of Right right) (λ second. After (pairs_of first second limit) (λ pairs. Writes (size_line (length pairs) (game.size pairs)))))
