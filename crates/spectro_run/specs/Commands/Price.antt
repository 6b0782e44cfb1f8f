-- What comes of `price`, of the text of a formula and what the file of weights holds, if one is asked for.
use Rattle.std.specs.Prelude.{ℕ, List, ◌++◌, Option, codes}
use Rattle.spectro_spec.specs.Price.{Price}
use Rattle.spectro_spec.specs.Pricing.{price}
use Rattle.spectro_energy.specs.declared.parts.Parts.{Parts}
use Rattle.spectro_hmltext.specs.Printed.{formula_text}
use Rattle.spectro_run.specs.Notation.{price_line}
use Rattle.spectro_run.specs.Refusals.{formula_of, weighing_of}
use Rattle.spectro_run.specs.Stages.{Outcome, After, Writes}
use Rattle.spectro_run.specs.Weighted.{parts_shown}
use Rattle.spectro_words.specs.Words.{Word}

-- two lines: the text that is printed of the formula, and its price
abbrev pub priced_text : List ℕ → Parts → Price → List ℕ
priced_text printed parts e = printed ++ codes "\n" ++ price_line parts e

-- the formula, then the weights, and then the two lines
abbrev pub price_outcome : Word → Option Word → Option (List ℕ) → Outcome
price_outcome word weights file =
    After (formula_of word)
    (λ formula. After (weighing_of weights file) (λ weighing. Writes (priced_text (formula_text formula) (parts_shown weights) (price weighing formula))))
