-- What comes of `eval`, of the text of a formula, and what the file and that of weights hold, if one is asked for.
use Rattle.std.specs.Prelude.{ℕ, ◌↔◌, Bool, List, ◌++◌, IsTrue, Option}
use Rattle.spectro_spec.specs.System.{System}
use Rattle.spectro_spec.specs.Formula.{Formula, Satisfies}
use Rattle.spectro_spec.specs.Price.{Price}
use Rattle.spectro_spec.specs.Pricing.{price}
use Rattle.spectro_energy.specs.declared.parts.Parts.{Parts}
use Rattle.spectro_run.specs.Notation.{truth_line, price_line}
use Rattle.spectro_run.specs.Refusals.{system_of, formula_of, weighing_of}
use Rattle.spectro_run.specs.Stages.{Outcome, Stage, After, Writes}
use Rattle.spectro_run.specs.Weighted.{parts_shown}
use Rattle.spectro_words.specs.Words.{Word}
use Rattle.spectro_run.specs.declared.status.Which.TheVariants.{Left}

-- whether the formula is true at the initial state, which nothing refuses
abbrev pub truth_of : System → Formula → Stage Bool
truth_of system formula = record { Refuses = λ status. ⊥; Gives = λ truth. IsTrue truth ↔ Satisfies system system.initial formula }

-- two lines: the truth, and the price
abbrev pub eval_text : Bool → Parts → Price → List ℕ
eval_text truth parts e = truth_line truth ++ price_line parts e

-- the system, the formula, the weights, the truth, and then the two lines
abbrev pub eval_outcome : Word → Option (List ℕ) → Option Word → Option (List ℕ) → Outcome
eval_outcome word file weights weights_file =
    After (system_of Left file)
    (λ system. After (formula_of word) (λ formula. After (weighing_of weights weights_file) (λ weighing. After (truth_of system formula) (λ truth.
    Writes (eval_text truth (parts_shown weights) (price weighing formula))))))
