-- Rows of prices beside pairs: what a row lists, the rows of a generation, and rows that are solved.
use Rattle.std.proofs.Common.{◌≡◌, List, [], ◌∷◌, refl, arith}
use Rattle.spectro_spec.specs.System.{post}
use Rattle.spectro_spec.specs.Formula.{Formula}
use Rattle.spectro_spec.specs.Pricing.{price}
use Rattle.spectro_spec.specs.Notion.{Distinguishes}
use Rattle.spectro_spec.specs.LeastPrices.{Covers, AreLeastPrices}
use Rattle.spectro_game.specs.Pairs.{Pair}
use Rattle.spectro_game.specs.Generations.{generation}
use Rattle.spectro_game.specs.Rows.{listed_at, generation_rows, IsSolved}
use Rattle.spectro_spec.proofs.Members.{Contains-first, only_member, Contains-none}
use Rattle.spectro_spec.proofs.Pricing.{conjunctions-at_least_one}
use Rattle.spectro_spec.proofs.Samples.{one_step, true_everywhere, six}
use Rattle.spectro_game.proofs.PairExamples.{pair}

abbrev one_step_pairs : List Pair
one_step_pairs = pair 0 (1 ∷ []) ∷ pair 1 [] ∷ pair 1 (0 ∷ []) ∷ []

generation_rows-one_step : generation_rows [] one_step one_step_pairs 3 ≡ (six 1 1 0 0 0 0 ∷ []) ∷ (six 0 1 0 0 0 0 ∷ []) ∷ (six 1 2 0 0 1 1 ∷ []) ∷ []
unfolding generation_rows generation post
generation_rows-one_step = refl

listed_at-second : listed_at one_step_pairs ((six 1 1 0 0 0 0 ∷ []) ∷ (six 0 1 0 0 0 0 ∷ []) ∷ (six 1 2 0 0 1 1 ∷ []) ∷ []) 1 [] ≡ six 0 1 0 0 0 0 ∷ []
unfolding listed_at
listed_at-second = refl

listed_at-other_set : listed_at one_step_pairs ((six 1 1 0 0 0 0 ∷ []) ∷ (six 0 1 0 0 0 0 ∷ []) ∷ (six 1 2 0 0 1 1 ∷ []) ∷ []) 1 (1 ∷ []) ≡ []
unfolding listed_at
listed_at-other_set = refl

listed_at-other_state : listed_at one_step_pairs ((six 1 1 0 0 0 0 ∷ []) ∷ (six 0 1 0 0 0 0 ∷ []) ∷ (six 1 2 0 0 1 1 ∷ []) ∷ []) 0 (0 ∷ []) ≡ []
unfolding listed_at
listed_at-other_state = refl

-- the row of the first of two equal pairs
listed_at-repeated_pair : listed_at (pair 1 [] ∷ pair 1 [] ∷ []) ((six 1 1 0 0 0 0 ∷ []) ∷ (six 0 1 0 0 0 0 ∷ []) ∷ []) 1 [] ≡ six 1 1 0 0 0 0 ∷ []
unfolding listed_at
listed_at-repeated_pair = refl

listed_at-too_few_rows : listed_at one_step_pairs ((six 1 1 0 0 0 0 ∷ []) ∷ []) 1 [] ≡ []
unfolding listed_at
listed_at-too_few_rows = refl

-- from no states at all what is true everywhere distinguishes, and nothing costs less
AreLeastPrices-no_set : AreLeastPrices [] one_step 1 [] (six 0 1 0 0 0 0 ∷ [])
AreLeastPrices-no_set = record {
  rises = ((λ f member. absurd (Contains-none f member)), tt);
  prices = λ e member. only_member (λ f. (formula : Formula) × Distinguishes one_step 1 [] formula × (price [] formula ≡ f)) (six 0 1 0 0 0 0) e
      (true_everywhere, record { satisfied = tt; refuted = λ q none. absurd (Contains-none q none) }, refl) member;
  covers = λ formula d. let h = conjunctions-at_least_one [] formula in (six 0 1 0 0 0 0, Contains-first (six 0 1 0 0 0 0) [], omega arith);
  apart = λ e f e_member f_member h. only_member (λ g. g ≡ f) (six 0 1 0 0 0 0) e
      (only_member (λ g. six 0 1 0 0 0 0 ≡ g) (six 0 1 0 0 0 0) f refl f_member) e_member;
}

IsSolved-no_set : IsSolved [] one_step (pair 1 [] ∷ []) ((six 0 1 0 0 0 0 ∷ []) ∷ [])
unfolding listed_at
IsSolved-no_set p qs is_one =
    only_member (λ (x : Pair). AreLeastPrices [] one_step x.state x.set (listed_at (pair 1 [] ∷ []) ((six 0 1 0 0 0 0 ∷ []) ∷ []) x.state x.set))
    (pair 1 []) (pair p qs) AreLeastPrices-no_set is_one

-- a row that is left out lists nothing
not_IsSolved-no_rows : ¬ IsSolved [] one_step (pair 1 [] ∷ []) []
unfolding listed_at
not_IsSolved-no_rows solved =
    let least : AreLeastPrices [] one_step 1 [] [] = solved 1 [] (Contains-first (pair 1 []) []) in
    let covered : Covers [] (six 0 1 0 0 0 0) = least.covers true_everywhere (record { satisfied = tt; refuted = λ q none. absurd (Contains-none q none) }) in
    Contains-none covered.0 covered.1
