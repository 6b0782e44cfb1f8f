-- How small prices are: a conjunction is in each, and to tell a state from some others takes an observation too.
-- Each way to afford a price begins at a follower, and a follower by a split is told from some others as well.
use Rattle.std.proofs.Common.{ℕ, zero, suc, ◌≢◌, ◌≤◌, inl, inr, List, [], ◌∷◌, Contains, refl, subst, arith}
use Rattle.spectro_spec.specs.System.{System, post}
use Rattle.spectro_spec.specs.Weighing.{Weighing}
use Rattle.spectro_spec.specs.Price.{Price, IsAtMost}
use Rattle.spectro_spec.proofs.Members.{Contains-first, Contains-none}
use Rattle.spectro_game.specs.BackwardStep.{Affords, AffordsClause, AffordsSplit, Listing}
use Rattle.spectro_game.specs.Generations.{generation, members_of}
use Rattle.spectro_theory.specs.LawsOfGenerations.{floor_price, NoStepWeighsLess}
use Rattle.spectro_theory.proofs.BackwardSteps.{backward_step-affords}
use Rattle.spectro_theory.proofs.Divided.{Contains-divided_cases}
use Rattle.spectro_theory.proofs.PriceOrder.{IsAtMost-refl}

-- the price has a conjunction, and to tell from some states an observation of at least this weight
record IsHigh (least : ℕ) (qs : List ℕ) (e : Price) : Type 0 where
  conjunctions : 1 ≤ e.conjunctions
  observations : qs ≢ [] → 1 ≤ e.observations
  weighted_depth : qs ≢ [] → least ≤ e.weighted_depth

module _ (weighing : Weighing) (system : System) (least : ℕ) (light : NoStepWeighsLess weighing system least) where
  module _ (listing : Listing) (high : (p : ℕ) (qs : List ℕ) (e : Price) → listing p qs e → IsHigh least qs e) where
    high-clause : (p q : ℕ) (b : Price) → AffordsClause listing p q b → (1 ≤ b.observations) × (least ≤ b.weighted_depth)
    high-clause p q b (inl (f, listed, low)) =
        let h = high p (q ∷ []) f listed in
        (omega (arith, h.observations (λ none. cc), low), omega (arith, h.weighted_depth (λ none. cc), low))
    high-clause p q b (inr (apart, (f, listed, low))) =
        let h = high q (p ∷ []) f listed in
        (omega (arith, h.observations (λ none. cc), low), omega (arith, h.weighted_depth (λ none. cc), low))

    high-split : (p : ℕ) (qs : List ℕ) (b : Price) → qs ≢ [] → AffordsSplit listing p qs b → (1 ≤ b.observations) × (least ≤ b.weighted_depth)
    high-split p [] b some split = absurd (some refl)
    high-split p (q ∷ qs) b some (left, right, divided, deepest, others) = elim (Contains-divided_cases divided q (Contains-first q qs)) [
      | inl member ↦ (let inside : left ≢ [] = (λ none. Contains-none q (subst (λ l. Contains l q) none member)) in
          let (f, listed, low) = deepest inside in
          let h = high p left f listed in
          (omega (arith, h.observations inside, low), omega (arith, h.weighted_depth inside, low)))
      | inr among ↦ high-clause p q b (others q among)
    ]

    high-afforded : (p : ℕ) (qs : List ℕ) (e : Price) → Affords weighing system listing p qs e → IsHigh least qs e
    high-afforded p qs e (inl (label, t, step, (f, listed, low))) =
        let h = high t (post system qs label) f listed in
        record {
          conjunctions = omega (arith, h.conjunctions, low);
          observations = λ some. omega (arith, low);
          weighted_depth = λ some. omega (arith, light p t label step, low);
        }
    high-afforded p qs e (inr (b, split, low)) = record {
      conjunctions = omega (arith, low);
      observations = λ some. omega (arith, (high-split p qs b some split).0, low);
      weighted_depth = λ some. omega (arith, (high-split p qs b some split).1, low);
    }

  generation-high : (k p : ℕ) (qs : List ℕ) (e : Price) → Contains (generation weighing system k p qs) e → IsHigh least qs e
  unfolding generation
  generation-high zero p qs e member = absurd (Contains-none e member)
  generation-high (suc k) p qs e member =
      high-afforded (members_of (generation weighing system k)) (generation-high k) p qs e
      (backward_step-affords weighing system (generation weighing system k) p qs e (e, member, IsAtMost-refl e))

  pub generation-floor : (k p : ℕ) (qs : List ℕ) (e : Price) → Affords weighing system (members_of (generation weighing system k)) p qs e
      → (1 ≤ e.conjunctions) × (qs ≢ [] → IsAtMost (floor_price least) e)
  generation-floor k p qs e afforded =
      let h = high-afforded (members_of (generation weighing system k)) (generation-high k) p qs e afforded in
      (h.conjunctions, λ some. let at : IsAtMost (floor_price least) e = omega (arith, h.conjunctions, h.observations some, h.weighted_depth some) in at)
