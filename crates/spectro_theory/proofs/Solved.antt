-- The solved table: a generation that covers what the next one covers has the least prices, and so has each one from as many
-- rounds on as there are pairs. What a generation covers is won, since each round is sound; what is won it covers, since it
-- covers its own backward step.
use Rattle.std.proofs.Common.{ℕ, zero, suc, ◌≤◌, ◌≡◌, List, length, sym, subst, Contains}
use Rattle.spectro_spec.specs.System.{System}
use Rattle.spectro_spec.specs.Weighing.{Weighing}
use Rattle.spectro_spec.specs.Price.{Price, IsAtMost}
use Rattle.spectro_spec.specs.LeastPrices.{Covers, Rises, AreApart, AreLeastPrices}
use Rattle.spectro_game.specs.Pairs.{Pair, IsOneOf, IsClosed}
use Rattle.spectro_game.specs.BackwardStep.{AttackerWins, Affords, CoversItsStep}
use Rattle.spectro_game.specs.Generations.{Table, members_of, generation}
use Rattle.spectro_game.specs.Rows.{listed_at, IsSolved}
use Rattle.spectro_theory.proofs.PriceOrder.{IsAtMost-refl, IsAtMost-trans}
use Rattle.spectro_theory.proofs.Closures.{IsClosedByCases}
use Rattle.spectro_theory.proofs.Followers.{closed_by_cases}
use Rattle.spectro_theory.proofs.Completeness.{complete}
use Rattle.spectro_theory.proofs.Soundness.{sound_step}
use Rattle.spectro_theory.proofs.LeastLists.{least_from_cover, one_least}
use Rattle.spectro_theory.proofs.GenerationTables.{AreGenerations}
use Rattle.spectro_theory.proofs.BackwardSteps.{generation-AreGenerations, generation-rises, generation-apart}
use Rattle.spectro_theory.proofs.Ranks.{settled}
use Rattle.spectro_theory.proofs.Locality.{Affords-grows}
use Rattle.spectro_theory.proofs.Winning.{wins_step}

module _ (weighing : Weighing) (system : System) where
  -- a rising table whose members are apart, that covers its own backward step and only what is won, has the least prices
  least_from_step : (known : ℕ → List ℕ → Type 0) → IsClosedByCases system known → (table : Table)
      → ((p : ℕ) (qs : List ℕ) → Rises (table p qs)) → ((p : ℕ) (qs : List ℕ) → AreApart (table p qs))
      → ((p : ℕ) (qs : List ℕ) (e : Price) → Contains (table p qs) e → AttackerWins weighing system p qs e)
      → CoversItsStep weighing system known (members_of table)
      → (p : ℕ) (qs : List ℕ) → known p qs → AreLeastPrices weighing system p qs (table p qs)
  least_from_step known closed table rises apart sound covers p qs is_known =
      least_from_cover weighing system p qs (table p qs) (rises p qs) (apart p qs)
      (λ e covered. let (formula, d, low) = sound p qs covered.0 covered.1 in (formula, d, IsAtMost-trans low covered.2))
      (λ e win. let listed = complete weighing system known (members_of table) closed covers win.0 p qs is_known win.1 in
      (listed.0, listed.1, IsAtMost-trans listed.2 win.2))

  module _ (tables : ℕ → Table) (generations : AreGenerations weighing system tables) where
    -- each listed price is at least the price of some distinguishing formula
    wins_listed : (k p : ℕ) (qs : List ℕ) (e : Price) → Contains (tables k p qs) e → AttackerWins weighing system p qs e
    wins_listed zero p qs e member = absurd (generations.empty p qs e member)
    wins_listed (suc k) p qs e member = sound_step weighing system (members_of (tables k)) (wins_listed k) p qs e
        (generations.affords k p qs e (e, member, IsAtMost-refl e))

    module _ (rises : (k p : ℕ) (qs : List ℕ) → Rises (tables k p qs)) (apart : (k p : ℕ) (qs : List ℕ) → AreApart (tables k p qs))
        (known : ℕ → List ℕ → Type 0) (closed : IsClosedByCases system known) where
      -- a generation that covers what the next one covers has the least prices
      least_if_still : (k : ℕ) → ((p : ℕ) (qs : List ℕ) (e : Price) → known p qs → Covers (tables (suc k) p qs) e → Covers (tables k p qs) e)
          → (p : ℕ) (qs : List ℕ) → known p qs → AreLeastPrices weighing system p qs (tables k p qs)
      least_if_still k still = least_from_step known closed (tables k) (rises k) (apart k) (wins_listed k)
          (λ p qs e is_known afforded. still p qs e is_known (generations.covers k p qs e afforded))

      -- so has each generation from as many rounds on as there are pairs
      least_if_late : (pairs : List Pair) → ((x : Pair) → known x.state x.set → Contains pairs x) → (k : ℕ) → length pairs ≤ k
          → (p : ℕ) (qs : List ℕ) → known p qs → AreLeastPrices weighing system p qs (tables k p qs)
      least_if_late pairs each k late = least_if_still k
          (λ p qs e is_known covered. settled weighing system tables generations known closed pairs each k p qs e late is_known covered)

module _ (weighing : Weighing) (system : System) (pairs : List Pair) (closed : IsClosed system (IsOneOf pairs)) where
  -- a generation that the next one leaves as it is at the pairs has the least prices there
  pub generation-settled : (k : ℕ) → ((p : ℕ) (qs : List ℕ) → IsOneOf pairs p qs → generation weighing system (suc k) p qs ≡ generation weighing system k p qs)
      → (p : ℕ) (qs : List ℕ) → IsOneOf pairs p qs → AreLeastPrices weighing system p qs (generation weighing system k p qs)
  generation-settled k same =
      least_if_still weighing system (generation weighing system) (generation-AreGenerations weighing system)
      (generation-rises weighing system) (generation-apart weighing system)
      (IsOneOf pairs) (closed_by_cases system (IsOneOf pairs) closed)
      k (λ p qs e is_one covered. subst (λ es. Covers es e) (same p qs is_one) covered)

  -- as many rounds as there are pairs are enough
  pub generation-late : (k : ℕ) → length pairs ≤ k → (p : ℕ) (qs : List ℕ) → IsOneOf pairs p qs
      → AreLeastPrices weighing system p qs (generation weighing system k p qs)
  generation-late =
      least_if_late weighing system (generation weighing system) (generation-AreGenerations weighing system)
      (generation-rises weighing system) (generation-apart weighing system)
      (IsOneOf pairs) (closed_by_cases system (IsOneOf pairs) closed)
      pairs (λ x is_one. is_one)

  -- from then on nothing changes at the pairs
  pub generation-still : (j k : ℕ) → length pairs ≤ j → length pairs ≤ k → (p : ℕ) (qs : List ℕ) → IsOneOf pairs p qs
      → generation weighing system j p qs ≡ generation weighing system k p qs
  generation-still j k late later p qs is_one =
      one_least weighing system p qs (generation weighing system j p qs) (generation weighing system k p qs)
      (generation-late j late p qs is_one) (generation-late k later p qs is_one)

module _ (weighing : Weighing) (system : System) (pairs : List Pair) (rows : List (List Price))
    (closed : IsClosed system (IsOneOf pairs)) (solved : IsSolved weighing system pairs rows) where
  -- a listed price is won, so it is afforded over what is won, and solved rows list as little at the followers
  pub solved-affords : (p : ℕ) (qs : List ℕ) (e : Price) → IsOneOf pairs p qs → Contains (listed_at pairs rows p qs) e
      → Affords weighing system (members_of (listed_at pairs rows)) p qs e
  solved-affords p qs e known member = Affords-grows weighing system (AttackerWins weighing system) (members_of (listed_at pairs rows)) p qs
      (λ p' qs' f follows (formula, d, below).
      let low = (solved p' qs' (closed p qs p' qs' known follows)).covers formula d in (low.0, low.1, IsAtMost-trans low.2 below))
      e (wins_step weighing system p qs e won)
    where
      won : AttackerWins weighing system p qs e
      won = let (formula, d, paid) = (solved p qs known).prices e member in (formula, d, subst (λ f. IsAtMost f e) (sym paid) (IsAtMost-refl e))
