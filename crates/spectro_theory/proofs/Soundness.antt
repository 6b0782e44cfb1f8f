-- Where each listed price is at least the price of some distinguishing formula, so is each price that the backward step affords.
-- A step makes an observation. A split makes a conjunction: one clause for the left part, and one for each state of the right part.
use Rattle.std.proofs.Common.{ℕ, ◌≤◌, ◌≢◌, inl, inr, List, [], ◌∷◌, subst, Contains, arith}
use Rattle.spectro_spec.specs.System.{Label, System, HasStep, post}
use Rattle.spectro_spec.specs.Formula.{Formula, Clauses, see, all, no_clauses, plus, minus, Satisfies, SatisfiesEach}
use Rattle.spectro_spec.specs.Weighing.{Weighing, weight_of}
use Rattle.spectro_spec.specs.Price.{Price, IsAtMost}
use Rattle.spectro_spec.specs.Pricing.{greatest, price}
use Rattle.spectro_spec.proofs.Members.{Contains-first, Contains-later, Contains-cases, Contains-none}
use Rattle.spectro_game.specs.Update.{inverse, observe, conjoin, to_deepest, to_other, to_positive, to_negative}
use Rattle.spectro_game.specs.Divisions.{IsDivided}
use Rattle.spectro_game.specs.BackwardStep.{AttackerWins, Listing, AffordsClause, Affords}
use Rattle.spectro_spec.proofs.Membership.{Contains-first_is}
use Rattle.spectro_theory.proofs.Divided.{Contains-divided_cases}
use Rattle.spectro_spec.proofs.Successors.{post-has}
use Rattle.spectro_theory.proofs.Conjunctions.{cost, depths, second_greatest-le-greatest}

module _ (weighing : Weighing) (system : System) where
  -- the clauses cost at most b, and the positive ones no more than clauses that need not be the deepest
  pub record AreCheap (clauses : Clauses) (b : Price) : Type 0 where
    pub all : IsAtMost (cost weighing clauses) b
    pub positive : greatest (depths weighing clauses) ≤ b.other_positive

  -- cheap clauses, all true at p, one of which fails at each of the set
  pub record AreBuilt (p : ℕ) (qs : List ℕ) (b : Price) (clauses : Clauses) : Type 0 where
    pub cheap : AreCheap clauses b
    pub satisfied : SatisfiesEach system p clauses
    pub refuted : (q : ℕ) → Contains qs q → ¬ SatisfiesEach system q clauses

  AreCheap-plus : (formula : Formula) (clauses : Clauses) (b f : Price) → IsAtMost (price weighing formula) f
      → IsAtMost (inverse to_other (inverse to_positive f)) b → AreCheap clauses b → AreCheap (plus formula clauses) b
  AreCheap-plus formula _ b f low h cheap = record { all = omega arith; positive = omega arith }

  AreCheap-minus : (formula : Formula) (clauses : Clauses) (b f : Price) → IsAtMost (price weighing formula) f
      → IsAtMost (inverse to_other (inverse to_negative f)) b → AreCheap clauses b → AreCheap (minus formula clauses) b
  AreCheap-minus formula _ b f low h cheap = record { all = omega arith; positive = omega arith }

  -- cheap clauses after one that may be the deepest
  cost-deepest : (formula : Formula) (clauses : Clauses) (b f : Price) → IsAtMost (price weighing formula) f
      → IsAtMost (inverse to_deepest f) b → AreCheap clauses b → IsAtMost (cost weighing (plus formula clauses)) b
  cost-deepest formula clauses b f low h cheap = omega (arith, second_greatest-le-greatest (depths weighing clauses))

  module _ (listing : Listing) (sound : (p : ℕ) (qs : List ℕ) (e : Price) → listing p qs e → AttackerWins weighing system p qs e) where
    sound_observation : (p : ℕ) (qs : List ℕ) (label : Label) (t : ℕ) (f e : Price) → HasStep system p label t
        → AttackerWins weighing system t (post system qs label) f → IsAtMost (inverse (observe (weight_of weighing label)) f) e
        → AttackerWins weighing system p qs e
    sound_observation p qs label t f e step (formula, d, low) h = (
      see label formula,
      record {
        satisfied = (t, step, d.satisfied);
        refuted = λ q member seen. d.refuted seen.0 (post-has system qs label q seen.0 member seen.1) seen.2;
      },
      omega arith,
    )

    built_clause : (p q : ℕ) (qs : List ℕ) (b : Price) → AffordsClause listing p q b → (clauses : Clauses) × AreBuilt p qs b clauses
        → (clauses : Clauses) × AreBuilt p (q ∷ qs) b clauses
    built_clause p q qs b (inl (f, listed, h)) (clauses, built) =
        let (formula, d, low) = sound p (q ∷ []) f listed in (
          plus formula clauses,
          record {
            cheap = AreCheap-plus formula clauses b f low h built.cheap;
            satisfied = (d.satisfied, built.satisfied);
            refuted = λ s member holds. elim (Contains-cases q qs s member) [
              | inl e ↦ d.refuted s (Contains-first_is q [] s e) holds.0
              | inr later ↦ built.refuted s later holds.1
            ];
          },
        )
    built_clause p q qs b (inr (apart, (f, listed, h))) (clauses, built) =
        let (formula, d, low) = sound q (p ∷ []) f listed in (
          minus formula clauses,
          record {
            cheap = AreCheap-minus formula clauses b f low h built.cheap;
            satisfied = (d.refuted p (Contains-first p []), built.satisfied);
            refuted = λ s member holds. elim (Contains-cases q qs s member) [
              | inl e ↦ holds.0 (subst (λ x. Satisfies system x formula) e d.satisfied)
              | inr later ↦ built.refuted s later holds.1
            ];
          },
        )

    built : (p : ℕ) (qs : List ℕ) (b : Price) → ((q : ℕ) → Contains qs q → AffordsClause listing p q b)
        → (clauses : Clauses) × AreBuilt p qs b clauses
    built p [] b h = (
      no_clauses,
      record {
        cheap = record { all = omega arith; positive = omega arith };
        satisfied = tt;
        refuted = λ q member. absurd (Contains-none q member);
      },
    )
    built p (q ∷ qs) b h = built_clause p q qs b (h q (Contains-first q qs)) (built p qs b (λ s member. h s (Contains-later q qs s member)))

    sound_split : (p : ℕ) (qs left right : List ℕ) (b e : Price) → IsDivided qs left right
        → (left ≢ [] → (f : Price) × listing p left f × IsAtMost (inverse to_deepest f) b)
        → (clauses : Clauses) × AreBuilt p right b clauses → IsAtMost (inverse conjoin b) e → AttackerWins weighing system p qs e
    sound_split p qs [] right b e divided subset (clauses, made) h = (
      all clauses,
      record {
        satisfied = made.satisfied;
        refuted = λ q member holds. elim (Contains-divided_cases divided q member) [ inl none ↦ Contains-none q none | inr later ↦ made.refuted q later holds ];
      },
      omega (arith, made.cheap.all),
    )
    sound_split p qs (r ∷ left) right b e divided subset (clauses, made) h =
        let (f, listed, cost_left) = subset (λ none. cc) in
        let (formula, d, low) = sound p (r ∷ left) f listed in (
          all (plus formula clauses),
          record {
            satisfied = (d.satisfied, made.satisfied);
            refuted = λ q member holds. elim
                (Contains-divided_cases divided q member) [ inl first ↦ d.refuted q first holds.0 | inr later ↦ made.refuted q later holds.1 ];
          },
          omega (arith, cost-deepest formula clauses b f low cost_left made.cheap),
        )

    pub sound_step : (p : ℕ) (qs : List ℕ) (e : Price) → Affords weighing system listing p qs e → AttackerWins weighing system p qs e
    sound_step p qs e (inl (label, t, step, (f, listed, h))) = sound_observation p qs label t f e step (sound t (post system qs label) f listed) h
    sound_step p qs e (inr (b, (left, right, divided, subset, others), h)) = sound_split p qs left right b e divided subset (built p right b others) h
