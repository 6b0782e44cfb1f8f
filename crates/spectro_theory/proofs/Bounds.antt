-- How large prices become: in generation k each part is at most k, and the weighted depth at most 255 * k.
-- What is afforded over low prices is afforded with each part held to one round more; a listed price that nothing else is
-- at most is then equal to itself so held.
use Rattle.std.proofs.Common.{ℕ, zero, suc, ◌+◌, ◌*◌, ◌≤◌, ◌≡◌, inl, inr, min, List, [], ◌∷◌, Bool, true, false, cond, Contains, subst, arith}
use Rattle.std.specs.Str.{bytes_eq}
use Rattle.std.proofs.lemmas.List.Elements.{All-head, All-tail}
use Rattle.spectro_spec.specs.System.{Label, System, post}
use Rattle.spectro_spec.specs.Weighing.{Weighing, IsWeighing, weight_of}
use Rattle.spectro_spec.specs.Price.{Price, IsAtMost}
use Rattle.spectro_spec.specs.LeastPrices.{AreApart}
use Rattle.spectro_game.specs.Update.{inverse, to_deepest}
use Rattle.spectro_game.specs.BackwardStep.{Listing, AffordsClause, Affords}
use Rattle.spectro_game.specs.Generations.{Table, members_of, generation}
use Rattle.spectro_theory.specs.LawsOfGenerations.{ArePartsUpTo}
use Rattle.spectro_theory.proofs.PriceOrder.{IsAtMost-refl, IsAtMost-trans}
use Rattle.spectro_theory.proofs.GenerationTables.{AreGenerations}
use Rattle.spectro_theory.proofs.BackwardSteps.{generation-AreGenerations, generation-apart}

weight_of-le : (weighing : Weighing) (label : Label) → IsWeighing weighing → weight_of weighing label ≤ 255
weight_of-le [] label proper = omega arith
weight_of-le (entry ∷ weighing) label proper =
    go (bytes_eq entry.label label) (All-head (λ x. x.weight ≤ 255) entry weighing proper)
    (weight_of-le weighing label (All-tail (λ x. x.weight ≤ 255) entry weighing proper))
  where
    go : (is_it : Bool) → entry.weight ≤ 255 → weight_of weighing label ≤ 255 → cond is_it entry.weight (weight_of weighing label) ≤ 255
    go true here rest = here
    go false here rest = rest

-- k in each part, and 255 * k as the weighted depth
abbrev pub limit : ℕ → Price
limit k = record {
  observations = k;
  conjunctions = k;
  deepest_positive = k;
  other_positive = k;
  deepest_negative = k;
  negations = k;
  weighted_depth = 255 * k;
}

-- e with each part held to the limit
abbrev held : Price → Price → Price
held limit e = record {
  observations = min e.observations limit.observations;
  conjunctions = min e.conjunctions limit.conjunctions;
  deepest_positive = min e.deepest_positive limit.deepest_positive;
  other_positive = min e.other_positive limit.other_positive;
  deepest_negative = min e.deepest_negative limit.deepest_negative;
  negations = min e.negations limit.negations;
  weighted_depth = min e.weighted_depth limit.weighted_depth;
}

-- one round later, before the conjunction counts as one
abbrev split_limit : ℕ → Price
split_limit k = record (limit (k + 1)) { conjunctions = k }

module _ (weighing : Weighing) (system : System) (proper : IsWeighing weighing) (listing : Listing) (k : ℕ)
    (low : (p : ℕ) (qs : List ℕ) (e : Price) → listing p qs e → IsAtMost e (limit k)) where
  held_clause : (p q : ℕ) (b : Price) → AffordsClause listing p q b → AffordsClause listing p q (held (split_limit k) b)
  held_clause p q b (inl (f, listed, l)) = let h : IsAtMost f (limit k) = low p (q ∷ []) f listed in inl (f, listed, omega arith)
  held_clause p q b (inr (apart, (f, listed, l))) = let h : IsAtMost f (limit k) = low q (p ∷ []) f listed in inr (apart, (f, listed, omega arith))

  held_left : (p : ℕ) (left : List ℕ) (b : Price) → (f : Price) × listing p left f × IsAtMost (inverse to_deepest f) b
      → (f : Price) × listing p left f × IsAtMost (inverse to_deepest f) (held (split_limit k) b)
  held_left p left b (f, listed, l) = let h : IsAtMost f (limit k) = low p left f listed in (f, listed, omega arith)

  -- what is afforded over prices within the limit is afforded within the next limit
  held_affords : (p : ℕ) (qs : List ℕ) (e : Price) → Affords weighing system listing p qs e → Affords weighing system listing p qs (held (limit (suc k)) e)
  held_affords p qs e (inl (label, t, step, (f, listed, l))) =
      let h : IsAtMost f (limit k) = low t (post system qs label) f listed in
      let light : weight_of weighing label ≤ 255 = weight_of-le weighing label proper in
      inl (label, t, step, (f, listed, omega arith))
  held_affords p qs e (inr (b, (left, right, divided, clause, clauses), l)) =
      inr (held (split_limit k) b, (left, right, divided, (λ n. held_left p left b (clause n)), λ q member. held_clause p q b (clauses q member)), omega arith)

module _ (weighing : Weighing) (system : System) (proper : IsWeighing weighing) where
  -- tables that are generations, each with members that are apart
  tables-low : (tables : ℕ → Table) → AreGenerations weighing system tables → ((k p : ℕ) (qs : List ℕ) → AreApart (tables k p qs))
      → (k p : ℕ) (qs : List ℕ) (e : Price) → Contains (tables k p qs) e → IsAtMost e (limit k)
  tables-low tables generations apart zero p qs e member = absurd (generations.empty p qs e member)
  tables-low tables generations apart (suc k) p qs e member =
      let afforded = held_affords weighing system proper (members_of (tables k)) k (tables-low tables generations apart k) p qs e
      (generations.affords k p qs e (e, member, IsAtMost-refl e)) in
      let covered = generations.covers k p qs (held (limit (suc k)) e) afforded in
      let down : IsAtMost (held (limit (suc k)) e) e = omega arith in
      let same : covered.0 ≡ e = apart (suc k) p qs covered.0 e covered.1 member (IsAtMost-trans covered.2 down) in
      let up : IsAtMost e (held (limit (suc k)) e) = subst (λ x. IsAtMost x (held (limit (suc k)) e)) same covered.2 in
      omega arith

  generation-low : (k p : ℕ) (qs : List ℕ) (e : Price) → Contains (generation weighing system k p qs) e → IsAtMost e (limit k)
  generation-low = tables-low (generation weighing system) (generation-AreGenerations weighing system) (generation-apart weighing system)

  pub generation-ArePartsUpTo : (k p : ℕ) (qs : List ℕ) (e : Price) → Contains (generation weighing system k p qs) e → ArePartsUpTo k e
  generation-ArePartsUpTo k p qs e member = let low = generation-low k p qs e member in omega arith
