-- The lesser of the least so far and of the next weight is the least of both.
use Rattle.std.proofs.Common.{ℕ, ◌≡◌, ◌<◌, ◌≤◌, ◌+◌, ◌⊎◌, inl, inr, List, [], ◌∷◌, Contains, length, get_or, refl, subst, arith}
use Rattle.std.proofs.lemmas.List.Elements.{All-from_get_or, Contains-get_or}
use Rattle.spectro_pairs.proofs.reaching.least_of.Goals as goal

pub loop-weight-init : goal.loop-weight-init
loop-weight-init c = record { low = λ i below. absurd (omega (arith, below)); reached = inr (omega arith, omega arith) }

pub loop-weight-preserved : goal.loop-weight-preserved
loop-weight-preserved c = record {
  low = λ i below. low i below (let h : (i < c.loop-weight.weight-index) ⊎ (i ≡ c.loop-weight.weight-index) = grind (arith, below) in h);
  reached = reached c.loop-weight.invariant.reached (let h : (c.loop-weight.least < get_or c.args.weights.now c.loop-weight.weight-index 0)
      ⊎ (get_or c.args.weights.now c.loop-weight.weight-index 0 ≤ c.loop-weight.least) = grind arith in h);
}
  where
    low : (i : ℕ) → i < c.loop-weight.weight-index + 1 → (i < c.loop-weight.weight-index) ⊎ (i ≡ c.loop-weight.weight-index)
        → c.min-least.result ≤ get_or c.args.weights.now i 0
    low i below (inl before) = omega (arith, c.loop-weight.invariant.low i before, c.min-least.ensures)
    low i below (inr last) = rw last (omega (arith, c.min-least.ensures))

    reached : ((i : ℕ) × (i < c.loop-weight.weight-index) × (get_or c.args.weights.now i 0 ≡ c.loop-weight.least))
        ⊎ ((c.loop-weight.weight-index ≡ 0) × (c.loop-weight.least ≡ 255))
        → (c.loop-weight.least < get_or c.args.weights.now c.loop-weight.weight-index 0)
        ⊎ (get_or c.args.weights.now c.loop-weight.weight-index 0 ≤ c.loop-weight.least)
        → ((i : ℕ) × (i < c.loop-weight.weight-index + 1) × (get_or c.args.weights.now i 0 ≡ c.min-least.result))
        ⊎ ((c.loop-weight.weight-index + 1 ≡ 0) × (c.min-least.result ≡ 255))
    reached (inl (i, below, is)) (inl stays) = inl (i, omega (arith, below), omega (arith, is, stays, c.min-least.ensures))
    reached (inr (none, full)) (inl stays) = absurd (omega (arith, full, stays))
    reached before (inr falls) = inl (c.loop-weight.weight-index, omega arith, omega (arith, falls, c.min-least.ensures))

pub returns : goal.returns
returns c = record {
  low = All-from_get_or (λ weight. c.loop-weight.least ≤ weight) c.args.weights.now 0
      (λ i below. c.loop-weight.invariant.low i (omega (arith, below, c.loop-weight-test.false)));
  reached = reached c.args.weights.now (omega (arith, c.loop-weight-test.false, c.loop-weight.auto.weight-index-end)) c.loop-weight.invariant.reached;
}
  where
    reached : (weights : List ℕ) → c.loop-weight.weight-index ≡ length weights
        → ((i : ℕ) × (i < c.loop-weight.weight-index) × (get_or weights i 0 ≡ c.loop-weight.least))
        ⊎ ((c.loop-weight.weight-index ≡ 0) × (c.loop-weight.least ≡ 255))
        → Contains weights c.loop-weight.least ⊎ ((weights ≡ []) × (c.loop-weight.least ≡ 255))
    reached weights all (inl (i, below, is)) = inl (subst (Contains weights) is (Contains-get_or weights i 0 (omega (arith, below, all))))
    reached [] all (inr (none, full)) = inr (refl, full)
    reached (x ∷ xs) all (inr (none, full)) = absurd (omega (arith, all, none))
