-- The members whose bits are set are the left part of the division of the mask.
use Rattle.std.proofs.Common.{◌≡◌, [], ◌∷◌, ◌++◌, sym, ap, ◌∙◌, subst, take, get_or, length, cond, true, false, arith, append-nil, ◌+◌}
use Rattle.std.proofs.lemmas.Bool.{eq-eqb, ne_eqb}
use Rattle.std.proofs.lemmas.List.{length-take-le, take_all, take_more}
use Rattle.std.proofs.lemmas.Nat.Bits.{shr_and_one}
use Rattle.spectro_theory.proofs.Masks.{division_at, division_at-Divides, divisions-place, has_bit, left-more, left-none}
use Rattle.spectro_pairs.specs.Explored.{IsSetWithin}
use Rattle.spectro_pairs.proofs.Sets.{left-within}
use Rattle.spectro_pairs.proofs.subsets.take_subset.Goals as goal
use Rattle.spectro_pairs.proofs.subsets.take_subset.Goals.{then-mask-i-eq1+in_ok-push, else-mask-i-eq1}

pub loop-i-init : goal.loop-i-init
loop-i-init c = c.clear.ensures.items ∙ sym (left-none c.args.mask)

pub loop-i-preserved : goal.loop-i-preserved
loop-i-preserved c =
    let done = take c.loop-i.i c.args.set.now in
    let q = get_or c.args.set.now c.loop-i.i 0 in
    let place : length done ≡ c.loop-i.i = length-take-le c.loop-i.i c.args.set.now (omega arith) in
    let more : (division_at c.args.mask (take (c.loop-i.i + 1) c.args.set.now)).left ≡ (division_at c.args.mask done).left ++ cond
    (has_bit c.args.mask c.loop-i.i) (q ∷ []) [] =
    ap (λ l. (division_at c.args.mask l).left) (take_more c.args.set.now c.loop-i.i 0 c.loop-i-test.true) ∙ left-more c.args.mask done q
    ∙ ap (λ n. (division_at c.args.mask done).left ++ cond (has_bit c.args.mask n) (q ∷ []) []) place in
    elim c.if-mask-i-eq1.branch [
      | then-mask-i-eq1+in_ok-push w ↦
          let set : has_bit c.args.mask c.loop-i.i ≡ true = eq-eqb _ 1 (sym (shr_and_one c.args.mask c.loop-i.i) ∙ w.if-mask-i-eq1.true) in
          ap (λ s. s.items) w.subset-is ∙ w.in_ok-push.ensures.ok ∙ ap (λ l. l ++ q ∷ []) c.loop-i.invariant
          ∙ sym (more ∙ ap (λ b. (division_at c.args.mask done).left ++ cond b (q ∷ []) []) set)
      | else-mask-i-eq1 w ↦
          let clear : has_bit c.args.mask c.loop-i.i ≡ false = ne_eqb _ 1 (λ e. w.if-mask-i-eq1.false (shr_and_one c.args.mask c.loop-i.i ∙ e)) in
          ap (λ s. s.items) w.subset-is ∙ c.loop-i.invariant
          ∙ sym (more ∙ ap (λ b. (division_at c.args.mask done).left ++ cond b (q ∷ []) []) clear ∙ append-nil (division_at c.args.mask done).left)
    ]

pub returns-clause-subset : goal.returns-clause-subset
returns-clause-subset c = (
  division_at c.args.mask c.args.set.now,
  divisions-place c.args.set.now c.args.mask c.requires.mask,
  sym (c.loop-i.invariant ∙ ap (λ l. (division_at c.args.mask l).left) (take_all c.loop-i.i c.args.set.now c.loop-i-test.false)),
)

pub returns-clause-within : goal.returns-clause-within
returns-clause-within c = λ states within.
    subst (IsSetWithin states) (sym (c.loop-i.invariant ∙ ap (λ l. (division_at c.args.mask l).left) (take_all c.loop-i.i c.args.set.now c.loop-i-test.false)))
    (left-within states (division_at-Divides c.args.mask c.args.set.now) within)
