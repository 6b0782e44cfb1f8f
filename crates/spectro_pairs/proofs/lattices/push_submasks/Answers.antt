-- Each submask is the next of the one before.
use Rattle.std.proofs.Common.{ℕ, ◌≡◌, ◌+◌, ◌-◌, ◌<◌, ◌≤◌, ◌∙◌, ◌++◌, ◌∷◌, [], append-nil, append_assoc, bit_and, get_or, length, sym, ap, subst, arith}
use Rattle.spectro_rows.specs.Rows.{RowList}
use Rattle.spectro_pairs.specs.Lattices.{numbers_to, submask}
use Rattle.spectro_pairs.proofs.Submasks.{numbers-more, submask-first, submask-next, submask-within}
use Rattle.spectro_pairs.proofs.lattices.push_submasks.Goals as goal
use Rattle.spectro_pairs.proofs.lattices.push_submasks.Goals.{In-loop}

pub loop-init : goal.loop-init
unfolding numbers_to
loop-init c = record {
  at = sym (submask-first c.args.mask);
  pushed = ap (λ l. record c.args.followers.now { last = l }) (sym (append-nil c.args.followers.now.last));
}

-- the submask is within the mask
within : (c : In-loop) → c.loop.submask ≤ c.args.mask
within c = subst (λ s. s ≤ c.args.mask) (sym c.loop.invariant.at) (submask-within c.args.mask c.loop.counter)

pub overflow_add-submask : goal.overflow_add-submask
overflow_add-submask c = omega (arith, within c)

pub overflow_add-submask-in-loop : goal.overflow_add-submask-in-loop
overflow_add-submask-in-loop c = omega (arith, within c)

-- the next one
next : (c : In-loop) → bit_and (c.loop.submask + (524287 - c.args.mask) + 1) c.args.mask ≡ submask c.args.mask (c.loop.counter + 1)
next c =
    let e : c.loop.counter + 1 - 1 ≡ c.loop.counter = omega arith in
    ap (λ s. bit_and (s + (524287 - c.args.mask) + 1) c.args.mask) (c.loop.invariant.at ∙ ap (submask c.args.mask) (sym e))
    ∙ submask-next c.args.mask (c.loop.counter + 1) (omega arith)

pub bounds-table-submask : goal.bounds-table-submask
bounds-table-submask c =
    let at = (goal.at.bounds-table-submask c).In-loop in
    subst (λ s. s < length c.args.table.now) (sym (next at)) (c.requires.within (c.loop.counter + 1) (omega arith) (omega (arith, c.loop-test.true)))

pub loop-preserved : goal.loop-preserved
loop-preserved c =
    let f = c.args.followers.now in
    let table = c.args.table.now in
    let mask = c.args.mask in
    let n = c.loop.counter in
    let is = next (goal.at.loop-preserved c).In-loop in
    let k = get_or table (bit_and (c.loop.submask + (524287 - mask) + 1) mask) 0 in
    let numbers : numbers_to table mask n ++ k ∷ [] ≡ numbers_to table mask (n + 1) =
    ap (λ s. numbers_to table mask n ++ get_or table s 0 ∷ []) is ∙ sym (numbers-more table mask n) in
    record {
      at = is;
      pushed =
          c.in_ok-push.ensures.ok ∙ ap (λ (r : RowList ℕ). record r { last = r.last ++ k ∷ [] }) c.loop.invariant.pushed
          ∙ ap (λ l. record f { last = l }) (append_assoc f.last (numbers_to table mask n) (k ∷ []) ∙ ap (λ l. f.last ++ l) numbers);
    }
