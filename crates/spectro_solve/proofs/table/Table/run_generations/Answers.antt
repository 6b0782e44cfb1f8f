use Rattle.std.proofs.Common.{ℕ, ◌≡◌, ◌≤◌, ◌+◌, ◌*◌, ◌-◌, ◌∙◌, suc, false, refl, length, Contains, ap, sym, subst, arith}
use Rattle.std.proofs.lemmas.Nat.{mul-le}
use Rattle.std.proofs.lemmas.List.Sums.{count_by-le-length}
use Rattle.std.proofs.lemmas.List.{length-replicate}
use Rattle.spectro_spec.proofs.Members.{Contains-none}
use Rattle.spectro_solve.specs.Marks.{IsMarked}
use Rattle.spectro_solve.proofs.Changing.{no-members}
use Rattle.spectro_solve.specs.Fresh.{AreFresh}
use Rattle.spectro_solve.specs.Solving.{IsAfter}
use Rattle.spectro_solve.proofs.FreshKept.{kept-after}
use Rattle.spectro_solve.proofs.Settling.{bounded, product-low, stays-still}
use Rattle.spectro_solve.proofs.table.Table.run_generations.Goals as goal

pub loop-init : goal.loop-init
loop-init g c = record {
  after = c.requires.start;
  many = ap length c.in_ok-fresh.ensures ∙ length-replicate c.pair_count.result false ∙ c.pair_count.ensures.value;
  fresh = λ system weighing starts source. tt;
  steps = (
      let none = (bounded c.args.arena.now c.requires.source 0 c.args.self.now c.args.marks.now c.requires.start).evaluations in
      omega (arith, none));
}

pub returns-then-is_empty-clause-after : goal.returns-then-is_empty-clause-after
returns-then-is_empty-clause-after g c system weighing starts source =
    let more = length c.args.arena.now.pairs + 1 - c.loop.counter in
    let whole : c.loop.counter + more ≡ length c.args.arena.now.pairs + 1 = omega (arith, c.loop-test.true, c.pair_count-end.ensures.value) in
    subst (λ n. IsAfter weighing system c.args.arena.now.pairs n c.loop.self c.loop.marks) whole
    (stays-still weighing system starts c.args.arena.now source c.loop.counter more c.loop.self c.loop.marks none
    (c.loop.invariant.after system weighing starts source))
  where
    none : (k : ℕ) → ¬ IsMarked c.loop.marks k
    none k marked = Contains-none k (subst (λ numbers. Contains numbers k)
        (no-members c.numbers.result.now (length c.numbers.result.now) refl (sym c.if-is_empty.ensures)) ((c.numbers.ensures.members k).1 marked))

pub returns-then-is_empty-clause-bound : goal.returns-then-is_empty-clause-bound
returns-then-is_empty-clause-bound g c =
    let low = (bounded c.args.arena.now c.requires.source c.loop.counter c.loop.self c.loop.marks c.loop.invariant.after).evaluations in
    omega (arith, low, c.loop.invariant.steps, product-low c.loop.counter (length c.args.arena.now.pairs) (omega arith))

pub run_generation-requires-clause-rows : goal.run_generation-requires-clause-rows
run_generation-requires-clause-rows g c =
    (bounded c.args.arena.now c.requires.source c.loop.counter c.loop.self c.loop.marks c.loop.invariant.after).rows

pub run_generation-requires-clause-marks : goal.run_generation-requires-clause-marks
run_generation-requires-clause-marks g c =
    (bounded c.args.arena.now c.requires.source c.loop.counter c.loop.self c.loop.marks c.loop.invariant.after).marks

pub run_generation-requires-clause-room : goal.run_generation-requires-clause-room
run_generation-requires-clause-room g c =
    (bounded c.args.arena.now c.requires.source c.loop.counter c.loop.self c.loop.marks c.loop.invariant.after).room (omega arith)

pub run_generation-requires-clause-generations : goal.run_generation-requires-clause-generations
run_generation-requires-clause-generations g c =
    omega (arith, (bounded c.args.arena.now c.requires.source c.loop.counter c.loop.self c.loop.marks c.loop.invariant.after).generations)

pub run_generation-requires-clause-evaluations : goal.run_generation-requires-clause-evaluations
run_generation-requires-clause-evaluations g c =
    let known = bounded c.args.arena.now c.requires.source c.loop.counter c.loop.self c.loop.marks c.loop.invariant.after in
    let product : c.loop.counter * length c.args.arena.now.pairs ≤ 500001 * 500000 = mul-le c.loop.counter (length c.args.arena.now.pairs) 500001 500000
    (omega arith) (omega arith) in
    omega (arith, known.evaluations, known.marks, product)

pub returns-in_err-run_generation-clause-bound : goal.returns-in_err-run_generation-clause-bound
returns-in_err-run_generation-clause-bound g c =
    let known = bounded c.args.arena.now c.requires.source c.loop.counter c.loop.self c.loop.marks c.loop.invariant.after in
    omega (
      arith,
      known.evaluations,
      known.marks,
      c.loop.invariant.steps,
      c.run_generation.ensures.bound,
      count_by-le-length (λ flag. flag) c.loop.marks,
      product-low (c.loop.counter + 1) (length c.args.arena.now.pairs) (omega arith),
    )

pub loop-preserved : goal.loop-preserved
loop-preserved g c = record {
  after = λ system weighing starts source.
      let same : suc c.loop.counter ≡ c.loop.counter + 1 = omega arith in
      subst (λ n. IsAfter weighing system c.args.arena.now.pairs n c.run_generation.new.self c.run_generation.new.marks) same
      (c.in_ok-run_generation.ensures.next system weighing starts source c.loop.counter (c.loop.invariant.after system weighing starts source));
  many = c.in_ok-run_generation.ensures.fresh;
  fresh = λ system weighing starts source.
      let same : suc c.loop.counter ≡ c.loop.counter + 1 = omega arith in
      subst (λ n. AreFresh weighing system c.args.arena.now.pairs n c.run_generation.new.fresh) same
      (c.in_ok-run_generation.ensures.changed system weighing starts source c.loop.counter (c.loop.invariant.after system weighing starts source));
  steps = omega (arith, c.in_ok-run_generation.ensures.steps, c.in_ok-run_generation.ensures.evaluations, c.loop.invariant.steps);
}

pub returns-clause-after : goal.returns-clause-after
returns-clause-after g c system weighing starts source =
    let whole : c.loop.counter ≡ length c.args.arena.now.pairs + 1 = omega arith in
    subst (λ n. IsAfter weighing system c.args.arena.now.pairs n c.loop.self c.loop.marks) whole (c.loop.invariant.after system weighing starts source)

pub returns-clause-bound : goal.returns-clause-bound
returns-clause-bound g c =
    let low = (bounded c.args.arena.now c.requires.source c.loop.counter c.loop.self c.loop.marks c.loop.invariant.after).evaluations in
    omega (arith, low, c.loop.invariant.steps, product-low c.loop.counter (length c.args.arena.now.pairs) (omega arith))

pub run_generation-requires-clause-kept : goal.run_generation-requires-clause-kept
run_generation-requires-clause-kept g c k system weighing starts source x here =
    kept-after weighing system starts c.args.arena.now source c.loop.self.rows c.loop.fresh c.loop.counter
    (c.loop.invariant.after system weighing starts source).rows (c.loop.invariant.fresh system weighing starts source) k x here
