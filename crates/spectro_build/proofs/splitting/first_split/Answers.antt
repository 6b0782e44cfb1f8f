-- The loop goes through the masks in their order, and ends at the first whose clauses are all there.
use Rattle.std.proofs.Common.{◌∙◌, ◌^◌, ◌<◌, ◌≤◌, [], length, sym, ap, arith}
use Rattle.std.proofs.lemmas.Bool.{true≢false}
use Rattle.spectro_energy.specs.Energy.{price_of}
use Rattle.spectro_theory.proofs.Places.{stands-below}
use Rattle.spectro_solve.proofs.Listing.{listed-at}
use Rattle.spectro_solve.proofs.MaskBits.{power-fits-half}
use Rattle.spectro_solve.proofs.SubsetPairs.{set-is, subset-pair, subset_of}
use Rattle.spectro_build.proofs.MaskSearches.{none-more, mask-lacks, made-none, left-lacks, made-some, none-at_all}
use Rattle.spectro_build.proofs.splitting.first_split.Goals as goal

pub loop-mask-preserved-then-lacks : goal.loop-mask-preserved-then-lacks
loop-mask-preserved-then-lacks c system weighing starts source x here =
    let pairs = c.args.arena.now.pairs in
    let rows = c.args.table.now.rows in
    let e = price_of c.args.e.parts in
    let others = c.args.others.now in
    let count = c.requires.count ∙ ap length (set-is pairs c.args.k x here) in
    let whole = power-fits-half (length others) c.requires.few ∙ ap (λ n. 2 ^ n) count in
    let below : c.loop-mask.mask < 2 ^ length x.set = omega (arith, whole, c.loop-mask-test.true) in
    let each = c.requires.clauses system weighing starts source x here in
    none-more pairs rows e others x each c.loop-mask.mask below (c.loop-mask.invariant system weighing starts source x here)
    (mask-lacks pairs rows e others x each c.loop-mask.mask below (c.lacks.ensures.0 c.if-lacks.true))

pub returns-then-mask-eq0-clause-first : goal.returns-then-mask-eq0-clause-first
returns-then-mask-eq0-clause-first c system weighing starts source x here =
    let pairs = c.args.arena.now.pairs in
    let rows = c.args.table.now.rows in
    let e = price_of c.args.e.parts in
    let others = c.args.others.now in
    let count = c.requires.count ∙ ap length (set-is pairs c.args.k x here) in
    let whole = power-fits-half (length others) c.requires.few ∙ ap (λ n. 2 ^ n) count in
    let below : c.loop-mask.mask < 2 ^ length x.set = omega (arith, whole, c.loop-mask-test.true) in
    let each = c.requires.clauses system weighing starts source x here in
    made-none pairs rows e others x each c.loop-mask.mask below (λ lack. true≢false (sym (c.lacks.ensures.1 lack) ∙ c.if-lacks.false)) c.if-mask-eq0.true
    (c.loop-mask.invariant system weighing starts source x here)

pub returns-in-Some-clause-first : goal.returns-in-Some-clause-first
returns-in-Some-clause-first c system weighing starts source x here =
    let pairs = c.args.arena.now.pairs in
    let rows = c.args.table.now.rows in
    let e = price_of c.args.e.parts in
    let others = c.args.others.now in
    let count = c.requires.count ∙ ap length (set-is pairs c.args.k x here) in
    let whole = power-fits-half (length others) c.requires.few ∙ ap (λ n. 2 ^ n) count in
    let below : c.loop-mask.mask < 2 ^ length x.set = omega (arith, whole, c.loop-mask-test.true) in
    let some : 1 ≤ c.loop-mask.mask = omega (arith, c.if-mask-eq0.false) in
    let each = c.requires.clauses system weighing starts source x here in
    let together = c.subset-together.result in
    let there = subset-pair pairs c.args.k c.loop-mask.mask together x here some below c.subset-together.ensures.subset in
    let row = listed-at system weighing starts c.args.arena.now source rows together (subset_of x c.loop-mask.mask) [] there
    (omega (arith, stands-below pairs together (subset_of x c.loop-mask.mask) there, c.requires.rows)) in
    made-some pairs rows e others x each c.loop-mask.mask below some together there row
    (λ lack. true≢false (sym (c.lacks.ensures.1 lack) ∙ c.if-lacks.false)) (c.loop-mask.invariant system weighing starts source x here)
    c.in-Some.key c.in-Some.ensures.value

pub loop-mask-preserved : goal.loop-mask-preserved
loop-mask-preserved c system weighing starts source x here =
    let pairs = c.args.arena.now.pairs in
    let rows = c.args.table.now.rows in
    let e = price_of c.args.e.parts in
    let others = c.args.others.now in
    let count = c.requires.count ∙ ap length (set-is pairs c.args.k x here) in
    let whole = power-fits-half (length others) c.requires.few ∙ ap (λ n. 2 ^ n) count in
    let below : c.loop-mask.mask < 2 ^ length x.set = omega (arith, whole, c.loop-mask-test.true) in
    let some : 1 ≤ c.loop-mask.mask = omega (arith, c.if-mask-eq0.false) in
    let each = c.requires.clauses system weighing starts source x here in
    let together = c.subset-together.result in
    let there = subset-pair pairs c.args.k c.loop-mask.mask together x here some below c.subset-together.ensures.subset in
    let row = listed-at system weighing starts c.args.arena.now source rows together (subset_of x c.loop-mask.mask) [] there
    (omega (arith, stands-below pairs together (subset_of x c.loop-mask.mask) there, c.requires.rows)) in
    none-more pairs rows e others x each c.loop-mask.mask below (c.loop-mask.invariant system weighing starts source x here)
    (left-lacks pairs rows e others x each c.loop-mask.mask below some together there row c.in_default.ensures.value)

pub returns-clause-first : goal.returns-clause-first
returns-clause-first c system weighing starts source x here =
    let pairs = c.args.arena.now.pairs in
    let others = c.args.others.now in
    let count = c.requires.count ∙ ap length (set-is pairs c.args.k x here) in
    let whole = power-fits-half (length others) c.requires.few ∙ ap (λ n. 2 ^ n) count in
    none-at_all pairs c.args.table.now.rows (price_of c.args.e.parts) x c.loop-mask.mask (omega (arith, whole, c.loop-mask-test.false))
    (c.loop-mask.invariant system weighing starts source x here)
