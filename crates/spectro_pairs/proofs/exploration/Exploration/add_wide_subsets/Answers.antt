-- The table is filled, and then kept.
use Rattle.std.proofs.Common.{[], ◌^◌, ◌≤◌, ◌≡◌, length, arith, lit<, refl}
use Rattle.std.proofs.Math.Nat.{pow-le-pow_right}
use Rattle.spectro_game.specs.Pairs.{subsets}
use Rattle.spectro_pairs.specs.Growth.{pair_of}
use Rattle.spectro_pairs.proofs.Growths.{has-placed}
use Rattle.spectro_pairs.proofs.SubsetSteps.{kept-more}
use Rattle.spectro_pairs.proofs.exploration.Exploration.add_wide_subsets.Goals as goal

pub keep-requires-clause-few : goal.keep-requires-clause-few
keep-requires-clause-few c =
    let power : 2 ^ length c.args.set.now ≤ 2 ^ 19 = pow-le-pow_right (lit< tt) c.requires.few in
    let numeral : 2 ^ 19 ≡ 524288 = refl in
    omega (arith, c.in_ok-fill_table.ensures.filled.count)

pub returns-clause-ok : goal.returns-clause-ok
returns-clause-ok c =
    let b = c.fill_table.new.self in
    has-placed c.args.self.now b c.keep.new.self (subsets (pair_of c.args.state c.args.set.now)) []
    (kept-more b.pairs.pairs b.lattices c.keep.new.self c.fill_table.new.table c.args.state c.args.set.now c.requires.few c.in_ok-fill_table.ensures.filled
    c.in_ok-keep.ensures.places c.in_ok-keep.ensures.tables)
    c.in_ok-fill_table.ensures.ok
