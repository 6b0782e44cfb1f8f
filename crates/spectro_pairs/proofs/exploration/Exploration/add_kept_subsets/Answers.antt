-- The subsets of the set are at the submasks of its mask.
use Rattle.std.proofs.Common.{ℕ, ◌≡◌, ◌<◌, ◌≤◌, ◌^◌, ◌-◌, ◌*◌, ◌%◌, length, arith, lit<, refl, subst, sym, ap, ◌∙◌, List}
use Rattle.std.proofs.Math.Nat.{one-le-pow, pow-le-pow_right}
use Rattle.std.proofs.lemmas.Result.{on_ok_weaker}
use Rattle.spectro_theory.proofs.Places.{stands-below}
use Rattle.spectro_pairs.specs.Growth.{pair_of}
use Rattle.spectro_pairs.specs.Lattices.{numbers_to, submask}
use Rattle.spectro_pairs.proofs.Growths.{opened}
use Rattle.spectro_pairs.proofs.SubsetSteps.{entry-of, kept-subsets}
use Rattle.spectro_pairs.proofs.exploration.Exploration.add_kept_subsets.Goals as goal

pub table-table-requires : goal.table-table-requires
table-table-requires c =
    let placed = c.requires.lattices c.args.k c.args.place c.requires.place in
    stands-below c.args.self.now.lattices.tables.items c.args.place.table placed.table placed.kept

pub push_submasks-requires-clause-mask : goal.push_submasks-requires-clause-mask
push_submasks-requires-clause-mask c = (c.requires.lattices c.args.k c.args.place c.requires.place).small

pub push_submasks-requires-clause-within : goal.push_submasks-requires-clause-within
push_submasks-requires-clause-within c i some at_most =
    let a = c.args.self.now in
    let placed = c.requires.lattices c.args.k c.args.place c.requires.place in
    let power : 2 ^ length c.args.set.now ≤ 2 ^ 19 = pow-le-pow_right (lit< tt) c.requires.few in
    let least : 1 ≤ 2 ^ length c.args.set.now = one-le-pow (length c.args.set.now) 2 (omega arith) in
    let entry = entry-of a.pairs.pairs a.lattices.tables.items c.args.k c.args.place (pair_of c.args.state c.args.set.now) placed c.requires.here i some
    (omega (arith, power, least, at_most)) in
    subst (λ (l : List ℕ). submask c.args.place.mask i < length l) (sym (c.table-table.ensures placed.table placed.kept)) entry.within

pub returns-clause-ok : goal.returns-clause-ok
returns-clause-ok c =
    let a = c.args.self.now in
    let set = c.args.set.now in
    let mask = c.args.place.mask in
    let placed = c.requires.lattices c.args.k c.args.place c.requires.place in
    let power : 2 ^ length set ≤ 2 ^ 19 = pow-le-pow_right (lit< tt) c.requires.few in
    let numeral : 2 ^ 19 ≡ 524288 = refl in
    let count : 1 * 2 ^ length set % 4294967296 - 1 ≡ 2 ^ length set - 1 = omega arith in
    let numbers = ap (λ (l : List ℕ). numbers_to l mask (1 * 2 ^ length set % 4294967296 - 1)) (c.table-table.ensures placed.table placed.kept)
    ∙ ap (numbers_to placed.table.items mask) count in
    on_ok_weaker c.push_submasks.result
    (λ pushed. kept-subsets a c.args.state set placed.table.items mask c.push_submasks.new.followers
    (entry-of a.pairs.pairs a.lattices.tables.items c.args.k c.args.place (pair_of c.args.state set) placed c.requires.here)
    (pushed ∙ ap (opened a.followers) numbers))
    c.push_submasks.ensures
