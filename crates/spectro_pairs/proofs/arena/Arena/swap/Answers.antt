-- The swaps stand behind the subsets, one for each member other than the state.
use Rattle.std.proofs.Common.{ℕ, ◌+◌, ◌-◌, ◌*◌, ◌^◌, ◌%◌, ◌<◌, length, get_or, Some, ap, ◌∙◌, sym, subst, arith, rules}
use Rattle.std.specs.List.{slice_get}
use Rattle.spectro_pairs.specs.Arenas.{IsSwap}
use Rattle.spectro_pairs.specs.Explored.{Explored, IsExploredFrom}
use Rattle.spectro_pairs.proofs.ArenaRows.{swap-from}
use Rattle.spectro_pairs.proofs.arena.Arena.swap.Goals as goal
use Rattle.spectro_pairs.proofs.arena.Arena.swap.Goals.{After-row}

-- a place in a row fits, and so does where it lies
place-fits : (n size : ℕ) → n < size → size * 4 < 9223372036854775808 → n < 18446744073709551616
place-fits n size within small = omega arith

offset-fits : (n size : ℕ) → n < size → size * 4 < 9223372036854775808 → n * 4 < 18446744073709551616
offset-fits n size within small = omega arith

found : (c : After-row)
    → let place = c.observation_count.result + (1 * 2 ^ length c.set-set.result.now) % 18446744073709551616 - 1 + c.others_before-others.result in
    (place < length c.row.result.now) × IsSwap c.args.self.now.pairs c.args.k c.args.i (Some (get_or c.row.result.now place 0))
found c =
    let known = c.self.invariant in
    let source = subst (IsExploredFrom known.system known.weighing known.starts) c.self.view_is known.source in
    swap-from known.system known.weighing known.starts c.args.self.now c.args.k c.args.i c.row.result.now c.observation_count.result c.state-state.result
    c.others_before-others.result
    c.set-set.result.now source (ap (λ (e : Explored). slice_get e.followers c.args.k) (sym c.self.view_is) ∙ c.row.ensures)
    (c.observation_count.ensures.count known.system known.weighing known.starts source) c.state-state.ensures.value c.set-set.ensures.value c.requires.place
    c.if-set-i.false c.set-set.ensures.few
    c.others_before-others.ensures

pub overflow_add-result : goal.overflow_add-result
overflow_add-result c =
    let fits = place-fits _ (length c.row.result.now) (found (goal.at.overflow_add-result c).After-row).0 c.row.type_inv.1 in
    search (rules, fits)

pub offset_bounds-row-from : goal.offset_bounds-row-from
offset_bounds-row-from c =
    let fits = offset-fits _ (length c.row.result.now) (found (goal.at.offset_bounds-row-from c).After-row).0 c.row.type_inv.1 in
    search (rules, fits)

pub bounds-row-from : goal.bounds-row-from
bounds-row-from c = (found (goal.at.bounds-row-from c).After-row).0

pub returns : goal.returns
returns c = (found (goal.at.returns c).After-row).1
