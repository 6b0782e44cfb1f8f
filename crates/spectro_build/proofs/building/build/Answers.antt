-- What is needed is closed, in order and written, and each wanted price has the number of its need.
use Rattle.std.proofs.Common.{◌≡◌, ◌∙◌, List, All, Contains, map, sym, ap, subst, arith, Some, slice_get, []}
use Rattle.std.proofs.lemmas.List.{length-map}
use Rattle.spectro_game.specs.Rows.{listed_at}
use Rattle.spectro_build.specs.Keys.{IsKey, need_at, needs_at}
use Rattle.spectro_build.specs.Needed.{AreNeeded}
use Rattle.spectro_build.specs.Needs.{ArePut}
use Rattle.spectro_build.specs.declared.key.Key.{Key}
use Rattle.spectro_build.proofs.Buildings.{in-order, needed-put, numbered-needs, put-keyed, solved-room, sorted-keyed}
use Rattle.spectro_build.proofs.Closings.{needed-closed}
use Rattle.spectro_build.proofs.building.build.Goals as goal

pub close-requires-clause-room : goal.close-requires-clause-room
close-requires-clause-room c =
    solved-room c.args.arena.now c.args.table.now.rows c.requires.solved (omega (arith, c.pair_count.ensures.value, c.if-prove.false))

pub close-requires-clause-keys : goal.close-requires-clause-keys
close-requires-clause-keys c = put-keyed c.args.table.now.rows c.deref.result.now c.in_ok-needs.needs c.in_ok-needs.ensures
    (subst (All (IsKey c.args.table.now.rows)) (sym c.deref.ensures.value) c.in_ok-keys.ensures.keys)

pub write_nodes-requires-clause-room : goal.write_nodes-requires-clause-room
write_nodes-requires-clause-room c =
    solved-room c.args.arena.now c.args.table.now.rows c.requires.solved (omega (arith, c.pair_count.ensures.value, c.if-prove.false))

pub write_nodes-requires-clause-keys : goal.write_nodes-requires-clause-keys
write_nodes-requires-clause-keys c =
    sorted-keyed c.args.table.now.rows c.close.new.self c.sort.new.self c.in_ok-sort.ensures.members c.in_ok-close.ensures.keys

pub write_nodes-requires-clause-closed : goal.write_nodes-requires-clause-closed
write_nodes-requires-clause-closed c system weighing starts source =
    let pairs = c.args.arena.now.pairs in
    let rows = c.args.table.now.rows in
    needed-closed weighing system (listed_at pairs rows) (needs_at pairs rows c.deref.result.now) (needs_at pairs rows c.sort.new.self)
    (needed-put weighing system (listed_at pairs rows) (need_at pairs rows) c.deref.result.now c.in_ok-needs.needs c.close.new.self c.sort.new.self
    c.in_ok-needs.ensures c.in_ok-sort.ensures.members (c.in_ok-close.ensures.needed system weighing starts source))

pub numbers_of-requires : goal.numbers_of-requires
numbers_of-requires c key member =
    let wanted = subst (λ (keys : List Key). Contains keys key) (c.deref-2.ensures.value ∙ sym c.deref.ensures.value) member in
    (c.in_ok-sort.ensures.members key).0 (c.in_ok-close.ensures.kept key (c.in_ok-needs.ensures.there key wanted))

pub returns : goal.returns
returns c = record {
  built = λ weighing starts source.
      let system = c.args.lts.now in
      let pairs = c.args.arena.now.pairs in
      let rows = c.args.table.now.rows in
      let wanted = c.in_ok-keys.keys.items in
      let sorted = c.sort.new.self in
      let nodes = c.in_ok-sheet.ensures.nodes weighing starts source in
      let keyed = sorted-keyed rows c.close.new.self sorted c.in_ok-sort.ensures.members c.in_ok-close.ensures.keys in
      let needs = c.in_ok-keys.ensures.needs pairs in
      let put = subst (λ (keys : List Key). ArePut [] keys c.in_ok-needs.needs) c.deref.ensures.value c.in_ok-needs.ensures in
      let numbered = subst (λ (keys : List Key). map (slice_get sorted) c.in_ok-nodes.nodes ≡ map Some keys) c.deref-2.ensures.value c.in_ok-nodes.ensures in
      record {
        needs = needs_at pairs rows sorted;
        order = in-order system weighing starts c.args.arena.now source rows c.requires.solved sorted keyed c.in_ok-sort.ensures.order;
        needed = subst (λ list. AreNeeded weighing system (listed_at pairs rows) list (needs_at pairs rows sorted)) needs
            (needed-put weighing system (listed_at pairs rows) (need_at pairs rows) wanted c.in_ok-needs.needs c.close.new.self sorted put
            c.in_ok-sort.ensures.members (c.in_ok-close.ensures.needed system weighing starts source));
        count = nodes.count ∙ sym (length-map sorted (need_at pairs rows));
        chosen = nodes.chosen;
        numbered = numbered-needs (need_at pairs rows) sorted c.in_ok-nodes.nodes wanted numbered ∙ ap (map Some) needs;
      };
}
