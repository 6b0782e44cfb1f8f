-- Each node is that of the choice for its need, and names nodes before it.
use Rattle.std.proofs.Common.{◌<◌, List, Contains, length, sym, ap, subst, arith}
use Rattle.std.proofs.lemmas.List.{length_push}
use Rattle.spectro_game.specs.Rows.{listed_at}
use Rattle.spectro_theory.specs.Reaching.{StandOnce}
use Rattle.spectro_theory.proofs.Places.{holds-at, stands-map}
use Rattle.spectro_build.specs.Keys.{IsKey, need_at, needs_at}
use Rattle.spectro_build.specs.Kept.{keys_taken, kept_choice}
use Rattle.spectro_build.specs.Written.{IsKeptNode}
use Rattle.spectro_build.specs.declared.clauses.SignedKey.{SignedKey}
use Rattle.spectro_build.proofs.Writings.{node-kept, nodes-more, taken-apart, taken-before, taken-needed}
use Rattle.spectro_build.proofs.writing.write_nodes.Goals as goal

pub choose-requires-clause-key : goal.choose-requires-clause-key
choose-requires-clause-key c = holds-at (IsKey c.args.table.now.rows) c.args.needs.now c.loop-i.i c.key.result c.requires.keys c.key.ensures

pub write_node-requires-clause-needed : goal.write_node-requires-clause-needed
write_node-requires-clause-needed c other member =
    let (weighing, starts, source) = c.requires.source in
    let system = c.args.lts.now in
    let signed = c.choose.new.self.clauses.items in
    taken-needed system weighing starts c.args.arena.now source c.args.table.now.rows c.requires.solved c.args.needs.now c.requires.keys
    (c.requires.closed system weighing starts source) c.loop-i.i c.key.result c.key.ensures signed c.in_ok-chosen.chosen
    (c.in_ok-chosen.ensures.choice system weighing starts source) c.in_ok-chosen.ensures.keys other
    (subst (λ (clauses : List SignedKey). Contains (keys_taken clauses c.in_ok-chosen.chosen) other) c.deref.ensures.value member)

pub write_node-requires-clause-before : goal.write_node-requires-clause-before
write_node-requires-clause-before c other k member there =
    let (weighing, starts, source) = c.requires.source in
    let system = c.args.lts.now in
    let signed = c.choose.new.self.clauses.items in
    let before : k < c.loop-i.i = taken-before system weighing starts c.args.arena.now source c.args.table.now.rows c.requires.solved c.args.needs.now
    c.requires.keys (c.requires.closed system weighing starts source) c.loop-i.i c.key.result c.key.ensures signed c.in_ok-chosen.chosen
    (c.in_ok-chosen.ensures.choice system weighing starts source) c.in_ok-chosen.ensures.keys c.requires.order other k
    (subst (λ (clauses : List SignedKey). Contains (keys_taken clauses c.in_ok-chosen.chosen) other) c.deref.ensures.value member) there in
    omega (arith, before, c.loop-i.invariant.count)

pub write_node-requires-clause-apart : goal.write_node-requires-clause-apart
write_node-requires-clause-apart c =
    let (weighing, starts, source) = c.requires.source in
    let system = c.args.lts.now in
    let is = holds-at (IsKey c.args.table.now.rows) c.args.needs.now c.loop-i.i c.key.result c.requires.keys c.key.ensures in
    subst (λ (clauses : List SignedKey). StandOnce (keys_taken clauses c.in_ok-chosen.chosen)) (sym c.deref.ensures.value)
    (taken-apart system weighing starts c.args.arena.now source c.args.table.now.rows c.requires.solved c.key.result is c.choose.new.self.clauses.items
    c.in_ok-chosen.chosen (c.in_ok-chosen.ensures.choice system weighing starts source))

pub loop-i-preserved : goal.loop-i-preserved
loop-i-preserved c =
    let (node, longer, kept) = c.in_ok-write_node.ensures.node in
    let system = c.args.lts.now in
    let pairs = c.args.arena.now.pairs in
    let rows = c.args.table.now.rows in
    let keys = c.args.needs.now in
    let key = c.key.result in
    let chosen = c.in_ok-chosen.chosen in
    let signed = c.choose.new.self.clauses.items in
    let is = holds-at (IsKey rows) keys c.loop-i.i key c.requires.keys c.key.ensures in
    let made = subst (λ (clauses : List SignedKey). IsKeptNode system keys clauses chosen node) c.deref.ensures.value kept in
    record {
      count = omega (arith, ap length longer, length_push c.loop-i.sheet node, c.loop-i.invariant.count);
      nodes = λ weighing starts source. nodes-more weighing system (listed_at pairs rows) (needs_at pairs rows keys) c.loop-i.i c.loop-i.sheet
          c.write_node.new.sheet node (need_at pairs rows key) (kept_choice system pairs rows signed chosen) (c.loop-i.invariant.nodes weighing starts source)
          longer (stands-map (need_at pairs rows) keys c.loop-i.i key c.key.ensures) (c.in_ok-chosen.ensures.choice system weighing starts source)
          (node-kept system weighing starts c.args.arena.now source rows c.requires.solved key is signed keys c.requires.keys chosen
          c.in_ok-chosen.ensures.keys node made);
    }
