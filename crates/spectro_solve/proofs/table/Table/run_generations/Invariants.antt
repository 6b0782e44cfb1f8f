use Rattle.std.proofs.Common.{◌≡◌, ◌+◌, length}
use Rattle.spectro_pairs.specs.Arenas.{FromEach}
use Rattle.spectro_solve.specs.Fresh.{AreFresh}
use Rattle.spectro_solve.specs.Solving.{IsAfter}
use Rattle.spectro_solve.proofs.table.Table.run_generations.Given as goal

abbrev pub invariant-loop : goal.invariant-loop
invariant-loop g l = record {
  after : FromEach l.arena (λ system weighing. IsAfter weighing system l.arena.pairs l.counter l.self l.marks);
  many : length l.fresh ≡ length l.arena.pairs;
  fresh : FromEach l.arena (λ system weighing. AreFresh weighing system l.arena.pairs l.counter l.fresh);
  steps : l.steps ≡ l.fn.steps + l.self.evaluations;
}
