use Rattle.std.proofs.Common.{◌≡◌, length}
use Rattle.spectro_game.specs.Rows.{listed_at}
use Rattle.spectro_build.specs.Keys.{needs_at}
use Rattle.spectro_build.specs.Wanted.{FromEachWeighing}
use Rattle.spectro_build.specs.Written.{AreNodesOf}
use Rattle.spectro_build.proofs.writing.write_nodes.Given as goal

-- those of the first needs
abbrev pub invariant-loop-i : goal.invariant-loop-i
invariant-loop-i l = record {
  count : length l.sheet ≡ l.i;
  nodes : FromEachWeighing l.lts l.arena (λ weighing. AreNodesOf weighing l.lts (listed_at l.arena.pairs l.table.rows)
      (needs_at l.arena.pairs l.table.rows l.needs) l.i l.sheet);
}
