use Rattle.std.proofs.Common.{◌≡◌, length, map, take}
use Rattle.std.specs.Option.{option_map}
use Rattle.spectro_energy.specs.Energy.{price_of}
use Rattle.spectro_game.specs.Rows.{listed_at}
use Rattle.spectro_solve.specs.Evaluations.{AtPair}
use Rattle.spectro_build.specs.Choices.{right_clause}
use Rattle.spectro_build.specs.Chosen.{clause_at}
use Rattle.spectro_build.specs.Splits.{AreKeyed}
use Rattle.spectro_build.proofs.splitting.list_right_clauses.Given as goal

-- those of the first members are there
abbrev pub invariant-loop-i : goal.invariant-loop-i
invariant-loop-i l = record {
  count : length l.others.items ≡ l.i;
  keys : AreKeyed l.table.rows l.others.items;
  clauses : AtPair l.arena l.k (λ system weighing x.
      map (right_clause (listed_at l.arena.pairs l.table.rows) x.state (price_of l.e.parts)) (take l.i x.set)
      ≡ map (option_map (clause_at l.arena.pairs l.table.rows)) l.others.items);
}
