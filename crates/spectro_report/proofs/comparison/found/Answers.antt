-- The rows of the first pair and of the one turned round are those of the states from which the arena was explored.
use Rattle.spectro_report.proofs.Comparing.{said-start, start-reached}
use Rattle.spectro_report.proofs.comparison.found.Goals as goal

pub returns-clause-found : goal.returns-clause-found
returns-clause-found c weighing start source = record {
  pairs = c.args.arena.now.pairs;
  reached = start-reached weighing c.args.lts.now start c.args.arena.now source;
  rows = c.in_ok-table.table.rows;
  listed = c.in_ok-table.ensures.count;
  solved = c.in_ok-table.ensures.solved c.args.lts.now weighing _ source;
  count = c.pair_count.ensures.value;
  size = c.size.ensures.value;
  energies = c.energies.ensures;
  said = said-start weighing c.args.lts.now start c.args.arena.now source c.in_ok-table.table.rows c.in_ok-table.ensures.count c.args.notions.now
      c.turned.result c.in_ok-said.said c.turned.ensures.turned c.in_ok-said.ensures.forth c.in_ok-said.ensures.back
      (c.in_ok-said.ensures.built weighing _ source);
}
