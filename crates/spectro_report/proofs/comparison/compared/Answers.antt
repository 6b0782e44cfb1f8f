use Rattle.spectro_report.proofs.Comparing.{start-apart}
use Rattle.spectro_report.proofs.comparison.compared.Goals as goal

pub found-requires-clause-apart : goal.found-requires-clause-apart
found-requires-clause-apart c = start-apart c.args.weights.now c.args.lts.now c.args.start c.in_ok-arena.arena c.in_ok-arena.ensures.explored c.requires.apart
