use Rattle.spectro_bench.proofs.extent_of.Goals as goal

pub solved-requires-clause-arena : goal.solved-requires-clause-arena
solved-requires-clause-arena c = (_, c.args.starts.now, c.in-Ok.ensures.explored)
