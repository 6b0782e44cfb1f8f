use Rattle.std.proofs.Common.{◌≡◌, ◌+◌, [], true, replicate, length, sym, ap, ◌∙◌, subst}
use Rattle.spectro_solve.specs.Solving.{IsAfter}
use Rattle.spectro_solve.proofs.Settling.{bounded, counted, few, generations, generations-begin, parts, solved}
use Rattle.spectro_solve.proofs.generations.solve.Goals as goal

pub run_generations-requires-clause-start : goal.run_generations-requires-clause-start
run_generations-requires-clause-start g c system weighing starts source =
    subst (λ flags. IsAfter weighing system c.args.arena.now.pairs 0 c.in_ok-table.table flags)
    (sym (c.in_ok-marks.ensures ∙ ap (λ n. replicate n true) c.pair_count-pairs.ensures.value))
    (subst (λ table. IsAfter weighing system c.args.arena.now.pairs 0 table (replicate (length c.args.arena.now.pairs) true)) (sym begins)
    (generations-begin weighing system c.args.arena.now.pairs))
  where
    begins : c.in_ok-table.table ≡ record { rows = replicate (length c.args.arena.now.pairs) []; generations = 0; evaluations = 0 }
    begins i = record {
      rows = (c.in_ok-table.ensures.rows ∙ ap (λ n. replicate n []) c.pair_count-pairs.ensures.value) i;
      generations = c.in_ok-table.ensures.generations i;
      evaluations = c.in_ok-table.ensures.evaluations i;
    }

pub returns-clause-rows : goal.returns-clause-rows
returns-clause-rows g c =
    (bounded c.args.arena.now (c.args.lts.now, c.requires) (length c.args.arena.now.pairs + 1) c.run_generations.new.self c.run_generations.new.marks
    c.in_ok-run_generations.ensures.after).rows

pub returns-clause-solved : goal.returns-clause-solved
returns-clause-solved g c system weighing starts source = solved weighing system starts c.args.arena.now source c.run_generations.new.self
    c.run_generations.new.marks (c.in_ok-run_generations.ensures.after system weighing starts source)

pub returns-clause-parts : goal.returns-clause-parts
returns-clause-parts g c = let (weighing, starts, source) = c.requires in
    parts weighing c.args.lts.now starts c.args.arena.now source c.run_generations.new.self
    c.run_generations.new.marks (c.in_ok-run_generations.ensures.after c.args.lts.now weighing starts source)

pub returns-clause-generations : goal.returns-clause-generations
returns-clause-generations g c system weighing starts source = generations weighing system starts c.args.arena.now source c.run_generations.new.self
    c.run_generations.new.marks (c.in_ok-run_generations.ensures.after system weighing starts source)

pub returns-clause-few : goal.returns-clause-few
returns-clause-few g c = let (weighing, starts, source) = c.requires in
    few weighing c.args.lts.now starts c.args.arena.now source c.run_generations.new.self
    c.run_generations.new.marks (c.in_ok-run_generations.ensures.after c.args.lts.now weighing starts source)

pub returns-clause-evaluations : goal.returns-clause-evaluations
returns-clause-evaluations g c system weighing starts source = counted weighing system starts c.args.arena.now source c.run_generations.new.self
    c.run_generations.new.marks (c.in_ok-run_generations.ensures.after system weighing starts source)
