-- The pairs of the joined system are those of the comparison, or are too many.
use Rattle.std.proofs.Common.{◌+◌, subst, arith, refl}
use Rattle.spectro_game.specs.Pairs.{size}
use Rattle.spectro_pairs.specs.Limits.{IsPastLimit}
use Rattle.spectro_run.specs.Stops.{refused}
use Rattle.spectro_run.proofs.Sized.{past_limit, reached_compared}
use Rattle.spectro_run.proofs.commands.size.extent_of.Goals as goal

pub returns-in-Ok-clause-ok : goal.returns-in-Ok-clause-ok
returns-in-Ok-clause-ok c =
    let explored = c.in-Ok.ensures.explored in
    let second = c.states.result + c.initial-2.result in
    let same =
    reached_compared c.args.left.now c.args.right.now c.in_ok-both.both c.initial.result second c.in-Ok.arena.pairs c.in_ok-both.ensures c.initial.ensures.value
    (omega (arith, c.states.ensures.value, c.initial-2.ensures.value)) in
    record {
      pairs = c.in-Ok.arena.pairs;
      are = (rw (← same) explored.reached, omega (arith, c.size.ensures.value, c.in-Ok.ensures.size));
      counted = c.pair_count.ensures.value;
      sized = c.size.ensures.value;
    }

pub returns-in-Err-TooLarge-clause-stopped : goal.returns-in-Err-TooLarge-clause-stopped
returns-in-Err-TooLarge-clause-stopped c =
    let second = c.states.result + c.initial-2.result in
    refused tt (
      refl,
      past_limit c.args.left.now c.args.right.now c.in_ok-both.both c.initial.result second c.args.limit c.in-Err-TooLarge.field-0-0 c.in_ok-both.ensures
          c.initial.ensures.value
          (omega (arith, c.states.ensures.value, c.initial-2.ensures.value))
          (λ pairs reached. subst (λ e. IsPastLimit e c.args.limit (size pairs)) c.in-Err-TooLarge.field-0-is (c.in-Err-TooLarge.ensures.limit pairs reached)),
    )
