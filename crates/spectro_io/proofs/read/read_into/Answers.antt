-- After each piece so many bytes of the front were taken; the loop ends at the end of the source or at the limit.
use Rattle.std.proofs.Common.{◌≡◌, ◌∙◌, ◌+◌, ◌≤◌, ◌++◌, arith, length-append, length-take, take, drop, subst, List, ℕ}
use Rattle.std.proofs.KnownBytes.{Consumes-trans}
use Rattle.std.proofs.lemmas.List.{take-append-le}
use Rattle.std.proofs.lemmas.Result.{err_from_is_err_and}
use Rattle.spectro_io.specs.Limits.{read_limit}
use Rattle.spectro_io.proofs.ReadSoFar.{read_more}
use Rattle.spectro_io.proofs.read.read_into.Goals as goal
use Rattle.spectro_io.specs.declared.read.TheConstants.{READ_LIMIT}

-- memory ran out for bytes that were taken
pub returns-in_err-take-clause-err : goal.returns-in_err-take-clause-err
unfolding read_limit
returns-in_err-take-clause-err g c =
    let p = err_from_is_err_and c.from_residual-in_err-take.result c.from_residual-in_err-take.ensures.1 in
    let so_far = c.reading.invariant in
    let counted = so_far.front.counted in
    let read = take c.in_ok-count.count c.read.new.buf in
    rw p.1 (record {
      bytes = so_far.front.bytes ++ read;
      front = Consumes-trans _ _ _ _ _ so_far.front.front c.in_ok-count.ensures.bytes.0;
      within = let fits = c.in_ok-count.ensures.bound.0 in let buffer = c.read.auto.buf in let room = c.min-room.ensures in omega (
        arith,
        counted,
        length-append so_far.front.bytes read,
        length-take c.in_ok-count.count c.read.new.buf,
        length-take c.min-room.result c.reading.piece,
        fits,
        buffer,
        room,
        c.reading-test.true,
      );
    })

pub reading-preserved : goal.reading-preserved
reading-preserved g c =
    let so_far = c.reading.invariant in
    let count = c.in_ok-count.count in
    let bound = c.in_ok-count.ensures.bound in
    let piece = take count c.read.new.buf in
    let whole : take count (c.read.new.buf ++ drop c.min-room.result c.reading.piece) ≡ piece = take-append-le count c.read.new.buf _ bound.0 in
    let Grows : List ℕ → Type 0 = λ piece.
    (taken : List ℕ) → g.I.Intake.has_taken c.reading.intake taken → g.I.Intake.has_taken c.take.new.self (taken ++ piece) in
    let room : c.reading.taken + count ≤ READ_LIMIT =
    omega (arith, bound.0, c.read.auto.buf, length-take c.min-room.result c.reading.piece, c.min-room.ensures, c.reading-test.true) in
    record {
      front = read_more g.I.Intake.has_taken _ _ _ _ c.reading.intake c.take.new.self c.reading.taken count piece so_far.front c.in_ok-count.ensures.bytes.0
          bound.1 (subst Grows whole c.in_ok-take.ensures);
      within = room;
      texts = c.in_ok-count.ensures.texts ∙ so_far.texts;
      faults = c.in_ok-count.ensures.cause.kept ∙ so_far.faults;
    }
