use Rattle.std.proofs.Common.{◌≡◌, ◌∙◌, ◌++◌, ◌-◌, take, drop, length, sym, ap, subst, arith, append_assoc}
use Rattle.std.specs.List.{flat_map}
use Rattle.std.proofs.lemmas.List.{take_all}
use Rattle.std.proofs.lemmas.Result.{err_from_is_err_and}
use Rattle.spectro_io.specs.Batches.{IsPending}
use Rattle.spectro_io.specs.Bytes.{AppendsPart}
use Rattle.spectro_io.proofs.Batches.{pending-more, pending-part, puts-stopped}
use Rattle.spectro_io.proofs.Rows.{row-more, row-stopped}
use Rattle.spectro_notation.specs.Prices.{next_text}
use Rattle.spectro_notation.proofs.Rows.{row-parts}
use Rattle.spectro_notation.proofs.price.put_numbers.Goals as goal

-- the sink failed at one of the other numbers
pub returns-in_err-put_next-clause-bytes : goal.returns-in_err-put_next-clause-bytes
returns-in_err-put_next-clause-bytes g c =
    let p = err_from_is_err_and c.from_residual-in_err-put_next.result c.from_residual-in_err-put_next.ensures.1 in
    let others = take (length c.args.numbers.now - 1) (drop 1 c.args.numbers.now) in
    let first = rw (c.as_bytes.ensures ∙ c.digits.ensures) at c.in_ok-put.ensures.bytes in
    let part : AppendsPart (g.O.Sink.written c.put.new.out) (g.O.Sink.written c.put_next.new.out) (c.put.new.self ++ flat_map next_text others) =
    puts-stopped _ _ _ _ _ _ _ _
    (row-stopped next_text c.put.new.self others c.loop-number.number-index 0
    (omega arith)) c.loop-number.invariant.bytes c.in_err-put_next.ensures.bytes in
    let whole = append_assoc c.args.batch.now _ (flat_map next_text others)
    ∙ ap (λ text. c.args.batch.now ++ text) (sym (row-parts c.args.numbers.now c.in-len1-up.len_at_least)) in
    rw p.1 (subst (AppendsPart _ _) whole (pending-part _ _ _ _ _ _ first part))

-- one number more is out or held
pub loop-number-preserved : goal.loop-number-preserved
loop-number-preserved g c = record {
  bytes = subst (IsPending _ _ _)
      (row-more next_text c.put.new.self (take (length c.args.numbers.now - 1) (drop 1 c.args.numbers.now)) c.loop-number.number-index 0
      (omega arith)) (pending-more _ _ _ _ _ _ _ c.loop-number.invariant.bytes c.in_ok-put_next.ensures.bytes);
  faults = c.in_ok-put_next.ensures.cause.kept ∙ c.loop-number.invariant.faults;
}

-- all numbers are out or held
pub returns-clause-bytes : goal.returns-clause-bytes
returns-clause-bytes g c =
    let others = take (length c.args.numbers.now - 1) (drop 1 c.args.numbers.now) in
    let first = rw (c.as_bytes.ensures ∙ c.digits.ensures) at c.in_ok-put.ensures.bytes in
    let all : take c.loop-number.number-index others ≡ others = take_all c.loop-number.number-index others (omega (arith, c.loop-number-test.false)) in
    let whole = append_assoc c.args.batch.now _ (flat_map next_text others)
    ∙ ap (λ text. c.args.batch.now ++ text) (sym (row-parts c.args.numbers.now c.in-len1-up.len_at_least)) in
    subst (IsPending _ _ _) whole (pending-more _ _ _ _ _ _ _ first (rw all at c.loop-number.invariant.bytes))
