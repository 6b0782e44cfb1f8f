use Rattle.std.proofs.Common.{◌≡◌, ◌∙◌, ◌<◌, [], sym, ap, arith, refl}
use Rattle.std.proofs.lemmas.Result.{err_from_is_err_and}
use Rattle.spectro_io.specs.declared.line_reader.Got.TheVariants.{Line, End}
use Rattle.spectro_io.specs.Limits.{read_limit}
use Rattle.spectro_io.proofs.LineReading.{takes-none, held-ahead}
use Rattle.spectro_io.proofs.LineTaking.{takes-unended, takes-line, takes-read, takes-kept, none-read, not-full, keeps-read, takes-last, takes-end, ahead-none}
use Rattle.spectro_io.proofs.line_reader.LineReader.next.Goals as goal

pub taking-init : goal.taking-init
taking-init g c = record {
  takes = takes-none _ _;
  kept = record { line = refl; cut = refl };
  ready = λ held holds found. (refl, held-ahead _ held holds found);
  texts = refl;
  faults = refl;
}

pub returns-then-is_full-clause-over : goal.returns-then-is_full-clause-over
returns-then-is_full-clause-over g c _ = takes-unended _ _ _ _ _ c.taking.invariant.takes (sym c.taking-test.ensures.found) c.gather.ensures.after

pub refill-requires-clause-done : goal.refill-requires-clause-done
refill-requires-clause-done g c = ahead-none c.taking.self _ (sym c.taking-test.ensures.found) c.gather.ensures.after

-- the source failed before the line was ended
pub returns-in_err-refill-clause-err : goal.returns-in_err-refill-clause-err
returns-in_err-refill-clause-err g c =
    let p = err_from_is_err_and c.from_residual.result c.from_residual.ensures.1 in
    rw p.1 (takes-kept _ _ _ _ _ _ _ c.taking.invariant.takes
    (sym c.taking-test.ensures.found) c.gather.ensures.after c.in_err-refill.ensures.kept c.in_err-refill.ensures.err)

-- nothing more was read, and a line is begun
pub returns-then-not-branch-clause-line : goal.returns-then-not-branch-clause-line
returns-then-not-branch-clause-line g c is =
    let r = c.in_ok-refill.ensures in
    let line : c.last.result ≡ Line = cc is in
    let done : c.refill.new.self.ahead ≡ [] = none-read _ _ r.some c.if-not-branch.true in
    let within : c.refill.new.self.taken < read_limit = not-full _ c.taking.self c.gather.new.self _ c.is_full.ensures c.if-is_full.false
    c.gather.ensures.within c.gather.ensures.after r.after done in
    takes-last _ _ _ _ _ (takes-read _ _ _ _ _ _ _ c.taking.invariant.takes (sym c.taking-test.ensures.found) c.gather.ensures.after r.bytes r.after)
    done (c.last.ensures.some line) (r.none done) within (c.last.ensures.line line)

-- nothing more was read, and no line is begun
pub returns-then-not-branch-clause-end : goal.returns-then-not-branch-clause-end
returns-then-not-branch-clause-end g c is =
    let r = c.in_ok-refill.ensures in
    let end : c.last.result ≡ End = cc is in
    let done : c.refill.new.self.ahead ≡ [] = none-read _ _ r.some c.if-not-branch.true in
    let within : c.refill.new.self.taken < read_limit = not-full _ c.taking.self c.gather.new.self _ c.is_full.ensures c.if-is_full.false
    c.gather.ensures.within c.gather.ensures.after r.after done in
    takes-end _ _ _ _ _ (takes-read _ _ _ _ _ _ _ c.taking.invariant.takes (sym c.taking-test.ensures.found) c.gather.ensures.after r.bytes r.after)
    done (c.last.ensures.none end) (r.none done) within (c.last.ensures.kept (λ line. cc (end, line)))

-- more was read
pub taking-preserved : goal.taking-preserved
taking-preserved g c =
    let r = c.in_ok-refill.ensures in
    record {
      takes = takes-read _ _ _ _ _ _ _ c.taking.invariant.takes (sym c.taking-test.ensures.found) c.gather.ensures.after r.bytes r.after;
      kept = keeps-read _ _ _ _ c.taking.invariant.kept c.gather.ensures.after r.after;
      ready = λ held holds found. absurd (cc (c.taking-test.ensures.found, (c.taking.invariant.ready held holds found).1));
      texts = r.texts ∙ c.taking.invariant.texts;
      faults = r.cause.kept ∙ c.taking.invariant.faults;
    }

pub returns-clause-line : goal.returns-clause-line
returns-clause-line g c _ = takes-line _ _ _ _ _ _ c.taking.invariant.takes (sym c.taking-test.ensures.found) c.gather.ensures.after c.answer.ensures

pub returns-clause-within : goal.returns-clause-within
returns-clause-within g c = omega (arith, c.gather.ensures.within, ap (λ r. r.taken) c.answer.ensures, ap (λ r. r.taken) c.gather.ensures.after)
