-- Each clause has the number of its key, and no two have one number, so that sorting makes them rise strictly.
use Rattle.std.proofs.Common.{◌≡◌, ◌+◌, List, false, length, get_or, refl, sym, subst, arith}
use Rattle.std.proofs.lemmas.Option.{slice_get-get_or}
use Rattle.spectro_hml.specs.declared.node.Clause.{Clause}
use Rattle.spectro_build.specs.declared.clauses.SignedKey.{SignedKey}
use Rattle.spectro_build.proofs.NodeNumbers.{AreNamed, named-apart, named-more, named-numbered, numbered-moved, sorted-rise}
use Rattle.spectro_build.proofs.writing.number_clauses.Goals as goal

pub loop-clause-preserved : goal.loop-clause-preserved
loop-clause-preserved c =
    let signed = c.args.signed.now in
    let i = c.loop-clause.clause-index in
    let first : SignedKey = record { positive = false; key = record { height = 0; pair = 0; place = 0 } } in
    let made : Clause = record { positive = (get_or signed i first).positive; node = c.number.result } in
    subst (λ (clauses : List Clause). AreNamed c.args.needs.now signed clauses (i + 1)) (sym c.in_ok-push.ensures.items)
    (named-more c.args.needs.now signed c.loop-clause.clauses.items i (get_or signed i first) made c.loop-clause.invariant
    (slice_get-get_or signed i first (omega (arith, c.loop-clause-test.true))) (refl, c.number.ensures))

pub returns-clause-rise : goal.returns-clause-rise
returns-clause-rise c =
    let needs = c.args.needs.now in
    let signed = c.args.signed.now in
    let old = c.loop-clause.clauses.items in
    let whole : c.loop-clause.clause-index ≡ length signed = omega (arith, c.loop-clause-test.false, c.loop-clause.auto.clause-index-end) in
    let named = subst (AreNamed needs signed old) whole c.loop-clause.invariant in
    sorted-rise c.clauses_come_in_order.ensures old c.sort_unstable.new.self.items c.sort_unstable.ensures.permutation
    (named-apart needs signed old named c.requires.once c.requires.apart) c.sort_unstable.ensures.sorted

pub returns-clause-numbered : goal.returns-clause-numbered
returns-clause-numbered c =
    let needs = c.args.needs.now in
    let signed = c.args.signed.now in
    let old = c.loop-clause.clauses.items in
    let whole : c.loop-clause.clause-index ≡ length signed = omega (arith, c.loop-clause-test.false, c.loop-clause.auto.clause-index-end) in
    let named = subst (AreNamed needs signed old) whole c.loop-clause.invariant in
    numbered-moved needs signed old c.sort_unstable.new.self.items c.sort_unstable.ensures.permutation (named-numbered needs signed old named c.requires.once)
