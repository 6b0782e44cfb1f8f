-- Each turn takes what the choice for one more key takes, until there is none left.
use Rattle.std.proofs.Common.{List, subst, arith}
use Rattle.spectro_theory.proofs.Places.{holds-at}
use Rattle.spectro_build.specs.Keys.{IsKey}
use Rattle.spectro_build.specs.Kept.{keys_taken}
use Rattle.spectro_build.specs.Needs.{ArePut}
use Rattle.spectro_build.specs.declared.clauses.SignedKey.{SignedKey}
use Rattle.spectro_build.proofs.Closings.{closing-begins, closing-ends, closing-goes_on}
use Rattle.spectro_build.proofs.needs.Needs.close.Goals as goal

pub loop-i-init : goal.loop-i-init
loop-i-init c = closing-begins c.args.arena.now c.args.table.now.rows c.args.self.now c.requires.keys

pub returns-then-i-len-clause-needed : goal.returns-then-i-len-clause-needed
returns-then-i-len-clause-needed c = closing-ends c.args.arena.now c.args.table.now.rows c.args.self.now c.loop-i.self c.loop-i.i c.loop-i.invariant
    (omega (arith, c.len.ensures.value, c.if-i-len.true))

pub choose-requires-clause-key : goal.choose-requires-clause-key
choose-requires-clause-key c = holds-at (IsKey c.args.table.now.rows) c.loop-i.self c.loop-i.i c.key.result c.loop-i.invariant.keyed c.key.ensures

pub loop-i-preserved : goal.loop-i-preserved
loop-i-preserved c = closing-goes_on c.args.arena.now c.args.table.now.rows c.args.self.now c.loop-i.self c.take.new.self c.loop-i.i c.loop-i.invariant
    c.key.result c.key.ensures c.choose.new.self.clauses.items c.in_ok-chosen.chosen c.in_ok-chosen.ensures.choice c.in_ok-chosen.ensures.keys
    (subst (λ (clauses : List SignedKey). ArePut c.loop-i.self (keys_taken clauses c.in_ok-chosen.chosen) c.take.new.self) c.deref.ensures.value
    c.in_ok-take.ensures)

pub returns-clause-needed : goal.returns-clause-needed
returns-clause-needed c = closing-ends c.args.arena.now c.args.table.now.rows c.args.self.now c.loop-i.self c.loop-i.i c.loop-i.invariant
    (omega (arith, c.len-2.ensures.value, c.if-prove.false, c.loop-i-test.false))
