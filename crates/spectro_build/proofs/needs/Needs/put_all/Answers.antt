-- The key of each clause is put in turn.
use Rattle.std.proofs.Common.{false, take, get_or, subst, sym, arith}
use Rattle.std.proofs.lemmas.List.{map_more}
use Rattle.spectro_build.specs.Kept.{keys_of_clauses}
use Rattle.spectro_build.specs.Needs.{ArePut}
use Rattle.spectro_build.specs.declared.clauses.SignedKey.{SignedKey}
use Rattle.spectro_build.proofs.KeySets.{put-more, put-none}
use Rattle.spectro_build.proofs.needs.Needs.put_all.Goals as goal

pub loop-clause-init : goal.loop-clause-init
loop-clause-init c = put-none c.args.self.now

pub loop-clause-preserved : goal.loop-clause-preserved
loop-clause-preserved c =
    let clauses = c.args.clauses.now in
    let i = c.loop-clause.clause-index in
    let first : SignedKey = record { positive = false; key = record { height = 0; pair = 0; place = 0 } } in
    subst (λ front. ArePut c.args.self.now front c.put.new.self)
    (sym (map_more (λ (clause : SignedKey). clause.key) clauses i first (omega (arith, c.loop-clause-test.true))))
    (put-more c.args.self.now (keys_of_clauses (take i clauses)) c.loop-clause.self c.put.new.self (get_or clauses i first).key c.loop-clause.invariant
    c.in_ok-put.ensures)
