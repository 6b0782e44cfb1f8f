-- Each key is put in turn.
use Rattle.std.proofs.Common.{[], take, get_or, subst, sym, arith}
use Rattle.std.proofs.lemmas.List.{take_more}
use Rattle.spectro_build.specs.Needs.{ArePut}
use Rattle.spectro_build.specs.declared.key.Key.{Key}
use Rattle.spectro_build.proofs.KeySets.{put-more, put-none}
use Rattle.spectro_build.proofs.needs.Needs.of.Goals as goal

pub loop-key-init : goal.loop-key-init
loop-key-init c = subst (ArePut [] []) (sym c.new-needs.ensures) (put-none [])

pub loop-key-preserved : goal.loop-key-preserved
loop-key-preserved c =
    let keys = c.args.keys.now in
    let i = c.loop-key.key-index in
    let first : Key = record { height = 0; pair = 0; place = 0 } in
    subst (λ front. ArePut [] front c.put.new.self) (sym (take_more keys i first (omega (arith, c.loop-key-test.true))))
    (put-more [] (take i keys) c.loop-key.needs c.put.new.self (get_or keys i first) c.loop-key.invariant c.in_ok-put.ensures)
