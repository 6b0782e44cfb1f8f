-- A price within the bound is the first, since none before it is.
use Rattle.std.proofs.Common.{Contains, sym, subst, arith}
use Rattle.std.proofs.lemmas.List.{take_all}
use Rattle.spectro_energy.specs.Energy.{price_of}
use Rattle.spectro_notions.specs.Bounds.{bound_of}
use Rattle.spectro_spec.proofs.Members.{Contains-none}
use Rattle.spectro_report.proofs.Searching.{first-at, none-more}
use Rattle.spectro_report.proofs.found.first_within.Goals as goal

pub loop-k-init : goal.loop-k-init
loop-k-init c = λ e member within. Contains-none e member

pub returns-then-within : goal.returns-then-within
returns-then-within c = first-at c.args.list.now (bound_of c.args.bound.parts) c.loop-k.k (price_of c.item-price.result.parts)
    (omega (arith, c.loop-k-test.true, c.len-k-end.ensures.value)) c.item-price.ensures (c.within.ensures.0 c.if-within.true) c.loop-k.invariant

pub loop-k-preserved : goal.loop-k-preserved
loop-k-preserved c = none-more c.args.list.now (bound_of c.args.bound.parts) c.loop-k.k (price_of c.item-price.result.parts)
    (omega (arith, c.loop-k-test.true, c.len-k-end.ensures.value)) c.item-price.ensures (λ within. let is = c.if-within.ensures.1 within in absurd (cc))
    c.loop-k.invariant

pub returns : goal.returns
returns c = λ e member within. c.loop-k.invariant e
    (subst (λ es. Contains es e)
    (sym (take_all c.loop-k.k c.args.list.now (omega (arith, c.loop-k-test.false, c.len-k-end.ensures.value)))) member) within
