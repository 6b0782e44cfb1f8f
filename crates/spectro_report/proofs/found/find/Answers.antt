use Rattle.std.proofs.Common.{◌∙◌, ◌+◌, [], ◌∷◌, ap, subst, sym, take}
use Rattle.std.specs.Option.{option_map}
use Rattle.std.proofs.lemmas.List.{map-append}
use Rattle.spectro_energy.specs.Energy.{price_of}
use Rattle.spectro_notions.specs.Bounds.{bound_of}
use Rattle.spectro_report.specs.Firsts.{AreFirsts, firsts_of}
use Rattle.spectro_report.proofs.Searching.{firsts-more}
use Rattle.spectro_report.proofs.found.find.Goals as goal

pub loop-k-preserved : goal.loop-k-preserved
loop-k-preserved c = subst (AreFirsts c.args.list.now (take (c.loop-k.k + 1) c.args.notions.now))
    (sym (map-append (option_map (λ energy. price_of energy.parts)) c.loop-k.firsts.items (c.first_within.result ∷ []))
    ∙ sym (ap firsts_of c.in_ok-push.ensures.items))
    (firsts-more c.args.list.now c.args.notions.now c.loop-k.k (bound_of c.bound.result.parts)
    (option_map (λ energy. price_of energy.parts) c.first_within.result)
    (firsts_of c.loop-k.firsts.items) c.bound.ensures c.first_within.ensures c.loop-k.invariant)
