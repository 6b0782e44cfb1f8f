-- Each label is weighed in turn.
use Rattle.std.proofs.Common.{◌≡◌, ℕ, List, get_or, ◌<◌, ◌++◌, ◌∷◌, [], length, map, sym, ap, ◌∙◌, arith}
use Rattle.std.proofs.lemmas.List.{map_more, take_all}
use Rattle.std.proofs.lemmas.Option.{get_or_from_slice_get}
use Rattle.spectro_spec.specs.Weighing.{weight_of}
use Rattle.spectro_lts.specs.Labels.{labels_of}
use Rattle.spectro_pairs.proofs.reaching.label_weights.Goals as goal

pub loop-no-init : goal.loop-no-init
loop-no-init c = c.in_ok-bytes.ensures.items

pub loop-no-preserved : goal.loop-no-preserved
loop-no-preserved c =
    let labels = labels_of c.args.lts.now.steps in
    let weigh = weight_of c.args.weights.now in
    let below : c.loop-no.no < length labels = omega (arith, c.loop-no-test.true, c.label_count-no-end.ensures.value) in
    let weighed : c.of.result ≡ weigh (get_or labels c.loop-no.no []) = c.of.ensures.value
    ∙ ap weigh (sym (get_or_from_slice_get labels c.loop-no.no c.label.result.now [] c.label.ensures.label)) in
    ◌∙◌ {A = List ℕ} c.in_ok-push.ensures.items ((λ i. c.loop-no.invariant i ++ weighed i ∷ []) ∙ sym (map_more weigh labels c.loop-no.no [] below))

pub returns-clause-bytes : goal.returns-clause-bytes
returns-clause-bytes c =
    c.loop-no.invariant
    ∙ ap (map (weight_of c.args.weights.now))
    (take_all c.loop-no.no (labels_of c.args.lts.now.steps) (omega (arith, c.loop-no-test.false, c.label_count-no-end.ensures.value)))
