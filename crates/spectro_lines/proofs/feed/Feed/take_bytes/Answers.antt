use Rattle.std.proofs.Common.{◌≡◌, ◌∙◌, ◌<◌, ◌∷◌, [], ◌++◌, length, refl, sym, ap, subst, arith, append_assoc, length-append}
use Rattle.std.proofs.lemmas.Result.{on_ok_weaker}
use Rattle.spectro_lines.specs.Feeding.{Takes}
use Rattle.spectro_lines.proofs.Taking.{Takes-none, Takes-append}
use Rattle.spectro_lines.proofs.feed.Feed.take_bytes.Goals as goal

pub loop-line-init : goal.loop-line-init
loop-line-init g c = ([], refl, Takes-none g.G.Grammar.form c.args.self.now)

pub loop-line-smaller : goal.loop-line-smaller
loop-line-smaller g c =
    let shorter : length c.in-Some.others.now < length (c.in-Some.line.now ++ 10 ∷ c.in-Some.others.now) =
    omega (arith, length-append c.in-Some.line.now (10 ∷ c.in-Some.others.now)) in
    subst (λ rest. length c.in-Some.others.now < length rest) (sym c.in-Some.ensures.whole) shorter

pub loop-line-preserved : goal.loop-line-preserved
loop-line-preserved g c =
    let form = g.G.Grammar.form in
    let so_far = c.loop-line.invariant in
    let line = c.in-Some.line.now ++ 10 ∷ [] in
    let whole : c.args.piece.now ≡ (so_far.0 ++ line) ++ c.in-Some.others.now =
    so_far.1 ∙ ap (λ rest. so_far.0 ++ rest) (c.in-Some.ensures.whole ∙ sym (append_assoc c.in-Some.line.now (10 ∷ []) c.in-Some.others.now))
    ∙ sym (append_assoc so_far.0 line c.in-Some.others.now) in
    (so_far.0 ++ line, whole, Takes-append form c.args.self.now c.loop-line.self c.take_line.new.self so_far.0 line so_far.2 c.in_ok-take_line.ensures)

pub returns : goal.returns
returns g c =
    let form = g.G.Grammar.form in
    let so_far = c.loop-line.invariant in
    let all = Takes-append form c.args.self.now c.loop-line.self c.hold.new.self so_far.0 c.loop-line.rest.now so_far.2 in
    on_ok_weaker c.hold.result (λ takes. subst (Takes form c.args.self.now c.hold.new.self) (sym so_far.1) (all takes)) c.hold.ensures
