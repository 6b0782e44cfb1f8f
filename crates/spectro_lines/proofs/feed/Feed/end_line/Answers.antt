use Rattle.std.proofs.Common.{◌∷◌, [], ◌+◌, ◌≤◌, sym, subst, arith}
use Rattle.std.specs.Prelude.{OnOk}
use Rattle.std.proofs.lemmas.Result.{on_ok_weaker}
use Rattle.spectro_lines.specs.Feeding.{Fed, Takes, stopped}
use Rattle.spectro_lines.proofs.HeldLines.{unbroken}
use Rattle.spectro_lines.proofs.Taking.{Takes-settled, Takes-full, Takes-ended}
use Rattle.spectro_lines.proofs.feed.Feed.end_line.Goals as goal

pub returns-in_default : goal.returns-in_default
returns-in_default g c = Takes-settled g.G.Grammar.form c.args.self.now (10 ∷ []) (rw (sym c.self.view_is) c.in_default.not-Open)

pub returns-then-self-limit : goal.returns-then-self-limit
returns-then-self-limit g c =
    let form = g.G.Grammar.form in
    let inside = c.self.inside in
    let fed : Fed _ _ = record { progress = inside.progress; bytes = inside.bytes; lines = inside.lines; held = inside.held.items } in
    let stops : Takes form fed (stopped fed form.too_long) (10 ∷ []) =
    Takes-full form c.in-Open.field-0 fed c.in-Open.is (unbroken inside.held.items c.self.invariant.one_line) (omega (arith, c.if-self-limit.true)) in
    rw (c.stop.ensures, c.too_long.ensures) (subst (λ fed. Takes form fed (stopped fed form.too_long) (10 ∷ [])) c.self.view_is stops)

pub returns : goal.returns
returns g c =
    let form = g.G.Grammar.form in
    let inside = c.self.inside in
    let fed : Fed _ _ = record { progress = inside.progress; bytes = inside.bytes; lines = inside.lines; held = inside.held.items } in
    let room : inside.bytes + 1 ≤ form.limit = omega (arith, c.self.invariant.within, c.if-self-limit.false) in
    let takes = Takes-ended form fed c.read_held.new.self c.in-Open.field-0 c.in-Open.is (unbroken inside.held.items c.self.invariant.one_line) room in
    subst (λ fed. OnOk c.read_held.result (Takes form fed c.read_held.new.self (10 ∷ []))) c.self.view_is
    (on_ok_weaker c.read_held.result takes c.read_held.ensures)
