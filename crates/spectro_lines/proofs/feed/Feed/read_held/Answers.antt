use Rattle.std.proofs.Common.{◌≡◌, ◌∙◌, ◌+◌, refl, ap, subst}
use Rattle.spectro_io.specs.Lines.{without_cr}
use Rattle.spectro_lines.specs.LineReading.{IsTaken, IsRefused}
use Rattle.spectro_lines.specs.Feeding.{Fed, EndsLine, line_taken, stopped}
use Rattle.spectro_lines.specs.declared.feed.Progress.TheVariants.{Open}
use Rattle.spectro_lines.proofs.feed.Feed.read_held.Goals as goal

pub returns-in-None : goal.returns-in-None
returns-in-None g c =
    let form = g.G.Grammar.form in
    let inside = c.self.inside in
    let fed : Fed _ _ = record { progress = inside.progress; bytes = inside.bytes; lines = inside.lines; held = inside.held.items } in
    let new : Fed _ _ = record { progress = Open c.take_line.new.grammar; bytes = inside.bytes; lines = inside.lines + 1; held = c.clear.new.self.items } in
    let line : c.without_cr.result.now ≡ without_cr inside.held.items = c.without_cr.ensures ∙ ap without_cr c.deref.ensures.value in
    let taken : IsTaken form c.in-Open.grammar (inside.lines + 1) (without_cr inside.held.items) c.take_line.new.grammar =
    rw (← line) (rw c.in-None.is at c.in_ok-take_line.ensures) in
    let is : new ≡ line_taken fed c.take_line.new.grammar = rw c.clear.ensures.items refl in
    subst (λ fed. EndsLine form fed new) c.self.view_is (EndsLine.taken c.in-Open.grammar c.take_line.new.grammar c.in-Open.is taken is)

pub returns-in-Some : goal.returns-in-Some
returns-in-Some g c =
    let form = g.G.Grammar.form in
    let inside = c.self.inside in
    let fed : Fed _ _ = record { progress = inside.progress; bytes = inside.bytes; lines = inside.lines; held = inside.held.items } in
    let line : c.without_cr.result.now ≡ without_cr inside.held.items = c.without_cr.ensures ∙ ap without_cr c.deref.ensures.value in
    let refused : IsRefused form c.in-Open.grammar (without_cr inside.held.items) c.in-Some.kind = rw (← line) (rw c.in-Some.is at c.in_ok-take_line.ensures) in
    let ends : EndsLine form fed (stopped fed c.in-Some.kind) = EndsLine.refused c.in-Open.grammar c.in-Some.kind c.in-Open.is refused refl in
    rw c.stop.ensures (rw c.self.view_is at ends)
