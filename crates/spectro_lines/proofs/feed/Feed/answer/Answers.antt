use Rattle.spectro_lines.specs.Feeding.{Found}
use Rattle.spectro_lines.specs.declared.feed.Progress.TheVariants.{Open, Faulty}
use Rattle.spectro_lines.specs.Texts.{at_end}
use Rattle.spectro_lines.proofs.feed.Feed.answer.Goals as goal

pub returns-in-Ok-clause-ok : goal.returns-in-Ok-clause-ok
returns-in-Ok-clause-ok g c taken has =
    let form = g.G.Grammar.form in
    let read : Found form c.self.inside.lines taken (Open c.in-Open.grammar) = rw (← c.self.view_is, c.in-Open.is) at has in
    record { after = _; follow = read.1; ends = rw c.in-Ok.is at c.in_ok-value-in-Open.ensures }

pub returns-in-Open-clause-refused : goal.returns-in-Open-clause-refused
returns-in-Open-clause-refused g c taken has =
    let form = g.G.Grammar.form in
    let read : Found form c.self.inside.lines taken (Open c.in-Open.grammar) = rw (← c.self.view_is, c.in-Open.is) at has in
    at_end _ read.1 (rw c.in-Err.is at c.in_ok-value-in-Open.ensures)

pub returns-in-Faulty-clause-refused : goal.returns-in-Faulty-clause-refused
returns-in-Faulty-clause-refused g c taken has =
    let form = g.G.Grammar.form in
    let read : Found form c.self.inside.lines taken (Faulty c.in-Faulty.fault) = rw (← c.self.view_is, c.in-Faulty.is) at has in
    read
