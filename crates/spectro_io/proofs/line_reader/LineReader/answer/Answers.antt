use Rattle.std.proofs.Common.{◌∙◌, refl, take, ap}
use Rattle.spectro_io.specs.Lines.{without_cr}
use Rattle.spectro_io.proofs.Gathered.{take-without_cr}
use Rattle.spectro_io.proofs.line_reader.LineReader.answer.Goals as goal

pub returns : goal.returns
returns c =
    let moved = ap (λ v. v.items) c.swap.ensures.y_after in
    let line = c.without_cr-len.ensures ∙ ap without_cr (c.deref.ensures.value ∙ moved) in
    let kept = c.truncate.ensures.items ∙ ap (λ n. take n c.swap.new.y.items) c.min.ensures in
    rw (← c.self.view_is, c.clear.ensures.items, kept, moved, line, take-without_cr 32768 c.self.inside.begun.items) refl
