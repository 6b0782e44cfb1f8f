use Rattle.std.proofs.Common.{ap}
use Rattle.spectro_report.specs.Texts.{report_text}
use Rattle.spectro_report.proofs.laws.reports_have_one_text.Goals as goal

pub returns : goal.returns
returns c = λ weighing left right table parts one other is also.
    ap (report_text table parts) (c.reports_are_one.ensures weighing left right table one other is also)
