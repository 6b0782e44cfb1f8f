use Rattle.std.proofs.Common.{◌∙◌, sym}
use Rattle.spectro_lts.proofs.LabelLaws.{list_any-map}
use Rattle.spectro_report.specs.Texts.{is_by_node}
use Rattle.spectro_report.specs.Verdicts.{verdict_of}
use Rattle.spectro_report.proofs.writer.some_is_by_node.Goals as goal

pub returns : goal.returns
returns c = c.any_by_node.ensures ∙ sym (list_any-map is_by_node verdict_of c.args.verdicts.now)
