use Rattle.spectro_report.proofs.OneReport.{one_report}
use Rattle.spectro_report.proofs.laws.reports_are_one.Goals as goal

pub returns : goal.returns
returns c = one_report c.reached_pairs_are_one.ensures c.solved_tables_build_one_sheet.ensures
