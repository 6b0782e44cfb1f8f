use Rattle.spectro_report.proofs.Existing.{some_report}
use Rattle.spectro_report.proofs.laws.reports_exist.Goals as goal

pub returns : goal.returns
returns c = some_report c.listed_prices_have_a_sheet.ensures c.built_nodes_are_exact.ensures
