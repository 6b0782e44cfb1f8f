use Rattle.spectro_build.proofs.BuiltSheets.{sheet-one}
use Rattle.spectro_build.proofs.laws.a_table_builds_one_sheet.Goals as goal

pub returns : goal.returns
returns c = sheet-one
