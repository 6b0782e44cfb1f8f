-- Steps as the code keeps them, with their table.
use Rattle.std.specs.Prelude.{ℕ, List, String}
use Rattle.std.specs.declared.alloc.Global.{Global}
use Rattle.spectro_lts.specs.declared.step.Step.{Step}
use Rattle.spectro_lts.specs.declared.table.Table.{Table}
use Rattle.spectro_lts.specs.Numbered.{IsNumbered}
use Rattle.spectro_lts.specs.Ranks.{AreRanks}
use Rattle.spectro_lts.specs.Tables.{IsTableOf}

-- the labels are numbered, and the table has the steps, with each state's labels in the order of bytes
pub record IsIndexed (states first : ℕ) (labels : List (String Global)) (steps : List Step) (table : Table) : Type 0 where
  pub numbered : IsNumbered states first labels steps
  pub ranks : List ℕ
  pub ranked : AreRanks labels ranks
  pub has : IsTableOf states ranks steps table
