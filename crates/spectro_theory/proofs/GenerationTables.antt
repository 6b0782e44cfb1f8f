-- Tables that are generations, said of what they cover: `empty`, `affords` and `covers` are all that the laws of generations use.
use Rattle.std.proofs.Common.{ℕ, suc, List, Contains}
use Rattle.spectro_spec.specs.System.{System}
use Rattle.spectro_spec.specs.Weighing.{Weighing}
use Rattle.spectro_spec.specs.Price.{Price}
use Rattle.spectro_spec.specs.LeastPrices.{Covers}
use Rattle.spectro_game.specs.BackwardStep.{Affords}
use Rattle.spectro_game.specs.Generations.{Table, members_of}

-- table 0 lists nothing, and each next one covers just what the one before affords
pub record AreGenerations (weighing : Weighing) (system : System) (tables : ℕ → Table) : Type 0 where
  pub empty : (p : ℕ) (qs : List ℕ) (e : Price) → ¬ Contains (tables 0 p qs) e
  -- what table k + 1 covers, table k affords
  pub affords : (k p : ℕ) (qs : List ℕ) (e : Price) → Covers (tables (suc k) p qs) e → Affords weighing system (members_of (tables k)) p qs e
  -- what table k affords, table k + 1 covers
  pub covers : (k p : ℕ) (qs : List ℕ) (e : Price) → Affords weighing system (members_of (tables k)) p qs e → Covers (tables (suc k) p qs) e
