-- A stop at a fault is one at what the fault implies.
use Rattle.std.proofs.Common.{ℕ, List}
use Rattle.std.specs.Prelude.{Result, IfErr}
use Rattle.std.proofs.lemmas.Result.{IfErr-weaker}
use Rattle.spectro_hmltext.specs.declared.error.TextKind.{TextKind}
use Rattle.spectro_hmltext.specs.declared.stop.Stop.{Stop}
use Rattle.spectro_hmltext.specs.declared.stop.Stop.TheVariants.{Fault, OutOfMemory}
use Rattle.spectro_hmltext.specs.Stops.{StopsAt}

module _ (IsFault IsOther : List ℕ → TextKind → Type 0) (implies : (left : List ℕ) (kind : TextKind) → IsFault left kind → IsOther left kind) where
  pub StopsAt-weaker : (stop : Stop) → StopsAt IsFault stop → StopsAt IsOther stop
  StopsAt-weaker (Fault left kind) stops = (stops.0, stops.1, implies stops.0 kind stops.2)
  StopsAt-weaker OutOfMemory stops = tt

  pub IfErr-StopsAt-weaker : {X : Type 0} (result : Result X Stop) → IfErr result (StopsAt IsFault) → IfErr result (StopsAt IsOther)
  IfErr-StopsAt-weaker result stops = IfErr-weaker result (StopsAt IsFault) (StopsAt IsOther) (λ stop. StopsAt-weaker stop) stops
