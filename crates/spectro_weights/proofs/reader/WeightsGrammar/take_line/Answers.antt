use Rattle.std.specs.Prelude.{Option, None, Some, MatchOption}
use Rattle.std.proofs.lemmas.Result.{IfOk-weaker}
use Rattle.spectro_weights.specs.Faults.{IsPlaceFault, IsLineFault, no_entry, no_place}
use Rattle.spectro_weights.specs.LineReading.{IsPlaced, weight_in}
use Rattle.spectro_weights.specs.WeightLines.{Gives}
use Rattle.spectro_weights.specs.declared.error.WeightKind.{WeightKind}
use Rattle.spectro_weights.proofs.reader.WeightsGrammar.take_line.Goals as goal

pub returns-in-Ok : goal.returns-in-Ok
returns-in-Ok c = IfOk-weaker c.place.result _ _ (λ fault told. placed fault told) c.place.ensures
  where
    placed : (fault : Option WeightKind)
        → MatchOption fault (IsPlaced c.args.self.now (weight_in c.in-Ok.entry) c.place.new.weights) (IsPlaceFault c.args.self.now (weight_in c.in-Ok.entry))
        → MatchOption fault (Gives c.args.self.now c.args.line.now c.place.new.weights) (IsLineFault c.args.self.now c.args.line.now)
    placed None is = record { entry = weight_in c.in-Ok.entry; is_entry = rw c.in-Ok.is at c.in_ok-entry.ensures; place = is.place; list = is.list }
    placed (Some kind) fault = no_place (weight_in c.in-Ok.entry) (rw c.in-Ok.is at c.in_ok-entry.ensures) fault

pub returns-in-Err : goal.returns-in-Err
returns-in-Err c = no_entry (rw c.in-Err.is at c.in_ok-entry.ensures)
