use Rattle.std.specs.Prelude.{Option, None, Some, MatchOption}
use Rattle.std.proofs.lemmas.Result.{IfOk-weaker}
use Rattle.spectro_notions.specs.Entries.{notion_in}
use Rattle.spectro_notions.specs.Faults.{IsPlaceFault, IsLineFault, no_notion, no_place}
use Rattle.spectro_notions.specs.LineReading.{IsPlaced}
use Rattle.spectro_notions.specs.NotionLines.{Gives}
use Rattle.spectro_notions.specs.declared.error.NotionKind.{NotionKind}
use Rattle.spectro_notions.proofs.reader.DraftGrammar.take_line.Goals as goal

pub returns-in-Ok : goal.returns-in-Ok
returns-in-Ok c = IfOk-weaker c.place.result _ _ (λ fault told. placed fault told) c.place.ensures
  where
    placed : (fault : Option NotionKind)
        → MatchOption fault (IsPlaced c.args.self.now (notion_in c.in-Ok.entry) c.place.new.draft) (IsPlaceFault c.args.self.now (notion_in c.in-Ok.entry))
        → MatchOption fault (Gives c.args.self.now c.args.line.now c.place.new.draft) (IsLineFault c.args.self.now c.args.line.now)
    placed None is = record { notion = notion_in c.in-Ok.entry; is_notion = rw c.in-Ok.is at c.in_ok-entry.ensures; place = is.place; list = is.list }
    placed (Some kind) fault = no_place (notion_in c.in-Ok.entry) (rw c.in-Ok.is at c.in_ok-entry.ensures) fault

pub returns-in-Err : goal.returns-in-Err
returns-in-Err c = no_notion (rw c.in-Err.is at c.in_ok-entry.ensures)
