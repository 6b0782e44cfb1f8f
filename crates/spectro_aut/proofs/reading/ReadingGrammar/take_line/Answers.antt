use Rattle.std.proofs.Common.{◌≡◌, ◌∙◌, Contains, ap, subst, sym}
use Rattle.std.specs.Prelude.{Option, None, Some, MatchOption}
use Rattle.std.proofs.lemmas.Result.{IfOk-weaker}
use Rattle.spectro_io.specs.Blanks.{trimmed}
use Rattle.spectro_aut.specs.Grammar.{Gives}
use Rattle.spectro_aut.specs.Faults.{IsLineFault}
use Rattle.spectro_aut.specs.Reading.{line_read}
use Rattle.spectro_aut.specs.Readings.{given}
use Rattle.spectro_aut.specs.declared.error.AutKind.{AutKind}
use Rattle.spectro_aut.proofs.LineLaws.{HasFewStates, read_gives, read_faults}
use Rattle.spectro_aut.proofs.Steps.{trimmed-one_line, HasFewStates-within}
use Rattle.spectro_aut.proofs.reading.ReadingGrammar.take_line.Goals as goal

pub take_trimmed-requires : goal.take_trimmed-requires
take_trimmed-requires c =
    let text : c.trim.result.now ≡ trimmed c.args.line.now = c.trim.ensures ∙ ap trimmed c.as_bytes.ensures.value in
    subst (λ text. Contains text 10 → ⊥) (sym text) (trimmed-one_line c.args.line.now c.requires.one_line)

pub returns : goal.returns
returns c = IfOk-weaker c.take_trimmed.result _ _ told c.take_trimmed.ensures
  where
    few : HasFewStates c.args.self.now
    few = subst HasFewStates c.self.view_is (HasFewStates-within c.self.inside.steps c.self.invariant)

    text : c.trim.result.now ≡ trimmed c.args.line.now
    text = c.trim.ensures ∙ ap trimmed c.as_bytes.ensures.value

    told : (fault : Option AutKind) → given fault c.take_trimmed.new.self ≡ line_read c.args.self.now c.trim.result.now
        → MatchOption fault (Gives c.args.self.now c.args.line.now c.take_trimmed.new.self) (IsLineFault c.args.self.now c.args.line.now)
    told None read = read_gives c.args.self.now c.args.line.now c.take_trimmed.new.self few (ap (line_read c.args.self.now) (sym text) ∙ sym read)
    told (Some kind) read = read_faults c.args.self.now c.args.line.now kind few c.utf8.line (ap (line_read c.args.self.now) (sym text) ∙ sym read)
