use Rattle.std.proofs.Common.{◌∙◌, ap}
use Rattle.spectro_io.specs.Blanks.{skip_blanks}
use Rattle.spectro_io.proofs.Blanks.{blank_test}
use Rattle.spectro_lines.proofs.line.is_blank.Goals as goal

pub returns : goal.returns
returns c =
    blank_test c.args.line.now c.trim_start.result.now c.is_empty.result (c.trim_start.ensures ∙ ap skip_blanks c.as_bytes.ensures.value) c.is_empty.ensures
