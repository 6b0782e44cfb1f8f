use Rattle.std.proofs.Common.{◌∙◌, sym}
use Rattle.spectro_lines.proofs.Splits.{split-ranges, split-none}
use Rattle.spectro_lines.proofs.line.split_at_feed.Goals as goal

pub returns-in_err-place : goal.returns-in_err-place
returns-in_err-place c = rw c.from_residual.ensures (split-none c.args.bytes.now (sym c.line_feed.ensures ∙ c.in_err-place.was))

pub returns : goal.returns
returns c = split-ranges c.args.bytes.now c.in_ok-place.place (sym c.line_feed.ensures ∙ c.in_ok-place.was)
