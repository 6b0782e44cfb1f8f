use Rattle.std.proofs.Common.{rules}
use Rattle.spectro_notions.proofs.SixParts.{small_parts}
use Rattle.spectro_notions.proofs.words.bound_in.Goals as goal

pub returns : goal.returns
returns c =
    small_parts c.args.parts (search rules) c.in_ok-narrow.field-0 c.in_ok-narrow-2.field-0 c.in_ok-narrow-3.field-0 c.in_ok-narrow-4.field-0
    c.in_ok-narrow-5.field-0 c.in_ok-narrow-6.field-0 c.in_ok-narrow.ensures c.in_ok-narrow-2.ensures c.in_ok-narrow-3.ensures c.in_ok-narrow-4.ensures
    c.in_ok-narrow-5.ensures c.in_ok-narrow-6.ensures
