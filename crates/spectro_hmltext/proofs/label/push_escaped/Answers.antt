use Rattle.std.proofs.Common.{◌≢◌, arith}
use Rattle.std.specs.Prelude.{string_bytes}
use Rattle.std.specs.Char.{encode_utf8}
use Rattle.spectro_hmltext.proofs.WrittenLabels.{escaped-letter, letter-put}
use Rattle.spectro_hmltext.proofs.label.push_escaped.Goals as goal

pub returns-in_default : goal.returns-in_default
returns-in_default c =
    let quote : c.args.letter ≢ 34 = omega arith in
    let backslash : c.args.letter ≢ 92 = omega arith in
    rw (escaped-letter c.args.letter quote backslash)
    (letter-put c.push.result (string_bytes c.args.text.now) _ (encode_utf8 c.args.letter) c.push.ensures.bytes)
