use Rattle.std.proofs.Common.{◌≡◌, ◌∙◌, ◌+◌, ◌-◌, ℕ, List, length, take, drop, ap}
use Rattle.spectro_hmltext.specs.Characters.{IsCharacterFault, IsTooLong}
use Rattle.spectro_hmltext.specs.Faults.{continuation_of}
use Rattle.spectro_hmltext.proofs.CharacterLaws.{plain-IsTaken, plain-too_long, rest_of, taken_within}
use Rattle.spectro_hmltext.proofs.StopLaws.{IfErr-StopsAt-weaker}
use Rattle.spectro_hmltext.proofs.quoted_label.take_plain.Goals as goal

pub returns-clause-ok : goal.returns-clause-ok
returns-clause-ok c =
    let text = c.args.text.now in
    let plain = c.requires.plain in
    let n = c.continuation_length-length.result in
    let rest : List ℕ = take (length text - (1 + n)) (drop (1 + n) text) in
    let more : take (length text - 1) (drop 1 text) ≡ plain.1 = rest_of 1 text ∙ ap (drop 1) plain.2 in
    let behind : n ≡ length (continuation_of plain.1) = c.continuation_length-length.ensures ∙ ap (λ more. length (continuation_of more)) more in
    taken_within text rest c.args.bytes (c.args.bytes + (1 + n)) c.within.result c.within.ensures.ok
    (plain-IsTaken text plain.0 plain.1 plain.2 plain.3 plain.4 plain.5 c.requires.utf8 c.args.bytes n rest behind (rest_of (1 + n) text))

pub returns-clause-stopped : goal.returns-clause-stopped
returns-clause-stopped c =
    let text = c.args.text.now in
    let plain = c.requires.plain in
    let n = c.continuation_length-length.result in
    let more : take (length text - 1) (drop 1 text) ≡ plain.1 = rest_of 1 text ∙ ap (drop 1) plain.2 in
    let behind : n ≡ length (continuation_of plain.1) = c.continuation_length-length.ensures ∙ ap (λ more. length (continuation_of more)) more in
    IfErr-StopsAt-weaker (IsTooLong text (c.args.bytes + (1 + n))) (IsCharacterFault text c.args.bytes)
    (plain-too_long text plain.0 plain.1 plain.2 plain.3 plain.4 plain.5 c.requires.utf8 c.args.bytes n behind) c.within.result c.within.ensures.stopped
