use Rattle.std.proofs.Common.{◌≡◌, ◌∙◌, ◌+◌, ◌-◌, ◌∷◌, ℕ, List, length, take, drop, get_or, true, false, refl, sym, subst}
use Rattle.spectro_io.specs.QuotedLabels.{is_escaped}
use Rattle.spectro_hmltext.specs.Characters.{IsCharacterFault, IsTooLong}
use Rattle.spectro_hmltext.specs.Stops.{StopsAt}
use Rattle.spectro_hmltext.proofs.CharacterLaws.{escape-IsTaken, escape-too_long, no_escape-fault, taken_within, two_bytes}
use Rattle.spectro_hmltext.proofs.StopLaws.{IfErr-StopsAt-weaker}
use Rattle.spectro_hmltext.proofs.quoted_label.take_escape.Goals as goal

pub returns-then-not-is_escaped-clause-stopped : goal.returns-then-not-is_escaped-clause-stopped
returns-then-not-is_escaped-clause-stopped c =
    let text = c.args.text.now in
    let rest : List ℕ = take (length text - 2) (drop 2 text) in
    let cut : text ≡ 92 ∷ get_or text 1 0 ∷ rest = two_bytes text c.requires.escape.0 c.requires.escape.1 c.in-len2-up.len_at_least in
    let plain : is_escaped (get_or text 1 0) ≡ false = sym c.is_escaped.ensures ∙ c.if-not-is_escaped.true in
    subst (StopsAt (IsCharacterFault text c.args.bytes)) (sym c.bad_label.ensures)
    (text, refl, no_escape-fault text (get_or text 1 0) rest cut c.args.bytes plain)

pub returns-clause-ok : goal.returns-clause-ok
returns-clause-ok c =
    let text = c.args.text.now in
    let rest : List ℕ = take (length text - 2) (drop 2 text) in
    let cut : text ≡ 92 ∷ get_or text 1 0 ∷ rest = two_bytes text c.requires.escape.0 c.requires.escape.1 c.in-len2-up.len_at_least in
    let special : is_escaped (get_or text 1 0) ≡ true = sym c.is_escaped.ensures ∙ c.if-not-is_escaped.false in
    taken_within text rest c.args.bytes (c.args.bytes + 1) c.within.result c.within.ensures.ok
    (escape-IsTaken text (get_or text 1 0) rest cut c.args.bytes special c.requires.utf8)

pub returns-clause-stopped : goal.returns-clause-stopped
returns-clause-stopped c =
    let text = c.args.text.now in
    let rest : List ℕ = take (length text - 2) (drop 2 text) in
    let cut : text ≡ 92 ∷ get_or text 1 0 ∷ rest = two_bytes text c.requires.escape.0 c.requires.escape.1 c.in-len2-up.len_at_least in
    let special : is_escaped (get_or text 1 0) ≡ true = sym c.is_escaped.ensures ∙ c.if-not-is_escaped.false in
    IfErr-StopsAt-weaker (IsTooLong text (c.args.bytes + 1)) (IsCharacterFault text c.args.bytes)
    (escape-too_long text (get_or text 1 0) rest cut c.args.bytes special) c.within.result c.within.ensures.stopped
