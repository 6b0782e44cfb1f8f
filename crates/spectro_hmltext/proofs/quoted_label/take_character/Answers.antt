use Rattle.std.proofs.Common.{◌≡◌, get_or, refl, sym, subst, rules}
use Rattle.spectro_hmltext.specs.Characters.{IsCharacterFault}
use Rattle.spectro_hmltext.specs.Stops.{StopsAt}
use Rattle.spectro_hmltext.proofs.CharacterLaws.{line_feed-fault}
use Rattle.spectro_hmltext.proofs.quoted_label.take_character.Goals as goal

pub returns-in-10-clause-stopped : goal.returns-in-10-clause-stopped
returns-in-10-clause-stopped c =
    let text = c.args.text.now in
    let first : get_or text 0 0 ≡ 10 = search rules in
    subst (StopsAt (IsCharacterFault text c.args.bytes)) (sym c.bad_label.ensures) (text, refl, line_feed-fault text c.args.bytes c.in-10.len_at_least first)
