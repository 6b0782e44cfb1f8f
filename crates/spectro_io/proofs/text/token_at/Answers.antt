use Rattle.std.proofs.Common.{◌≡◌, ◌∙◌, List, ℕ, [], length, take, drop, sym, ap, subst}
use Rattle.std.specs.Prelude.{◌↔◌, true, Option}
use Rattle.std.specs.Option.{unwrap_or}
use Rattle.std.specs.List.{list_all, position, position_or_len, before_first}
use Rattle.spectro_io.specs.Blanks.{is_blank, skip_blanks}
use Rattle.spectro_io.proofs.LineFeeds.{place-position}
use Rattle.spectro_io.proofs.Tokens.{no_token, length-first_token}
use Rattle.spectro_io.proofs.text.token_at.Goals as goal

-- where the token ends
place : (text : List ℕ) (found : Option ℕ) (n : ℕ) → found ≡ position is_blank text → n ≡ unwrap_or found (length text) → n ≡ position_or_len is_blank text
place text found n is at = at ∙ ap (λ found. unwrap_or found (length text)) is ∙ place-position is_blank text

pub returns-clause-token : goal.returns-clause-token
returns-clause-token c =
    let text = c.trim_start-text.result.now in
    c.split_at.ensures.front ∙ ap (λ n. take n text) (place text _ _ c.first_blank.ensures c.unwrap_or.ensures)
    ∙ ap (before_first is_blank) c.trim_start-text.ensures

pub returns-clause-rest : goal.returns-clause-rest
returns-clause-rest c =
    let text = c.trim_start-text.result.now in
    c.split_at.ensures.back ∙ ap (λ n. drop n text) (place text _ _ c.first_blank.ensures c.unwrap_or.ensures)
    ∙ ap (λ text. drop (position_or_len is_blank text) text) c.trim_start-text.ensures
    ∙ ap (λ n. drop n (skip_blanks c.args.line.now)) (sym (length-first_token c.args.line.now))

pub returns-clause-none : goal.returns-clause-none
returns-clause-none c = subst (λ token. token ≡ [] ↔ list_all is_blank c.args.line.now ≡ true) (sym (returns-clause-token c)) (no_token c.args.line.now)
