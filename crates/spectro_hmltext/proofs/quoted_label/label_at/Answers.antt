use Rattle.std.proofs.Common.{◌≡◌, ◌+◌, take, Option, None, Some, refl}
use Rattle.std.specs.Prelude.{string_bytes, MatchOption, MatchResult, Result, Ok, Err, IsOk}
use Rattle.std.specs.Option.{IsSome}
use Rattle.std.specs.Str.{IsUtf8}
use Rattle.std.proofs.lemmas.Result.{err_from_is_err_and}
use Rattle.spectro_io.specs.QuotedLabels.{IsQuoted}
use Rattle.spectro_hmltext.specs.declared.token.Token.TheVariants.{Quote}
use Rattle.spectro_hmltext.specs.Characters.{IsCutBehind}
use Rattle.spectro_hmltext.specs.Faults.{IsLabelFault}
use Rattle.spectro_hmltext.proofs.CharacterLaws.{fault_where_cut, quoted_where_closed, rest_of, stands_where_closed, utf8_where_closed}
use Rattle.spectro_hmltext.proofs.StopLaws.{StopsAt-weaker}
use Rattle.spectro_hmltext.proofs.TokenLaws.{quote_Begins, utf8_Begins}
use Rattle.spectro_hmltext.proofs.quoted_label.label_at.Goals as goal

-- what is valid is read
accepted : {A E : Type 0} (valid : Type 0) (read : Result A E) (P : A → Type 0) (Q : E → Type 0) → valid
    → MatchResult read (λ text. P text × valid) (λ fault. (valid → ⊥) × Q fault) → IsOk read
accepted valid (Ok text) P Q holds cases = refl
accepted valid (Err fault) P Q holds cases = absurd (cases.0 holds)

-- where there is no other case, there is one
some_from_cases : {X : Type 0} (found : Option X) (IsNone : Type 0) (Is : X → Type 0) → MatchOption found IsNone Is → (IsNone → ⊥) → IsSome found
some_from_cases None IsNone Is cases not = absurd (not cases)
some_from_cases (Some x) IsNone Is cases not = refl

pub label_end-requires : goal.label_end-requires
label_end-requires c = utf8_Begins Quote c.args.text.now c.in_ok-inside.inside.now c.in_ok-inside.ensures.ok (λ e. cc) c.requires

pub returns-in_err-end-clause-stopped : goal.returns-in_err-end-clause-stopped
returns-in_err-end-clause-stopped c =
    let text = c.args.text.now in
    let inside = c.in_ok-inside.inside.now in
    let p = err_from_is_err_and c.from_residual-in_err-end.result c.from_residual-in_err-end.ensures.1 in
    rw (p.1, p.2) (StopsAt-weaker (IsCutBehind inside) (IsLabelFault text)
    (fault_where_cut text inside (quote_Begins text inside c.in_ok-inside.ensures.ok)) c.in_err-end.field-0.0 c.in_err-end.ensures.stopped)

pub unwrap-quoted-requires : goal.unwrap-quoted-requires
unwrap-quoted-requires c =
    let inside = c.in_ok-inside.inside.now in
    let whole : IsUtf8 inside = utf8_Begins Quote c.args.text.now inside c.in_ok-inside.ensures.ok (λ e. cc) c.requires in
    let valid : IsUtf8 (take c.in_ok-end.end inside) = utf8_where_closed inside c.in_ok-end.end c.in_ok-end.ensures.ok whole in
    accepted (IsUtf8 (take c.in_ok-end.end inside)) c.from_utf8.result _ _ valid c.from_utf8.ensures.cases

pub unwrap-label-requires : goal.unwrap-label-requires
unwrap-label-requires c =
    let inside = c.in_ok-inside.inside.now in
    let told = rw c.unwrap-quoted.ensures at c.from_utf8.ensures.cases in
    let front : c.unwrap-quoted.result.now ≡ take c.in_ok-end.end inside = told.0 in
    some_from_cases c.in_ok-unquoted.field-0 _ _ c.in_ok-unquoted.ensures
    (λ none. none c.in_ok-end.ensures.ok.label (rw front (quoted_where_closed inside c.in_ok-end.end c.in_ok-end.ensures.ok)))

pub returns-clause-ok : goal.returns-clause-ok
returns-clause-ok c =
    let text = c.args.text.now in
    let inside = c.in_ok-inside.inside.now in
    let told = rw c.unwrap-quoted.ensures at c.from_utf8.ensures.cases in
    let front : c.unwrap-quoted.result.now ≡ take c.in_ok-end.end inside = told.0 in
    let is : IsQuoted c.unwrap-quoted.result.now (string_bytes c.unwrap-label.result) = rw c.unwrap-label.ensures at c.in_ok-unquoted.ensures in
    stands_where_closed text inside (quote_Begins text inside c.in_ok-inside.ensures.ok) c.in_ok-end.end c.in_ok-end.ensures.ok c.unwrap-quoted.result.now
    (string_bytes c.unwrap-label.result) _ front (rest_of (c.in_ok-end.end + 1) inside) is
