use Rattle.std.proofs.Common.{◌≢◌, ◌∙◌, inl, inr, refl, sym, ap, length, subst, arith}
use Rattle.std.proofs.lemmas.Bool.{true≢false}
use Rattle.spectro_io.specs.Blanks.{skip_blanks}
use Rattle.spectro_hmltext.specs.declared.token.Token.{Token}
use Rattle.spectro_hmltext.specs.declared.token.Token.TheVariants.{Other}
use Rattle.spectro_hmltext.specs.Faults.{BeginsFormula, IsFormulaFault, IsMisplaced}
use Rattle.spectro_hmltext.specs.Tokens.{Begins, token_of}
use Rattle.spectro_hmltext.proofs.StopLaws.{StopsAt-weaker}
use Rattle.spectro_hmltext.proofs.TokenLaws.{utf8_Begins}
use Rattle.spectro_hmltext.proofs.parser.begun.Goals as goal

known : (token : Token) → BeginsFormula token → token ≢ Other
known token begins = elim begins [ inl truth ↦ λ e. cc | inr others ↦ elim others [ inl less ↦ λ e. cc | inr and ↦ λ e. cc ] ]

pub returns-then-not-begins_formula-clause-stopped : goal.returns-then-not-begins_formula-clause-stopped
returns-then-not-begins_formula-clause-stopped c =
    let text = c.args.text.now in
    let none : ¬ BeginsFormula (token_of text) = λ begins. true≢false
    (sym (c.begins_formula.ensures.1 (subst BeginsFormula (sym c.token_at-token.ensures.token) begins)) ∙ c.if-not-begins_formula.true) in
    StopsAt-weaker (IsMisplaced text) (λ left kind. IsFormulaFault left kind c.args.nesting text)
    (λ left kind is. IsFormulaFault.no_formula c.args.nesting text none is) c.misplaced.result c.misplaced.ensures

pub returns-then-nesting-gt-MAX_NESTING-clause-stopped : goal.returns-then-nesting-gt-MAX_NESTING-clause-stopped
returns-then-nesting-gt-MAX_NESTING-clause-stopped c =
    let text = c.args.text.now in
    let begins : BeginsFormula (token_of text) = subst BeginsFormula c.token_at-token.ensures.token
    (c.begins_formula.ensures.0 c.if-not-begins_formula.false) in
    (skip_blanks text, ap length (sym c.trim_start.ensures), IsFormulaFault.too_deep c.args.nesting text begins c.if-nesting-gt-MAX_NESTING.true refl refl)

pub returns-clause-ok : goal.returns-clause-ok
returns-clause-ok c =
    let token = c.token_at-token.result.0 in
    let rest = c.token_at-token.result.1.now in
    let begins : Begins token c.args.text.now rest = record { first = sym c.token_at-token.ensures.token; behind = c.token_at-token.ensures.rest } in
    let formula : BeginsFormula token = c.begins_formula.ensures.0 c.if-not-begins_formula.false in
    record { begins = begins; formula = formula; shallow = omega arith; utf8 = utf8_Begins token c.args.text.now rest begins (known token formula) c.requires }
