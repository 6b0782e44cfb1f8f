use Rattle.std.proofs.Common.{◌≡◌, ◌∙◌, [], ◌∷◌, ◌++◌, ◌==◌, ◌<◌, length, sym, ap, subst}
use Rattle.std.proofs.lemmas.Bool.{both_ways}
use Rattle.spectro_io.specs.Tokens.{first_token}
use Rattle.spectro_hmltext.specs.NodeReading.{clause_read}
use Rattle.spectro_io.proofs.Blanks.{none_left}
use Rattle.spectro_hmltext.proofs.NodeTokens.{after-shorter}
use Rattle.spectro_hmltext.proofs.NodeClauses.{HasReadClauses, reads_on, reads_all, reads_no_more}
use Rattle.spectro_hmltext.proofs.node_line.clauses_in.Goals as goal

pub returns-then-is_empty : goal.returns-then-is_empty
returns-then-is_empty c =
    reads_all c.args.text.now c.loop-token.rest.now c.loop-token.clauses.items c.loop-token.invariant
    (c.token_at.ensures.none.0 (none_left c.token_at.result.0.now (sym c.is_empty.ensures ∙ c.if-is_empty.true)))

pub returns-in_default : goal.returns-in_default
returns-in_default c =
    reads_no_more c.args.text.now c.loop-token.rest.now c.loop-token.clauses.items c.loop-token.invariant
    (λ blank. both_ways c.is_empty.result c.if-is_empty.false (c.is_empty.ensures ∙ ap (λ token. length token == 0) (c.token_at.ensures.none.1 blank)))
    (sym c.in_default.is ∙ c.clause_in.ensures ∙ ap clause_read c.token_at.ensures.token)

pub loop-token-preserved : goal.loop-token-preserved
loop-token-preserved c =
    let found = reads_on c.args.text.now c.loop-token.rest.now c.loop-token.clauses.items c.loop-token.invariant c.in-Some.clause (sym c.in-Some.is
    ∙ c.clause_in.ensures ∙ ap clause_read c.token_at.ensures.token) in
    let behind : HasReadClauses c.args.text.now c.token_at.result.1.now (c.loop-token.clauses.items ++ c.in-Some.clause ∷ []) = subst
    (λ rest. HasReadClauses c.args.text.now rest (c.loop-token.clauses.items ++ c.in-Some.clause ∷ [])) (sym c.token_at.ensures.rest) found in
    subst (HasReadClauses c.args.text.now c.token_at.result.1.now) (sym c.in_ok-push.ensures.items) behind

pub loop-token-smaller : goal.loop-token-smaller
loop-token-smaller c =
    let some : first_token c.loop-token.rest.now ≡ [] → ⊥ = λ none.
    both_ways c.is_empty.result c.if-is_empty.false (c.is_empty.ensures ∙ ap (λ token. length token == 0) (c.token_at.ensures.token ∙ none)) in
    let shorter : length c.token_at.result.1.now < length c.loop-token.rest.now = subst (λ rest. length rest < length c.loop-token.rest.now)
    (sym c.token_at.ensures.rest) (after-shorter c.loop-token.rest.now some) in
    shorter
