use Rattle.std.proofs.Common.{◌≡◌, ◌≢◌, ◌∙◌, inl, inr, ◌+◌, ◌<◌, ◌≤◌, [], ◌∷◌, ◌++◌, length, sym, ap, subst, arith, rules}
use Rattle.std.specs.Prelude.{All, string_bytes}
use Rattle.std.proofs.lemmas.Result.{err_from_is_err_and}
use Rattle.spectro_hml.specs.Clauses.{ClausesRise}
use Rattle.spectro_hml.specs.Sheets.{all_node, see_node}
use Rattle.spectro_hmltext.specs.declared.token.Token.{Token}
use Rattle.spectro_hmltext.specs.declared.token.Token.TheVariants.{Truth, And, Less, Greater, OpenBrace, CloseBrace, Comma}
use Rattle.spectro_hmltext.specs.Faults.{AreFaultyClauses, BeginsFormula, IsClauseFault, IsFormulaFault, IsLabelFault, IsMisplaced}
use Rattle.spectro_hmltext.specs.Parts.{AreRead, IsFaultBehind, IsNotFirst}
use Rattle.spectro_hmltext.specs.Tokens.{Begins, token_of}
use Rattle.spectro_hmltext.proofs.Parsings.{AreReadSoFar, AreReadSoFar-none, AreReadSoFar-more, AreRead-last, IsClauseFault-begun, IsRead-conjunction, IsRead-observation, IsRead-truth, clauses-rise, clauses-within, conjunction-fault, grown_by, no_brace-fault, no_clause-faulty, no_comma-faulty, no_greater-fault, no_label-fault, number-within, observation-fault, shorter-more, shorter_BeginsClause, shorter_closed, utf8_BeginsClause, utf8_label}
use Rattle.spectro_hmltext.proofs.StopLaws.{StopsAt-weaker}
use Rattle.spectro_hmltext.proofs.TokenLaws.{Begins-found, shorter_Begins, utf8_Begins}
use Rattle.spectro_hmltext.proofs.parser.+formula.Goals as goal

left_for_truth : (token : Token) → BeginsFormula token → (token ≡ Less → ⊥) → (token ≡ And → ⊥) → token ≡ Truth
left_for_truth token begins no_less no_and = elim begins
    [ inl truth ↦ truth | inr others ↦ elim others [ inl less ↦ absurd (no_less less) | inr and ↦ absurd (no_and and) ] ]

pub clause-formula-requires : goal.clause-formula-requires
clause-formula-requires t c =
    let begins = c.sign-positive.ensures in
    let text = c.args.text.now in
    let begun = c.sign-positive.result.1.now in
    let shorter : length begun ≤ length text = shorter_BeginsClause text c.sign-positive.result.0 begun begins in
    (omega arith, (utf8_BeginsClause text c.sign-positive.result.0 begun begins c.requires.utf8, c.requires.nesting))

pub clause-returns-in_err-read-clause-stopped : goal.clause-returns-in_err-read-clause-stopped
clause-returns-in_err-read-clause-stopped t c =
    let p = err_from_is_err_and c.from_residual.result c.from_residual.ensures.1 in
    rw (p.1, p.2) (StopsAt-weaker (λ left kind. IsFormulaFault left kind c.args.nesting c.sign-positive.result.1.now)
    (λ left kind. IsClauseFault left kind c.args.nesting c.args.text.now)
    (IsClauseFault-begun c.args.nesting c.args.text.now c.sign-positive.result.0 c.sign-positive.result.1.now c.sign-positive.ensures)
    c.in_err-read.field-0.0 c.in_err-read.ensures.stopped)

pub clauses-loop-clauses-init : goal.clauses-loop-clauses-init
clauses-loop-clauses-init t c =
    let empty : c.new-clauses.result.items ≡ [] = c.new-clauses.ensures.items in
    subst (λ list. AreReadSoFar c.args.nesting c.args.text.now c.args.sheet.now c.args.sheet.now list c.args.text.now) (sym empty)
    (AreReadSoFar-none c.args.nesting c.args.text.now c.args.sheet.now c.requires.utf8)

pub clauses-returns-in_err-read-clause-stopped : goal.clauses-returns-in_err-read-clause-stopped
clauses-returns-in_err-read-clause-stopped t c =
    let p = err_from_is_err_and c.from_residual-in_err-read.result c.from_residual-in_err-read.ensures.1 in
    rw (p.1, p.2) (StopsAt-weaker (λ left kind. IsClauseFault left kind c.args.nesting c.loop-clauses.rest.now)
    (λ left kind. AreFaultyClauses left kind c.args.nesting c.args.text.now)
    (no_clause-faulty c.args.nesting c.args.text.now c.args.sheet.now c.loop-clauses.sheet c.loop-clauses.clauses.items c.loop-clauses.rest.now
    c.loop-clauses.invariant) c.in_err-read.field-0.0 c.in_err-read.ensures.stopped)

pub clauses-loop-clauses-smaller : goal.clauses-loop-clauses-smaller
clauses-loop-clauses-smaller t c =
    let ended = c.in_ok-read.read.rest.now in
    let next = c.token_at-token.result.1.now in
    let comma : Begins Comma ended next = Begins-found Comma ended next c.token_at-token.result.0 c.token_at-token.ensures.token
    c.token_at-token.ensures.rest c.in-Comma.is in
    shorter-more c.args.nesting c.args.text.now c.args.sheet.now c.loop-clauses.sheet c.loop-clauses.clauses.items c.loop-clauses.rest.now
    c.loop-clauses.invariant c.clause.new.sheet c.in_ok-read.read.clause c.in_ok-read.read.rest.now c.in_ok-read.ensures.ok next comma

pub clauses-loop-clauses-preserved : goal.clauses-loop-clauses-preserved
clauses-loop-clauses-preserved t c =
    let ended = c.in_ok-read.read.rest.now in
    let next = c.token_at-token.result.1.now in
    let comma : Begins Comma ended next = Begins-found Comma ended next c.token_at-token.result.0 c.token_at-token.ensures.token
    c.token_at-token.ensures.rest c.in-Comma.is in
    let grown = grown_by c.loop-clauses.clauses.items c.reserve.new.self.items c.push_reserved.new.self.items c.in_ok-read.read.clause
    c.reserve.ensures.items c.push_reserved.ensures.items in
    subst (λ list. AreReadSoFar c.args.nesting c.args.text.now c.args.sheet.now c.clause.new.sheet list next) (sym grown)
    (AreReadSoFar-more c.args.nesting c.args.text.now c.args.sheet.now c.loop-clauses.sheet c.loop-clauses.clauses.items c.loop-clauses.rest.now
    c.loop-clauses.invariant c.clause.new.sheet c.in_ok-read.read.clause c.in_ok-read.read.rest.now c.in_ok-read.ensures.ok next comma)

pub clauses-returns-in-CloseBrace-clause-ok : goal.clauses-returns-in-CloseBrace-clause-ok
clauses-returns-in-CloseBrace-clause-ok t c =
    let ended = c.in_ok-read.read.rest.now in
    let next = c.token_at-token.result.1.now in
    let brace : Begins CloseBrace ended next = Begins-found CloseBrace ended next c.token_at-token.result.0 c.token_at-token.ensures.token
    c.token_at-token.ensures.rest c.in-CloseBrace.is in
    let grown = grown_by c.loop-clauses.clauses.items c.reserve.new.self.items c.push_reserved.new.self.items c.in_ok-read.read.clause
    c.reserve.ensures.items c.push_reserved.ensures.items in
    subst (λ list. AreRead c.args.nesting c.args.text.now c.args.sheet.now c.clause.new.sheet list next) (sym grown)
    (AreRead-last c.args.nesting c.args.text.now c.args.sheet.now c.loop-clauses.sheet c.loop-clauses.clauses.items c.loop-clauses.rest.now
    c.loop-clauses.invariant c.clause.new.sheet c.in_ok-read.read.clause c.in_ok-read.read.rest.now c.in_ok-read.ensures.ok next brace)

pub clauses-returns-in_default : goal.clauses-returns-in_default
clauses-returns-in_default t c =
    let ended = c.in_ok-read.read.rest.now in
    let no_comma : token_of ended ≢ Comma = λ e. c.in_default.not-Comma (c.token_at-token.ensures.token ∙ e) in
    let no_brace : token_of ended ≢ CloseBrace = λ e. c.in_default.not-CloseBrace (c.token_at-token.ensures.token ∙ e) in
    record {
      ok = tt;
      stopped = StopsAt-weaker (IsMisplaced ended) (λ left kind. AreFaultyClauses left kind c.args.nesting c.args.text.now)
          (no_comma-faulty c.args.nesting c.args.text.now c.args.sheet.now c.loop-clauses.sheet c.loop-clauses.clauses.items c.loop-clauses.rest.now
          c.loop-clauses.invariant c.clause.new.sheet c.in_ok-read.read.clause c.in_ok-read.read.rest.now c.in_ok-read.ensures.ok no_comma no_brace)
          c.misplaced.result c.misplaced.ensures;
    }

pub conjunction-returns-in_err-opened-clause-stopped : goal.conjunction-returns-in_err-opened-clause-stopped
conjunction-returns-in_err-opened-clause-stopped t c =
    let p = err_from_is_err_and c.from_residual.result c.from_residual.ensures.1 in
    rw (p.1, p.2) (StopsAt-weaker (IsNotFirst OpenBrace c.args.word.now) (IsFaultBehind And c.args.nesting c.args.word.now)
    (no_brace-fault c.args.nesting c.args.word.now c.requires.nesting) c.in_err-opened.field-0.0 c.in_err-opened.ensures.stopped)

pub conjunction-clauses-requires : goal.conjunction-clauses-requires
conjunction-clauses-requires t c =
    let word = c.args.word.now in
    let opened = c.in_ok-opened.opened.now in
    let brace : Begins OpenBrace word opened = c.in_ok-opened.ensures.ok in
    let shorter : length opened < length word = shorter_Begins OpenBrace word opened brace (λ e. cc) in
    (omega arith, (utf8_Begins OpenBrace word opened brace (λ e. cc) c.requires.utf8, omega arith))

pub conjunction-returns-in_err-listed-clause-stopped : goal.conjunction-returns-in_err-listed-clause-stopped
conjunction-returns-in_err-listed-clause-stopped t c =
    let p = err_from_is_err_and c.from_residual-in_err-listed.result c.from_residual-in_err-listed.ensures.1 in
    rw (p.1, p.2) (StopsAt-weaker (λ left kind. AreFaultyClauses left kind (c.args.nesting + 1) c.in_ok-opened.opened.now)
    (IsFaultBehind And c.args.nesting c.args.word.now)
    (conjunction-fault c.args.nesting c.args.word.now c.requires.nesting c.in_ok-opened.opened.now c.in_ok-opened.ensures.ok) c.in_err-listed.field-0.0
    c.in_err-listed.ensures.stopped)

pub conjunction-push_all-requires-clause-rise : goal.conjunction-push_all-requires-clause-rise
conjunction-push_all-requires-clause-rise t c =
    subst ClausesRise (sym c.deref.ensures.value)
    (clauses-rise (c.args.nesting + 1) c.in_ok-opened.opened.now c.args.sheet.now c.clauses.new.sheet c.in_ok-listed.listed.clauses.items
    c.in_ok-listed.listed.rest.now c.in_ok-listed.ensures.ok)

pub conjunction-push_all-requires-clause-before : goal.conjunction-push_all-requires-clause-before
conjunction-push_all-requires-clause-before t c =
    subst (λ list. All (λ clause. clause.node < length c.clauses.new.sheet) list) (sym c.deref.ensures.value)
    (clauses-within (c.args.nesting + 1) c.in_ok-opened.opened.now c.args.sheet.now c.clauses.new.sheet c.in_ok-listed.listed.clauses.items
    c.in_ok-listed.listed.rest.now c.in_ok-listed.ensures.ok)

pub conjunction-returns-clause-ok : goal.conjunction-returns-clause-ok
conjunction-returns-clause-ok t c =
    let list = c.in_ok-listed.listed.clauses.items in
    let grown : c.push_all.new.self ≡ c.clauses.new.sheet ++ all_node list ∷ [] = c.in_ok-node.ensures.ok
    ∙ ap (λ list. c.clauses.new.sheet ++ all_node list ∷ []) c.deref.ensures.value in
    IsRead-conjunction c.args.nesting c.args.word.now c.requires.nesting c.in_ok-opened.opened.now c.in_ok-opened.ensures.ok c.args.sheet.now
    c.clauses.new.sheet c.push_all.new.self list c.in_ok-node.node c.in_ok-listed.listed.rest.now
    c.in_ok-listed.ensures.ok grown c.in_ok-node.ensures.number

pub formula-observation-requires : goal.formula-observation-requires
formula-observation-requires t c =
    let text = c.args.text.now in
    let behind = c.in_ok-token.behind.now in
    let begun = c.in_ok-token.ensures.ok in
    let begins : Begins Less text behind = subst (λ token. Begins token text behind) c.in-Less.is begun.begins in
    let shorter : length behind < length text = shorter_Begins Less text behind begins (λ e. cc) in
    (omega arith, (begun.utf8, begun.shallow))

pub formula-conjunction-requires : goal.formula-conjunction-requires
formula-conjunction-requires t c =
    let text = c.args.text.now in
    let behind = c.in_ok-token.behind.now in
    let begun = c.in_ok-token.ensures.ok in
    let begins : Begins And text behind = subst (λ token. Begins token text behind) c.in-And.is begun.begins in
    let shorter : length behind < length text = shorter_Begins And text behind begins (λ e. cc) in
    (omega arith, (begun.utf8, begun.shallow))

pub formula-returns-in_ok-node-in_default : goal.formula-returns-in_ok-node-in_default
formula-returns-in_ok-node-in_default t c =
    let text = c.args.text.now in
    let behind = c.in_ok-token.behind.now in
    let begun = c.in_ok-token.ensures.ok in
    let truth : c.in_ok-token.token ≡ Truth = left_for_truth c.in_ok-token.token begun.formula c.in_default.not-Less c.in_default.not-And in
    let begins : Begins Truth text behind = subst (λ token. Begins token text behind) truth begun.begins in
    record {
      ok = IsRead-truth c.args.nesting text c.args.sheet.now c.push_all.new.self c.in_ok-node-in_default.node behind begun.shallow begins
          c.in_ok-node-in_default.ensures.ok c.in_ok-node-in_default.ensures.number begun.utf8;
      stopped = tt;
    }

pub observation-returns-in_err-label-clause-stopped : goal.observation-returns-in_err-label-clause-stopped
observation-returns-in_err-label-clause-stopped t c =
    let p = err_from_is_err_and c.from_residual.result c.from_residual.ensures.1 in
    rw (p.1, p.2) (StopsAt-weaker (IsLabelFault c.args.opened.now) (IsFaultBehind Less c.args.nesting c.args.opened.now)
    (no_label-fault c.args.nesting c.args.opened.now c.requires.nesting) c.in_err-label.field-0.0 c.in_err-label.ensures.stopped)

pub observation-returns-in_err-closed-clause-stopped : goal.observation-returns-in_err-closed-clause-stopped
observation-returns-in_err-closed-clause-stopped t c =
    let p = err_from_is_err_and c.from_residual-in_err-closed.result c.from_residual-in_err-closed.ensures.1 in
    rw (p.1, p.2) (StopsAt-weaker (IsNotFirst Greater c.in_ok-label.labelled.now) (IsFaultBehind Less c.args.nesting c.args.opened.now)
    (no_greater-fault c.args.nesting c.args.opened.now
    (string_bytes c.in_ok-label.label) c.in_ok-label.labelled.now c.requires.nesting c.in_ok-label.ensures.ok) c.in_err-closed.field-0.0
    c.in_err-closed.ensures.stopped)

pub observation-formula-requires : goal.observation-formula-requires
observation-formula-requires t c =
    let opened = c.args.opened.now in
    let label = string_bytes c.in_ok-label.label in
    let labelled = c.in_ok-label.labelled.now in
    let closed = c.in_ok-closed.closed.now in
    let greater : Begins Greater labelled closed = c.in_ok-closed.ensures.ok in
    let shorter : length closed < length opened = shorter_closed opened label labelled closed c.in_ok-label.ensures.ok greater in (
      omega arith,
      (
        utf8_Begins Greater labelled closed greater (λ e. cc) (utf8_label opened label labelled c.in_ok-label.ensures.ok c.requires.utf8),
        omega
            arith,
      ),
    )

pub observation-returns-in_err-read-clause-stopped : goal.observation-returns-in_err-read-clause-stopped
observation-returns-in_err-read-clause-stopped t c =
    let p = err_from_is_err_and c.from_residual-in_err-read.result c.from_residual-in_err-read.ensures.1 in
    rw (p.1, p.2) (StopsAt-weaker (λ left kind. IsFormulaFault left kind (c.args.nesting + 1) c.in_ok-closed.closed.now)
    (IsFaultBehind Less c.args.nesting c.args.opened.now)
    (observation-fault c.args.nesting c.args.opened.now
    (string_bytes c.in_ok-label.label) c.in_ok-label.labelled.now c.requires.nesting c.in_ok-label.ensures.ok c.in_ok-closed.closed.now
    c.in_ok-closed.ensures.ok) c.in_err-read.field-0.0 c.in_err-read.ensures.stopped)

pub observation-push_see-requires-clause-before : goal.observation-push_see-requires-clause-before
observation-push_see-requires-clause-before t c =
    number-within (c.args.nesting + 1) c.in_ok-closed.closed.now c.args.sheet.now c.formula.new.sheet c.in_ok-read.read.node c.in_ok-read.read.rest.now
    c.in_ok-read.ensures.ok

pub observation-returns-clause-ok : goal.observation-returns-clause-ok
observation-returns-clause-ok t c =
    let text : c.as_str.result.now ≡ string_bytes c.in_ok-label.label = search rules in
    let grown : c.push_see.new.self ≡ c.formula.new.sheet ++ see_node
    (string_bytes c.in_ok-label.label) c.in_ok-read.read.node ∷ [] = c.in_ok-node.ensures.ok
    ∙ ap (λ label. c.formula.new.sheet ++ see_node label c.in_ok-read.read.node ∷ []) text in
    IsRead-observation c.args.nesting c.args.opened.now
    (string_bytes c.in_ok-label.label) c.in_ok-label.labelled.now c.requires.nesting c.in_ok-label.ensures.ok c.in_ok-closed.closed.now
    c.in_ok-closed.ensures.ok c.args.sheet.now c.formula.new.sheet c.push_see.new.self c.in_ok-read.read.node c.in_ok-node.node c.in_ok-read.read.rest.now
    c.in_ok-read.ensures.ok grown c.in_ok-node.ensures.number
