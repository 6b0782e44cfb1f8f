-- The first two tokens say what the line is, and the functions that it is handed on to say the rest.
use Rattle.std.proofs.Common.{◌≡◌, ◌∙◌, true, refl, sym, ap, length}
use Rattle.std.specs.Prelude.{codes}
use Rattle.std.proofs.lemmas.Option.{MatchOption-at_some, MatchOption-at_none}
use Rattle.spectro_io.specs.Numbers.{number_of}
use Rattle.spectro_io.specs.Tokens.{first_token}
use Rattle.spectro_hmltext.specs.NodeLines.{all_form, see_form}
use Rattle.spectro_hmltext.specs.NodeFaults.{bad_line}
use Rattle.spectro_hmltext.proofs.NodeForms.{AreTokens, IsFormRead, no_number, tokens_taken, same_word, other_word, word-refused, observation-refused, clauses-refused, see-IsNodeForm, see_read, all_read}
use Rattle.spectro_hmltext.proofs.NodeOutcomes.{told_refused, told_appended, inside-utf8}
use Rattle.spectro_hmltext.proofs.node_line.parse_node_line.Goals.{After-token_at-2, After-eq, After-eq-2, After-put_see, After-put_all}
use Rattle.spectro_hmltext.proofs.node_line.parse_node_line.Goals as goal

-- ---- what was taken of the line
tokens : (c : After-token_at-2) → AreTokens c.args.line.now c.token_at.result.0.now c.token_at-2.result.0.now c.token_at-2.result.1.now
tokens c = tokens_taken c.args.line.now c.as_bytes.result.now c.token_at.result.0.now c.token_at.result.1.now c.token_at-2.result.0.now
    c.token_at-2.result.1.now c.as_bytes.ensures.value c.token_at.ensures.token c.token_at.ensures.rest c.token_at-2.ensures.token c.token_at-2.ensures.rest

see : (c : After-eq) → c.eq.result ≡ true → c.token_at-2.result.0.now ≡ codes "see"
see c is = same_word c.token_at-2.result.0.now c.as_slice.result.now (codes "see") c.eq.result c.eq.ensures c.as_slice.ensures is

all : (c : After-eq-2) → c.eq-2.result ≡ true → c.token_at-2.result.0.now ≡ codes "all"
all c is = same_word c.token_at-2.result.0.now c.as_slice-2.result.now (codes "all") c.eq-2.result c.eq-2.ensures c.as_slice-2.ensures is

-- ---- no number, and a word that is neither
pub returns-in_default-clause-refused : goal.returns-in_default-clause-refused
returns-in_default-clause-refused c =
    bad_line (no_number c.args.line.now
    (sym c.in_default.is ∙ c.number.ensures ∙ ap number_of (c.token_at.ensures.token ∙ ap first_token c.as_bytes.ensures.value))) refl

pub returns-clause-refused : goal.returns-clause-refused
returns-clause-refused c =
    let not_see = other_word c.token_at-2.result.0.now c.as_slice.result.now (codes "see") c.eq.result c.eq.ensures c.as_slice.ensures c.if-eq.false in
    let not_all = other_word c.token_at-2.result.0.now c.as_slice-2.result.now
    (codes "all") c.eq-2.result c.eq-2.ensures c.as_slice-2.ensures c.if-eq-2.false in
    bad_line (word-refused _ _ _ _ (tokens (goal.at.returns-clause-refused c).After-token_at-2) not_see not_all) refl

-- ---- an observation
pub returns-in_default-observation_in-clause-refused : goal.returns-in_default-observation_in-clause-refused
returns-in_default-observation_in-clause-refused c =
    let at = goal.at.returns-in_default-observation_in-clause-refused c in
    bad_line (observation-refused _ _ _ _ (tokens at.After-token_at-2) (see at.After-eq c.if-eq.true) c.in_default-observation_in.ensures) refl

pub returns-in_default-from_utf8-clause-refused : goal.returns-in_default-from_utf8-clause-refused
returns-in_default-from_utf8-clause-refused c =
    let at = goal.at.returns-in_default-from_utf8-clause-refused c in
    let is = see-IsNodeForm c.args.line.now _ _ _ (tokens at.After-token_at-2) c.in-Some.number c.in-Some.ensures
    c.in-Some-observation_in.observation (see at.After-eq c.if-eq.true) c.in-Some-observation_in.ensures in
    absurd (c.in_default-from_utf8.ensures.cases.0 (inside-utf8 c.args.line.now c.in-Some-observation_in.observation.inside.now _ _ is c.utf8.line))

observed : (c : After-put_see) → AreTokens c.args.line.now c.token_at.result.0.now c.token_at-2.result.0.now c.token_at-2.result.1.now
    → c.token_at-2.result.0.now ≡ codes "see"
    → IsFormRead c.args.line.now (see_form c.in-Some.number c.in-Ok.inside.now c.in-Some-observation_in.observation.next)
observed c tokens see = see_read c.args.line.now _ _ _ tokens c.in-Some.number c.in-Some.ensures c.in-Some-observation_in.observation c.in-Ok.inside.now see
    c.in-Some-observation_in.ensures c.in-Ok.ensures.cases.0

pub returns-then-eq-clause-ok : goal.returns-then-eq-clause-ok
returns-then-eq-clause-ok c =
    let at = goal.at.returns-then-eq-clause-ok c in
    let read = observed at.After-put_see (tokens at.After-token_at-2) (see at.After-eq c.if-eq.true) in
    told_appended c.args.line.now read.form _ read.is read.same c.args.sheet.now c.put_see.new.sheet c.put_see.result c.put_see.ensures.ok

pub returns-then-eq-clause-refused : goal.returns-then-eq-clause-refused
returns-then-eq-clause-refused c =
    let at = goal.at.returns-then-eq-clause-refused c in
    let read = observed at.After-put_see (tokens at.After-token_at-2) (see at.After-eq c.if-eq.true) in
    told_refused c.args.line.now read.form _ read.is read.same (length c.args.sheet.now) c.put_see.result c.put_see.ensures.refused

-- ---- a conjunction
pub returns-in_default-2-clause-refused : goal.returns-in_default-2-clause-refused
returns-in_default-2-clause-refused c =
    let at = goal.at.returns-in_default-2-clause-refused c in
    bad_line (clauses-refused _ _ _ _ (tokens at.After-token_at-2) (all at.After-eq-2 c.if-eq-2.true)
    (MatchOption-at_none _ _ c.in_default-2.is c.in_ok-clauses.ensures)) refl

conjoined : (c : After-put_all) → AreTokens c.args.line.now c.token_at.result.0.now c.token_at-2.result.0.now c.token_at-2.result.1.now
    → c.token_at-2.result.0.now ≡ codes "all" → IsFormRead c.args.line.now (all_form c.in-Some.number c.as_slice-then-eq-2.result.now)
conjoined c tokens all =
    let read = all_read c.args.line.now _ _ _ tokens c.in-Some.number c.in-Some.ensures c.in-Some-2.clauses.items all
    (MatchOption-at_some _ _ c.in-Some-2.clauses c.in-Some-2.is c.in_ok-clauses.ensures) in
    record { form = read.form; is = read.is; same = ap (λ clauses. all_form c.in-Some.number clauses) c.as_slice-then-eq-2.ensures.value ∙ read.same }

pub returns-then-eq-2-clause-ok : goal.returns-then-eq-2-clause-ok
returns-then-eq-2-clause-ok c =
    let at = goal.at.returns-then-eq-2-clause-ok c in
    let read = conjoined at.After-put_all (tokens at.After-token_at-2) (all at.After-eq-2 c.if-eq-2.true) in
    told_appended c.args.line.now read.form _ read.is read.same c.args.sheet.now c.put_all.new.sheet c.put_all.result c.put_all.ensures.ok

pub returns-then-eq-2-clause-refused : goal.returns-then-eq-2-clause-refused
returns-then-eq-2-clause-refused c =
    let at = goal.at.returns-then-eq-2-clause-refused c in
    let read = conjoined at.After-put_all (tokens at.After-token_at-2) (all at.After-eq-2 c.if-eq-2.true) in
    told_refused c.args.line.now read.form _ read.is read.same (length c.args.sheet.now) c.put_all.result c.put_all.ensures.refused
