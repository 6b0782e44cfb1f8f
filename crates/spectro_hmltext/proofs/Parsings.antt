-- What was read of a formula's text, put together.
use Rattle.std.proofs.Common.{◌≡◌, ◌≢◌, ◌∙◌, ℕ, ◌+◌, ◌-◌, ◌<◌, ◌≤◌, Bool, true, false, List, [], ◌∷◌, ◌++◌, length, refl, sym, ap, subst, arith, append_assoc, length-append}
use Rattle.std.specs.Prelude.{All}
use Rattle.std.specs.Str.{IsUtf8}
use Rattle.std.proofs.lemmas.List.{append-nil}
use Rattle.spectro_spec.specs.System.{Label}
use Rattle.spectro_spec.specs.Formula.{Formula, Clauses, see, all, no_clauses, plus, minus}
use Rattle.spectro_io.specs.QuotedLabels.{escaped}
use Rattle.spectro_io.proofs.Utf8Cuts.{utf8_behind, utf8-skip_blanks}
use Rattle.spectro_hml.specs.declared.node.Clause.{Clause}
use Rattle.spectro_hml.specs.Clauses.{ClausesRise}
use Rattle.spectro_hml.specs.Sheets.{SheetNode, all_node, see_node, unfolded}
use Rattle.spectro_hmltext.specs.declared.error.TextKind.{TextKind}
use Rattle.spectro_hmltext.specs.declared.token.Token.TheVariants.{Truth, And, Not, Less, Greater, OpenBrace, CloseBrace, Comma, End}
use Rattle.spectro_hmltext.specs.Tokens.{Begins, token_of}
use Rattle.spectro_hmltext.specs.FormulaTexts.{StandsLabel, StandsConjunction, StandOthers, StandsClause}
use Rattle.spectro_hmltext.specs.Faults.{IsMisplaced, IsLabelFault, IsFormulaFault, IsClauseFault, AreFaultyClauses, IsTextFault, IsFirstFault}
use Rattle.spectro_hmltext.specs.Numbering.{size_of_clauses, number_of, numbered, nodes_of, nodes_of_clauses}
use Rattle.spectro_hmltext.specs.Parsing.{IsParsed}
use Rattle.spectro_hmltext.specs.Stops.{StopsAt}
use Rattle.spectro_hmltext.specs.declared.stop.Stop.TheVariants.{Fault}
use Rattle.spectro_hmltext.specs.Parts.{BeginsClause, IsNotFirst, IsRead, IsReadBehind, IsFaultBehind, IsReadClause, StandClauses, AreRead}
use Rattle.spectro_hmltext.proofs.Numberings.{All-numbered, ClausesRise-numbered, some-size, unfolded-nodes_of, length-nodes_of, length-nodes_of_clauses, with_clauses, with_clauses-assoc, numbered-with_clauses, nodes_of-with_clauses}
use Rattle.spectro_hmltext.proofs.TextsLeft.{shorter_label, shorter_formula, shorter_clause, left-within}
use Rattle.spectro_hmltext.proofs.TokenLaws.{shorter_Begins, utf8_Begins}

-- ---- clauses, one after the other
-- a clause before others
abbrev pub with_clause : Bool → Formula → Clauses → Clauses
with_clause true formula clauses = plus formula clauses
with_clause false formula clauses = minus formula clauses

-- clauses were read from the front of the text, and what stands behind them goes on with more: so the whole is told from what is left
pub record AreReadSoFar (nesting : ℕ) (text : List ℕ) (before after : List SheetNode) (list : List Clause) (rest : List ℕ) : Type 0 where
  pub clauses : Clauses
  pub stand : (others : Clauses) (end : List ℕ) → StandClauses nesting rest others end → StandClauses nesting text (with_clauses clauses others) end
  pub faulty : (left : List ℕ) (kind : TextKind) → AreFaultyClauses left kind nesting rest → AreFaultyClauses left kind nesting text
  pub nodes : after ≡ before ++ nodes_of_clauses (length before) clauses
  pub numbers : list ≡ numbered (length before) clauses
  pub utf8 : IsUtf8 rest
  pub within : length rest ≤ length text

pub AreReadSoFar-none : (nesting : ℕ) (text : List ℕ) (before : List SheetNode) → IsUtf8 text → AreReadSoFar nesting text before before [] text
AreReadSoFar-none nesting text before utf8 = record {
  clauses = no_clauses;
  stand = λ others end stand. stand;
  faulty = λ left kind faulty. faulty;
  nodes = sym (append-nil before);
  numbers = refl;
  utf8 = utf8;
  within = omega arith;
}

-- a clause more in a list for which there is room
pub grown_by : (list reserved pushed : List Clause) (clause : Clause) → reserved ≡ list → pushed ≡ reserved ++ clause ∷ [] → pushed ≡ list ++ clause ∷ []
grown_by list reserved pushed clause same grown = grown ∙ ap (λ list. list ++ clause ∷ []) same

one-nodes : (positive : Bool) (formula : Formula) (before : ℕ) → nodes_of_clauses before (with_clause positive formula no_clauses) ≡ nodes_of before formula
one-nodes true formula before = append-nil (nodes_of before formula)
one-nodes false formula before = append-nil (nodes_of before formula)

one-number : (positive : Bool) (node : ℕ) (formula : Formula) (before : ℕ) → node ≡ number_of before formula
    → numbered before (with_clause positive formula no_clauses) ≡ record { positive = positive; node = node } ∷ []
one-number true node formula before is = ap (λ node. record { positive = true; node = node } ∷ []) (sym is)
one-number false node formula before is = ap (λ node. record { positive = false; node = node } ∷ []) (sym is)

one-before : (positive : Bool) (formula : Formula) (others : Clauses)
    → with_clauses (with_clause positive formula no_clauses) others ≡ with_clause positive formula others
one-before true formula others = refl
one-before false formula others = refl

-- a clause, and what stands behind it
stand_clause : (nesting : ℕ) (text : List ℕ) (positive : Bool) (formula : Formula) (ended : List ℕ) (others : Clauses) (end : List ℕ)
    → StandsClause nesting text positive formula ended → StandOthers nesting ended others end
    → StandClauses nesting text (with_clause positive formula others) end
stand_clause nesting text true formula ended others end stands behind = (ended, stands, behind)
stand_clause nesting text false formula ended others end stands behind = (stands.0, stands.1, ended, stands.2, behind)

stand_behind_comma : (nesting : ℕ) (ended next : List ℕ) (clauses : Clauses) (end : List ℕ) → Begins Comma ended next
    → StandClauses nesting next clauses end → StandOthers nesting ended clauses end
stand_behind_comma nesting ended next no_clauses end comma stand = absurd stand
stand_behind_comma nesting ended next (plus formula _) end comma stand = (next, comma, stand.0, stand.1, stand.2)
stand_behind_comma nesting ended next (minus formula _) end comma stand = (next, comma, stand.0, stand.1, stand.2, stand.3, stand.4)

module _ (nesting : ℕ) (text : List ℕ) (before middle : List SheetNode) (list : List Clause) (rest : List ℕ)
    (so_far : AreReadSoFar nesting text before middle list rest) where
  pub no_clause-faulty : (left : List ℕ) (kind : TextKind) → IsClauseFault left kind nesting rest → AreFaultyClauses left kind nesting text
  no_clause-faulty left kind is = so_far.faulty left kind (AreFaultyClauses.in_clause nesting rest is)

  module _ (after : List SheetNode) (clause : Clause) (ended : List ℕ) (read : IsReadClause nesting rest middle after clause ended) where
    abbrev one : Clauses
    one = with_clause clause.positive read.formula no_clauses

    place : length middle ≡ length before + size_of_clauses so_far.clauses
    place = omega (
      arith,
      ap length so_far.nodes,
      length-append before
          (nodes_of_clauses (length before) so_far.clauses),
      length-nodes_of_clauses so_far.clauses (length before),
    )

    nodes-more : after ≡ before ++ nodes_of_clauses (length before) (with_clauses so_far.clauses one)
    nodes-more =
        read.nodes ∙ ap (λ nodes. nodes ++ nodes_of (length middle) read.formula) so_far.nodes
        ∙ append_assoc before (nodes_of_clauses (length before) so_far.clauses) (nodes_of (length middle) read.formula)
        ∙ ap (λ n. before ++ (nodes_of_clauses (length before) so_far.clauses ++ nodes_of n read.formula)) place
        ∙ ap (λ nodes. before ++ (nodes_of_clauses (length before) so_far.clauses ++ nodes))
        (sym (one-nodes clause.positive read.formula (length before + size_of_clauses so_far.clauses)))
        ∙ ap (λ nodes. before ++ nodes) (sym (nodes_of-with_clauses so_far.clauses one (length before)))

    numbers-more : list ++ clause ∷ [] ≡ numbered (length before) (with_clauses so_far.clauses one)
    numbers-more =
        ap (λ list. list ++ clause ∷ []) so_far.numbers
        ∙ ap (λ list. numbered (length before) so_far.clauses ++ list)
        (sym (one-number clause.positive clause.node read.formula (length before + size_of_clauses so_far.clauses)
        (read.number ∙ ap (λ n. number_of n read.formula) place)))
        ∙ sym (numbered-with_clauses so_far.clauses one (length before))

    pub AreReadSoFar-more : (next : List ℕ) → Begins Comma ended next → AreReadSoFar nesting text before after (list ++ clause ∷ []) next
    AreReadSoFar-more next comma = record {
      clauses = with_clauses so_far.clauses one;
      stand = λ others end stand.
          subst (λ clauses. StandClauses nesting text clauses end)
          (sym (with_clauses-assoc so_far.clauses one others ∙ ap (with_clauses so_far.clauses) (one-before clause.positive read.formula others)))
          (so_far.stand (with_clause clause.positive read.formula others) end
          (stand_clause nesting rest clause.positive read.formula ended others end read.stands
          (stand_behind_comma nesting ended next others end comma stand)));
      faulty = λ left kind are. so_far.faulty left kind (AreFaultyClauses.in_others nesting rest clause.positive read.formula ended next read.stands comma are);
      nodes = nodes-more;
      numbers = numbers-more;
      utf8 = utf8_Begins Comma ended next comma (λ e. cc) read.utf8;
      within = omega (
        arith,
        so_far.within,
        shorter_clause nesting rest clause.positive read.formula ended read.stands,
        shorter_Begins Comma ended next
            comma (λ e. cc),
      );
    }

    -- less is left
    pub shorter-more : (next : List ℕ) → Begins Comma ended next → length next < length rest
    shorter-more next comma = omega
        (arith, shorter_clause nesting rest clause.positive read.formula ended read.stands, shorter_Begins Comma ended next comma (λ e. cc))

    pub AreRead-last : (end : List ℕ) → Begins CloseBrace ended end → AreRead nesting text before after (list ++ clause ∷ []) end
    AreRead-last end brace = record {
      clauses = with_clauses so_far.clauses one;
      stand = so_far.stand one end (stand_clause nesting rest clause.positive read.formula ended no_clauses end read.stands brace);
      nodes = nodes-more;
      numbers = numbers-more;
      utf8 = utf8_Begins CloseBrace ended end brace (λ e. cc) read.utf8;
    }

    pub no_comma-faulty : token_of ended ≢ Comma → token_of ended ≢ CloseBrace → (left : List ℕ) (kind : TextKind) → IsMisplaced ended left kind
        → AreFaultyClauses left kind nesting text
    no_comma-faulty no_comma no_brace left kind is = so_far.faulty left kind
        (AreFaultyClauses.no_comma nesting rest clause.positive read.formula ended read.stands no_comma no_brace is)

-- ---- a clause
pub utf8_BeginsClause : (text : List ℕ) (positive : Bool) (begun : List ℕ) → BeginsClause text positive begun → IsUtf8 text → IsUtf8 begun
utf8_BeginsClause text true begun begins utf8 = subst IsUtf8 (sym begins.1) utf8
utf8_BeginsClause text false begun begins utf8 = utf8_Begins Not text begun begins (λ e. cc) utf8

pub shorter_BeginsClause : (text : List ℕ) (positive : Bool) (begun : List ℕ) → BeginsClause text positive begun → length begun ≤ length text
shorter_BeginsClause text true begun begins = omega (arith, ap length begins.1)
shorter_BeginsClause text false begun begins = omega (arith, shorter_Begins Not text begun begins (λ e. cc))

pub IsClauseFault-begun : (nesting : ℕ) (text : List ℕ) (positive : Bool) (begun : List ℕ) → BeginsClause text positive begun
    → (left : List ℕ) (kind : TextKind) → IsFormulaFault left kind nesting begun → IsClauseFault left kind nesting text
IsClauseFault-begun nesting text true begun begins left kind is = IsClauseFault.in_formula nesting text begins.0
    (subst (IsFormulaFault left kind nesting) begins.1 is)
IsClauseFault-begun nesting text false begun begins left kind is = IsClauseFault.in_negated nesting text begun begins is

-- ---- a formula
pub IsRead-truth : (nesting : ℕ) (text : List ℕ) (before after : List SheetNode) (node : ℕ) (rest : List ℕ) → nesting ≤ 256 → Begins Truth text rest
    → after ≡ before ++ all_node [] ∷ [] → node ≡ length before → IsUtf8 rest
    → IsRead nesting text before after node rest
IsRead-truth nesting text before after node rest shallow begins grown number utf8 = record {
  formula = all no_clauses;
  stands =
      (shallow, begins);
  nodes = grown;
  number = omega (arith, number);
  utf8 = utf8;
}

module _ (nesting : ℕ) (opened : List ℕ) (label : Label) (labelled : List ℕ) (shallow : nesting ≤ 256) (stands : StandsLabel opened label labelled) where
  pub no_greater-fault : (left : List ℕ) (kind : TextKind) → IsNotFirst Greater labelled left kind → IsFaultBehind Less nesting opened left kind
  no_greater-fault left kind is = λ text less. IsFormulaFault.no_end_of_label nesting text opened label labelled shallow less stands is.0 is.1

  module _ (closed : List ℕ) (greater : Begins Greater labelled closed) where
    pub observation-fault : (left : List ℕ) (kind : TextKind) → IsFormulaFault left kind (nesting + 1) closed → IsFaultBehind Less nesting opened left kind
    observation-fault left kind is = λ text less. IsFormulaFault.in_observation nesting text opened label labelled closed shallow less stands greater is

    pub IsRead-observation : (before middle after : List SheetNode) (node number : ℕ) (rest : List ℕ) → IsRead (nesting + 1) closed before middle node rest
        → after ≡ middle ++ see_node label node ∷ [] → number ≡ length middle
        → IsReadBehind Less nesting opened before after number rest
    IsRead-observation before middle after node number rest read grown is =
        let inner : List SheetNode = nodes_of (length before) read.formula in
        λ text less. record {
          formula = see label read.formula;
          stands = (shallow, opened, less, labelled, stands, closed, greater, read.stands);
          nodes = grown ∙ ap (λ node. middle ++ see_node label node ∷ []) read.number
              ∙ ap (λ nodes. nodes ++ see_node label (number_of (length before) read.formula) ∷ []) read.nodes
              ∙ append_assoc before inner (see_node label (number_of (length before) read.formula) ∷ []);
          number = omega (arith, is, ap length read.nodes, length-append before inner, length-nodes_of read.formula (length before));
          utf8 = read.utf8;
        }

-- the node of a formula is there
pub number-within : (nesting : ℕ) (text : List ℕ) (before after : List SheetNode) (node : ℕ) (rest : List ℕ) → IsRead nesting text before after node rest
    → node < length after
number-within nesting text before after node rest read =
    omega (
      arith,
      read.number,
      some-size read.formula,
      ap length read.nodes,
      length-append before
          (nodes_of (length before) read.formula),
      length-nodes_of read.formula (length before),
    )

pub shorter_closed : (opened : List ℕ) (label : Label) (labelled closed : List ℕ) → StandsLabel opened label labelled → Begins Greater labelled closed
    → length closed < length opened
shorter_closed opened label labelled closed stands greater = omega
    (arith, shorter_label opened label labelled stands, shorter_Begins Greater labelled closed greater (λ e. cc))

-- a label in quotes is cut where UTF-8 may be cut
pub utf8_label : (opened : List ℕ) (label : Label) (labelled : List ℕ) → StandsLabel opened label labelled → IsUtf8 opened → IsUtf8 labelled
utf8_label opened label labelled stands utf8 = utf8_behind (34 ∷ escaped label) 34 labelled (omega arith)
    (subst IsUtf8 stands.whole (utf8-skip_blanks opened utf8))

-- ---- a conjunction
stands_conjunction : (nesting : ℕ) (text word opened : List ℕ) (clauses : Clauses) (rest : List ℕ) → Begins And text word → Begins OpenBrace word opened
    → StandClauses (nesting + 1) opened clauses rest → StandsConjunction nesting text clauses rest
stands_conjunction nesting text word opened no_clauses rest and brace stand = absurd stand
stands_conjunction nesting text word opened (plus formula _) rest and brace stand = (word, and, opened, brace, stand.0, stand.1, stand.2)
stands_conjunction nesting text word opened (minus formula _) rest and brace stand = (word, and, opened, brace, stand.0, stand.1, stand.2, stand.3, stand.4)

module _ (nesting : ℕ) (word : List ℕ) (shallow : nesting ≤ 256) where
  pub no_brace-fault : (left : List ℕ) (kind : TextKind) → IsNotFirst OpenBrace word left kind → IsFaultBehind And nesting word left kind
  no_brace-fault left kind is = λ text and. IsFormulaFault.no_brace nesting text word shallow and is.0 is.1

  module _ (opened : List ℕ) (brace : Begins OpenBrace word opened) where
    pub conjunction-fault : (left : List ℕ) (kind : TextKind) → AreFaultyClauses left kind (nesting + 1) opened → IsFaultBehind And nesting word left kind
    conjunction-fault left kind are = λ text and. IsFormulaFault.in_conjunction nesting text word opened shallow and brace are

    pub IsRead-conjunction : (before middle after : List SheetNode) (list : List Clause) (number : ℕ) (rest : List ℕ)
        → AreRead (nesting + 1) opened before middle list rest → after ≡ middle ++ all_node list ∷ [] → number ≡ length middle
        → IsReadBehind And nesting word before after number rest
    IsRead-conjunction before middle after list number rest read grown is =
        let inner : List SheetNode = nodes_of_clauses (length before) read.clauses in
        λ text and. record {
          formula = all read.clauses;
          stands = (shallow, stands_conjunction nesting text word opened read.clauses rest and brace read.stand);
          nodes = grown ∙ ap (λ list. middle ++ all_node list ∷ []) read.numbers
              ∙ ap (λ nodes. nodes ++ all_node (numbered (length before) read.clauses) ∷ []) read.nodes
              ∙ append_assoc before inner (all_node (numbered (length before) read.clauses) ∷ []);
          number = omega (arith, is, ap length read.nodes, length-append before inner, length-nodes_of_clauses read.clauses (length before));
          utf8 = read.utf8;
        }

-- the clauses may stand in a node
module _ (nesting : ℕ) (opened : List ℕ) (before middle : List SheetNode) (list : List Clause) (rest : List ℕ)
    (read : AreRead nesting opened before middle list rest) where
  pub clauses-rise : ClausesRise list
  clauses-rise = subst ClausesRise (sym read.numbers) (ClausesRise-numbered read.clauses (length before))

  pub clauses-within : All (λ clause. clause.node < length middle) list
  clauses-within =
      let long : length before + size_of_clauses read.clauses ≡ length middle = omega (
        arith,
        ap length read.nodes,
        length-append before (nodes_of_clauses (length before) read.clauses),
        length-nodes_of_clauses read.clauses
            (length before),
      ) in
      subst (λ list. All (λ clause. clause.node < length middle) list) (sym read.numbers)
      (subst (λ n. All (λ clause. clause.node < n) (numbered (length before) read.clauses)) long (All-numbered read.clauses (length before)))

-- ---- the parts behind a token
pub no_label-fault : (nesting : ℕ) (opened : List ℕ) → nesting ≤ 256 → (left : List ℕ) (kind : TextKind) → IsLabelFault opened left kind
    → IsFaultBehind Less nesting opened left kind
no_label-fault nesting opened shallow left kind is = λ text less. IsFormulaFault.no_label nesting text opened shallow less is

-- ---- the whole text
pub IsParsed-read : (text : List ℕ) (before after : List SheetNode) (node : ℕ) (rest end : List ℕ) → length text ≤ 65536 → before ≡ []
    → IsRead 1 text before after node rest → Begins End rest end → IsParsed text after node
IsParsed-read text before after node rest end short empty read ends =
    let formula = read.formula in
    let nodes : after ≡ nodes_of 0 formula = read.nodes ∙ ap (λ before. before ++ nodes_of (length before) formula) empty in
    let number : node ≡ number_of 0 formula = read.number ∙ ap (λ before. number_of (length before) formula) empty in
    record {
      formula = formula;
      is_text = record { short = short; rest = rest; whole = read.stands; end = ends.first };
      whole = nodes;
      last = omega (arith, number, ap length nodes, length-nodes_of formula 0, some-size formula);
      unfolds = ap (λ nodes. unfolded nodes node) nodes ∙ ap (unfolded (nodes_of 0 formula)) number ∙ unfolded-nodes_of formula 0 [] refl;
      few = omega (arith, ap length nodes, length-nodes_of formula 0, shorter_formula formula 1 text rest read.stands);
    }

pub not_ended-fault : (text : List ℕ) (before after : List SheetNode) (node : ℕ) (rest : List ℕ) → IsRead 1 text before after node rest
    → (left : List ℕ) (kind : TextKind) → IsNotFirst End rest left kind → IsTextFault text left kind
not_ended-fault text before after node rest read left kind is = IsTextFault.behind_formula read.formula rest read.stands is.0 is.1

pub IsFirstFault-stopped : (text : List ℕ) (left : ℕ) (kind : TextKind) (place : ℕ) → length text ≤ 65536 → StopsAt (IsTextFault text) (Fault left kind)
    → place ≡ length text - left → IsFirstFault text (record { at = place; kind = kind })
IsFirstFault-stopped text left kind place short stops at = IsFirstFault.other short stops.0 stops.2
    (omega (arith, at, stops.1, left-within text left kind stops))
