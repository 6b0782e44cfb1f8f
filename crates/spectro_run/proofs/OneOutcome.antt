-- Each command has at most one outcome of what its files hold.
use Rattle.std.proofs.Common.{◌≡◌, ◌∙◌, ℕ, List, [], ◌∷◌, length, refl, sym, ap, arith}
use Rattle.std.specs.Prelude.{Bool, true, false, IsTrue, ◌↔◌, Option, None, Some}
use Rattle.spectro_spec.specs.Formula.{Formula, Satisfies}
use Rattle.spectro_spec.specs.Notion.{Notion}
use Rattle.spectro_spec.specs.Pricing.{price}
use Rattle.spectro_spec.specs.Spectrum as spectrum
use Rattle.spectro_spec.specs.System.{System, join}
use Rattle.spectro_spec.specs.Weighing.{Weighing}
use Rattle.spectro_game.specs.Pairs as game
use Rattle.spectro_theory.specs.LawsOfPairs.{ReachedPairsAreOne}
use Rattle.spectro_aut.specs.Laws as systems
use Rattle.spectro_aut.specs.Written.{text_of}
use Rattle.spectro_aut.specs.declared.error.AutFault.{AutFault}
use Rattle.spectro_hmltext.specs.Laws as formulas
use Rattle.spectro_hmltext.specs.Printed.{formula_text}
use Rattle.spectro_hmltext.specs.declared.error.TextFault.{TextFault}
use Rattle.spectro_weights.specs.Laws as weightings
use Rattle.spectro_weights.specs.declared.error.WeightFault.{WeightFault}
use Rattle.spectro_notions.specs.Laws as tables
use Rattle.spectro_notions.specs.declared.error.NotionFault.{NotionFault}
use Rattle.spectro_report.specs.Compared.{forth_pair}
use Rattle.spectro_report.specs.LawsOfReports.{ReportsAreOne}
use Rattle.spectro_report.specs.Texts.{report_text}
use Rattle.spectro_demo.specs.Systems.{demo_left, demo_right}
use Rattle.spectro_run.specs.Commands.Demo.{demo_text}
use Rattle.spectro_run.specs.Commands.Eval.{eval_text, truth_of}
use Rattle.spectro_run.specs.Commands.Price.{priced_text}
use Rattle.spectro_run.specs.Commands.Size.{size_line}
use Rattle.spectro_run.specs.Comparisons.{pairs_of, report_of}
use Rattle.spectro_run.specs.Held.{Held}
use Rattle.spectro_run.specs.Outcome.{outcome_of}
use Rattle.spectro_run.specs.Refusals.{Holds, RefusesHeld, formula_of, system_of, table_of, weighing_of}
use Rattle.spectro_run.specs.Stages.{IsAtMostOne}
use Rattle.spectro_run.specs.Weighted.{parts_shown}
use Rattle.spectro_words.specs.Commands.{Command, eval, price as pricing, rewrite, size, compare, demo}
use Rattle.spectro_words.specs.Words.{Word}
use Rattle.spectro_words.specs.declared.limit.TheConstants.{DEFAULT_LIMIT}
use Rattle.spectro_run.specs.declared.status.Status.{Status}
use Rattle.spectro_run.specs.declared.status.Status.TheVariants.{BadText}
use Rattle.spectro_run.specs.declared.status.Which.{Which}
use Rattle.spectro_run.specs.declared.status.Which.TheVariants.{Left, Right, Formula as FormulaText, Weights, Notions}
use Rattle.spectro_run.specs.declared.status.Kind.TheVariants as kinds
use Rattle.spectro_run.proofs.OneStage.{EndsInOneWay, after-one, writes-one}

-- ---- the stages
-- what a file holds, of texts that have one value or one refusal
file-one : {T : Type 0} (IsTextOf : List ℕ → T → Type 0) (Refuses : List ℕ → Status → Type 0)
    → ((text : List ℕ) (one other : T) → IsTextOf text one → IsTextOf text other → one ≡ other)
    → ((text : List ℕ) (one other : Status) → Refuses text one → Refuses text other → one ≡ other)
    → ((text : List ℕ) (status : Status) (value : T) → Refuses text status → IsTextOf text value → ⊥)
    → (held : Option (List ℕ)) → EndsInOneWay {T = T} (record { Refuses = RefusesHeld Refuses held; Gives = Holds IsTextOf held })
file-one IsTextOf Refuses value refusal apart None = record {
  value = λ one other first second. absurd first;
  refusal = λ one other first second. first ∙ sym second;
  apart = λ status value refuses gives. gives;
}
file-one IsTextOf Refuses value refusal apart (Some text) = record { value = value text; refusal = refusal text; apart = apart text }

-- two tests of one fact answer alike
same_answer : (P : Type 0) (one other : Bool) → (IsTrue one ↔ P) → (IsTrue other ↔ P) → one ≡ other
same_answer P true true first second = refl
same_answer P true false first second = let wrong : IsTrue false = second.1 (first.0 refl) in cc
same_answer P false true first second = let wrong : IsTrue false = first.1 (second.0 refl) in cc
same_answer P false false first second = refl

truth-one : (system : System) (formula : Formula) → EndsInOneWay (truth_of system formula)
truth-one system formula = record {
  value = same_answer (Satisfies system system.initial formula);
  refusal = λ one other first second. absurd first;
  apart = λ status value refuses gives. refuses;
}

-- what no file holds
given-one : {T : Type 0} (given : T) → EndsInOneWay {T = T} (record { Refuses = λ status. ⊥; Gives = λ value. value ≡ given })
given-one given = record {
  value = λ one other first second. first ∙ sym second;
  refusal = λ one other first second. absurd first;
  apart = λ status value refuses gives. refuses;
}

module _ (one_list : ReachedPairsAreOne) where
  pairs-one : (left right : System) (limit : ℕ) → EndsInOneWay (pairs_of left right limit)
  pairs-one left right limit = record {
    value = λ pairs pairs' first second. one_list (join left right) (forth_pair left right ∷ []) pairs pairs' first.0 second.0;
    refusal = λ status status' first second. first.0 ∙ sym second.0;
    apart = λ status pairs refuses gives.
        let same : refuses.1.0 ≡ pairs = one_list (join left right) (forth_pair left right ∷ []) refuses.1.0 pairs refuses.1.1 gives.0 in
        omega (arith, ap game.size same, refuses.1.2, gives.1);
  }

  report-one : ReportsAreOne → (left right : System) (weighing : Weighing) (table : List Notion) (limit : ℕ)
      → EndsInOneWay (report_of left right weighing table limit)
  report-one one_report left right weighing table limit = record {
    value = λ report report' first second. one_report weighing left right table report report' first.0 second.0;
    refusal = λ status status' first second. first.0 ∙ sym second.0;
    apart = λ status report refuses gives.
        let same : refuses.1.0 ≡ gives.0.pairs = one_list (join left right) (forth_pair left right ∷ []) refuses.1.0 gives.0.pairs
        refuses.1.1 gives.0.compared in
        omega (arith, ap game.size same, refuses.1.2, gives.0.size, gives.1);
  }

module _ (one_system : systems.EachTextHasAtMostOneSystem) (one_fault : systems.EachTextHasAtMostOneFirstFault)
    (no_fault : systems.TextsOfSystemsHaveNoFault) where
  system-one : (which : Which) (held : Option (List ℕ)) → EndsInOneWay (system_of which held)
  system-one which =
      file-one _ _ one_system
      (λ text one other first second. first.2
      ∙ ap (λ (fault : AutFault). BadText (record { which = which; at = fault.line; kind = kinds.Aut fault.kind }))
      (one_fault text first.0 second.0 first.1 second.1) ∙ sym second.2)
      (λ text status system refuses is. no_fault text system refuses.0 is refuses.1)

module _ (one_formula : formulas.EachTextHasAtMostOneFormula) (one_fault : formulas.EachTextHasAtMostOneFirstFault)
    (no_fault : formulas.TextsOfFormulasHaveNoFault) where
  formula-one : (word : Word) → EndsInOneWay (formula_of word)
  formula-one word = record {
    value = one_formula word;
    refusal =
        λ one other first second. first.2
        ∙ ap (λ (fault : TextFault). BadText (record { which = FormulaText; at = fault.at; kind = kinds.Formula fault.kind }))
        (one_fault word first.0 second.0 first.1 second.1)
        ∙ sym second.2;
    apart = λ status formula refuses is. no_fault word formula refuses.0 is refuses.1;
  }

module _ (one_weighing : weightings.EachTextHasAtMostOneWeighing) (one_fault : weightings.EachTextHasAtMostOneFirstFault)
    (no_fault : weightings.TextsOfWeighingsHaveNoFault) where
  weighing-one : (weights : Option Word) (held : Option (List ℕ)) → EndsInOneWay (weighing_of weights held)
  weighing-one None held = given-one []
  weighing-one (Some name) held =
      file-one _ _ one_weighing
      (λ text one other first second. first.2
      ∙ ap (λ (fault : WeightFault). BadText (record { which = Weights; at = fault.line; kind = kinds.Weights fault.kind }))
      (one_fault text first.0 second.0 first.1 second.1) ∙ sym second.2)
      (λ text status weighing refuses is. no_fault text weighing refuses.0 is refuses.1) held

module _ (one_table : tables.EachTextHasAtMostOneTable) (one_fault : tables.EachTextHasAtMostOneFirstFault)
    (no_fault : tables.TextsOfTablesHaveNoFault) where
  table-one : (notions : Option Word) (held : Option (List ℕ)) → EndsInOneWay (table_of notions held)
  table-one None held = given-one spectrum.notions
  table-one (Some name) held =
      file-one _ _ one_table
      (λ text one other first second. first.2
      ∙ ap (λ (fault : NotionFault). BadText (record { which = Notions; at = fault.line; kind = kinds.Notions fault.kind }))
      (one_fault text first.0 second.0 first.1 second.1) ∙ sym second.2)
      (λ text status table refuses is. no_fault text table refuses.0 is refuses.1) held

-- ---- the commands
module _
    (system : (which : Which) (held : Option (List ℕ)) → EndsInOneWay (system_of which held))
    (formula : (word : Word) → EndsInOneWay (formula_of word))
    (weighing : (weights : Option Word) (held : Option (List ℕ)) → EndsInOneWay (weighing_of weights held))
    (table : (notions : Option Word) (held : Option (List ℕ)) → EndsInOneWay (table_of notions held))
    (pairs : (left right : System) (limit : ℕ) → EndsInOneWay (pairs_of left right limit))
    (report : (left right : System) (weighing : Weighing) (table : List Notion) (limit : ℕ) → EndsInOneWay (report_of left right weighing table limit))
  where
    command-one : (asked : Option Command) (held : Held) → IsAtMostOne (outcome_of asked held)
    command-one None held = record {
      status = λ one other bytes more first second. first.0
          ∙ sym second.0;
      bytes = λ one other bytes more first second. first.1 ∙ sym second.1;
    }
    command-one (Some (eval word file weights)) held =
        after-one _ _ (system Left (held Left))
        (λ s _. after-one _ _ (formula word) (λ f _. after-one _ _ (weighing weights (held Weights)) (λ w _. after-one _ _ (truth-one s f)
        (λ truth _. writes-one (eval_text truth (parts_shown weights) (price w f))))))
    command-one (Some (rewrite file)) held = after-one _ _ (system Left (held Left)) (λ s _. writes-one (text_of s))
    command-one (Some (pricing word weights)) held =
        after-one _ _ (formula word)
        (λ f _. after-one _ _ (weighing weights (held Weights)) (λ w _. writes-one (priced_text (formula_text f) (parts_shown weights) (price w f))))
    command-one (Some (size left right limit)) held =
        after-one _ _ (system Left (held Left)) (λ first _. after-one _ _ (system Right (held Right)) (λ second _. after-one _ _ (pairs first second limit)
        (λ pairs _. writes-one (size_line (length pairs) (game.size pairs)))))
    command-one (Some (compare left right weights notions limit)) held =
        after-one _ _ (system Left (held Left))
        (λ first _. after-one _ _ (system Right (held Right)) (λ second _. after-one _ _ (weighing weights (held Weights))
        (λ w _. after-one _ _ (table notions (held Notions)) (λ t _. after-one _ _ (report first second w t limit)
        (λ r _. writes-one (report_text t (parts_shown weights) r))))))
    command-one (Some (demo number)) held =
        after-one _ _ (report (demo_left number) (demo_right number) [] spectrum.notions DEFAULT_LIMIT) (λ r _. writes-one (demo_text number r))

pub one_of_command : systems.EachTextHasAtMostOneSystem → systems.EachTextHasAtMostOneFirstFault → systems.TextsOfSystemsHaveNoFault
    → formulas.EachTextHasAtMostOneFormula → formulas.EachTextHasAtMostOneFirstFault → formulas.TextsOfFormulasHaveNoFault
    → weightings.EachTextHasAtMostOneWeighing → weightings.EachTextHasAtMostOneFirstFault → weightings.TextsOfWeighingsHaveNoFault
    → tables.EachTextHasAtMostOneTable → tables.EachTextHasAtMostOneFirstFault → tables.TextsOfTablesHaveNoFault → ReachedPairsAreOne → ReportsAreOne
    → (asked : Option Command) (held : Held) → IsAtMostOne (outcome_of asked held)
one_of_command one_system one_fault no_fault one_formula one_formula_fault no_formula_fault one_weighing one_weight_fault no_weight_fault
    one_table one_table_fault no_table_fault one_list one_report =
    command-one (system-one one_system one_fault no_fault) (formula-one one_formula one_formula_fault no_formula_fault)
    (weighing-one one_weighing one_weight_fault no_weight_fault) (table-one one_table one_table_fault no_table_fault) (pairs-one one_list)
    (report-one one_list one_report)
