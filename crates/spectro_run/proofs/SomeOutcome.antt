-- Each command has an outcome of what its files hold, since each stage gives a value or is refused.
use Rattle.std.proofs.Common.{◌≡◌, ◌⊎◌, ℕ, List, [], length, refl, inl, inr, arith}
use Rattle.std.specs.Prelude.{Bool, true, false, Option, None, Some}
use Rattle.std.proofs.lemmas.Bool.{cases_lt}
use Rattle.spectro_spec.specs.Formula.{Formula}
use Rattle.spectro_spec.specs.Notion.{Notion}
use Rattle.spectro_spec.specs.Pricing.{price}
use Rattle.spectro_spec.specs.Spectrum as spectrum
use Rattle.spectro_spec.specs.System.{System}
use Rattle.spectro_spec.specs.Weighing.{Weighing}
use Rattle.spectro_game.specs.Pairs as game
use Rattle.spectro_theory.proofs.Satisfaction.{decide}
use Rattle.spectro_aut.specs.Laws as systems
use Rattle.spectro_aut.specs.Written.{text_of}
use Rattle.spectro_hmltext.specs.Laws as formulas
use Rattle.spectro_hmltext.specs.Printed.{formula_text}
use Rattle.spectro_weights.specs.Laws as weightings
use Rattle.spectro_notions.specs.Laws as tables
use Rattle.spectro_report.specs.LawsOfReports.{ReportsExist}
use Rattle.spectro_report.specs.Reports.{Report}
use Rattle.spectro_report.specs.Texts.{report_text}
use Rattle.spectro_demo.specs.Systems.{demo_left, demo_right}
use Rattle.spectro_words.specs.Commands.{Command, eval, price as pricing, rewrite, size, compare, demo}
use Rattle.spectro_words.specs.Words.{Word}
use Rattle.spectro_words.specs.declared.limit.TheConstants.{DEFAULT_LIMIT}
use Rattle.std.specs.Str.{IsUtf8}
use Rattle.spectro_run.specs.Commands.Demo.{demo_text}
use Rattle.spectro_run.specs.Commands.Eval.{eval_text, truth_of}
use Rattle.spectro_run.specs.Commands.Price.{priced_text}
use Rattle.spectro_run.specs.Commands.Size.{size_line}
use Rattle.spectro_run.specs.Comparisons.{pairs_of, report_of}
use Rattle.spectro_run.specs.Held.{Held}
use Rattle.spectro_run.specs.Outcome.{HasUtf8Formula, outcome_of}
use Rattle.spectro_run.specs.Refusals.{formula_of, system_of, table_of, weighing_of}
use Rattle.spectro_run.specs.Stages.{IsSome, Outcome, Stage, After, Writes, refused, given}
use Rattle.spectro_run.specs.Weighted.{parts_shown}
use Rattle.spectro_run.specs.declared.status.Status.{Status}
use Rattle.spectro_run.specs.declared.status.Status.TheVariants.{BadText, Done, ReadFault, TooLarge, Usage}
use Rattle.spectro_run.specs.declared.status.Which.{Which}
use Rattle.spectro_run.specs.declared.status.Which.TheVariants.{Left, Right, Formula as FormulaText, Weights, Notions}
use Rattle.spectro_run.specs.declared.status.Kind.TheVariants as kinds
use Rattle.spectro_run.proofs.Sized.{some_compared}

-- ---- the stages
after-some : {T : Type 0} (stage : Stage T) (Rest : T → Outcome) → ((value : T) × stage.Gives value) ⊎ ((status : Status) × stage.Refuses status)
    → ((value : T) → stage.Gives value → IsSome (Rest value)) → IsSome (After stage Rest)
after-some stage Rest (inl (value, gives)) rest = let then = rest value gives in (then.0, then.1, given value gives then.2)
after-some stage Rest (inr (status, refuses)) rest = (status, [], refused refuses refl)

writes-some : (text : List ℕ) → IsSome (Writes text)
writes-some text = (Done, text, (refl, refl))

truth-some : (system : System) (formula : Formula)
    → ((truth : Bool) × (truth_of system formula).Gives truth) ⊎ ((status : Status) × (truth_of system formula).Refuses status)
truth-some system formula = elim (decide system system.initial formula) [
  | yes is ↦ inl (true, ((λ _. is), (λ _. refl)))
  | no not ↦ inl (false, ((λ (wrong : false ≡ true). cc), (λ is. absurd (not is))))
]

pairs-some : (left right : System) (limit : ℕ)
    → ((pairs : List game.Pair) × (pairs_of left right limit).Gives pairs) ⊎ ((status : Status) × (pairs_of left right limit).Refuses status)
pairs-some left right limit =
    let some = some_compared left right in
    elim (cases_lt limit (game.size some.0)) [
      | inl past ↦ inr (TooLarge limit, (refl, (some.0, some.1, past)))
      | inr within ↦ inl (some.0, (some.1, within))
    ]

report-some : ReportsExist → (left right : System) (weighing : Weighing) (table : List Notion) (limit : ℕ)
    → ((report : Report) × (report_of left right weighing table limit).Gives report) ⊎ ((status : Status) × (report_of left right weighing table limit).Refuses status)
report-some some_report left right weighing table limit =
    let some = some_report weighing left right table in
    elim (cases_lt limit some.0.size) [
      | inl past ↦ inr (TooLarge limit, (refl, (some.1.pairs, some.1.compared, omega (arith, past, some.1.size))))
      | inr within ↦ inl (some.0, (some.1, within))
    ]

module _ (some_system : systems.EachTextHasASystemOrAFault) (some_formula : formulas.EachTextHasAFormulaOrAFault)
    (some_weighing : weightings.EachTextHasAWeighingOrAFault) (some_table : tables.EachTextHasATableOrAFault) (some_report : ReportsExist) where
  system-some : (which : Which) (held : Option (List ℕ))
      → ((system : System) × (system_of which held).Gives system) ⊎ ((status : Status) × (system_of which held).Refuses status)
  system-some which None = inr (ReadFault, refl)
  system-some which (Some text) = elim (some_system text) [
    | inl is ↦ inl is
    | inr (fault, is) ↦ inr (BadText (record { which = which; at = fault.line; kind = kinds.Aut fault.kind }), (fault, is, refl))
  ]

  formula-some : (word : Word) → IsUtf8 word → ((formula : Formula) × (formula_of word).Gives formula) ⊎ ((status : Status) × (formula_of word).Refuses status)
  formula-some word utf8 = elim (some_formula word utf8) [
    | inl is ↦ inl is
    | inr (fault, is) ↦ inr (BadText (record { which = FormulaText; at = fault.at; kind = kinds.Formula fault.kind }), (fault, is, refl))
  ]

  weighing-some : (weights : Option Word) (held : Option (List ℕ))
      → ((weighing : Weighing) × (weighing_of weights held).Gives weighing) ⊎ ((status : Status) × (weighing_of weights held).Refuses status)
  weighing-some None held = inl ([], refl)
  weighing-some (Some name) None = inr (ReadFault, refl)
  weighing-some (Some name) (Some text) = elim (some_weighing text) [
    | inl is ↦ inl is
    | inr (fault, is) ↦ inr (BadText (record { which = Weights; at = fault.line; kind = kinds.Weights fault.kind }), (fault, is, refl))
  ]

  table-some : (notions : Option Word) (held : Option (List ℕ))
      → ((table : List Notion) × (table_of notions held).Gives table) ⊎ ((status : Status) × (table_of notions held).Refuses status)
  table-some None held = inl (spectrum.notions, refl)
  table-some (Some name) None = inr (ReadFault, refl)
  table-some (Some name) (Some text) = elim (some_table text) [
    | inl is ↦ inl is
    | inr (fault, is) ↦ inr (BadText (record { which = Notions; at = fault.line; kind = kinds.Notions fault.kind }), (fault, is, refl))
  ]

  -- ---- the commands
  pub some_of_command : (asked : Option Command) (held : Held) → HasUtf8Formula asked → IsSome (outcome_of asked held)
  some_of_command None held utf8 = (Usage, [], (refl, refl))
  some_of_command (Some (eval word file weights)) held utf8 =
      after-some _ _ (system-some Left (held Left))
      (λ s _. after-some _ _ (formula-some word utf8) (λ f _. after-some _ _ (weighing-some weights (held Weights)) (λ w _. after-some _ _ (truth-some s f)
      (λ truth _. writes-some (eval_text truth (parts_shown weights) (price w f))))))
  some_of_command (Some (rewrite file)) held utf8 = after-some _ _ (system-some Left (held Left)) (λ s _. writes-some (text_of s))
  some_of_command (Some (pricing word weights)) held utf8 =
      after-some _ _ (formula-some word utf8)
      (λ f _. after-some _ _ (weighing-some weights (held Weights)) (λ w _. writes-some (priced_text (formula_text f) (parts_shown weights) (price w f))))
  some_of_command (Some (size left right limit)) held utf8 =
      after-some _ _ (system-some Left (held Left))
      (λ first _. after-some _ _ (system-some Right (held Right)) (λ second _. after-some _ _ (pairs-some first second limit)
      (λ pairs _. writes-some (size_line (length pairs) (game.size pairs)))))
  some_of_command (Some (compare left right weights notions limit)) held utf8 =
      after-some _ _ (system-some Left (held Left))
      (λ first _. after-some _ _ (system-some Right (held Right)) (λ second _. after-some _ _ (weighing-some weights (held Weights))
      (λ w _. after-some _ _ (table-some notions (held Notions)) (λ t _. after-some _ _ (report-some some_report first second w t limit)
      (λ r _. writes-some (report_text t (parts_shown weights) r))))))
  some_of_command (Some (demo number)) held utf8 =
      after-some _ _ (report-some some_report (demo_left number) (demo_right number) [] spectrum.notions DEFAULT_LIMIT)
      (λ r _. writes-some (demo_text number r))
