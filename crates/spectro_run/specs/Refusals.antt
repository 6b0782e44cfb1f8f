-- The stages of texts: what refuses a text, with which status, and what it is a text of.
use Rattle.std.specs.Prelude.{ℕ, ◌≡◌, List, [], Option, None, Some}
use Rattle.spectro_spec.specs.Formula as spec
use Rattle.spectro_spec.specs.Notion.{Notion}
use Rattle.spectro_spec.specs.Spectrum as spectrum
use Rattle.spectro_spec.specs.System.{System}
use Rattle.spectro_spec.specs.Weighing.{Weighing}
use Rattle.spectro_aut.specs.Texts as aut
use Rattle.spectro_aut.specs.Texts.{IsText}
use Rattle.spectro_aut.specs.declared.error.AutFault.{AutFault}
use Rattle.spectro_hmltext.specs.Faults as hmltext
use Rattle.spectro_hmltext.specs.FormulaTexts.{IsFormulaText}
use Rattle.spectro_hmltext.specs.declared.error.TextFault.{TextFault}
use Rattle.spectro_weights.specs.WeightTexts as weights
use Rattle.spectro_weights.specs.WeightTexts.{IsWeightText}
use Rattle.spectro_weights.specs.declared.error.WeightFault.{WeightFault}
use Rattle.spectro_notions.specs.NotionTexts as notions
use Rattle.spectro_notions.specs.NotionTexts.{IsNotionText}
use Rattle.spectro_notions.specs.declared.error.NotionFault.{NotionFault}
use Rattle.spectro_run.specs.Stages.{Stage}
use Rattle.spectro_words.specs.Words.{Word}
use Rattle.spectro_run.specs.declared.status.Status.{Status}
use Rattle.spectro_run.specs.declared.status.Status.TheVariants.{BadText, ReadFault}
use Rattle.spectro_run.specs.declared.status.Which.{Which}
use Rattle.spectro_run.specs.declared.status.Which.TheVariants.{Formula, Weights, Notions}
use Rattle.spectro_run.specs.declared.status.Kind.TheVariants as kinds

-- the text is of no system, and the status says which line has the first fault, and which it is
abbrev pub RefusesSystem : Which → List ℕ → Status → Type 0
RefusesSystem which text status = (fault : AutFault) × aut.IsFirstFault text fault
    × (status ≡ BadText (record { which = which; at = fault.line; kind = kinds.Aut fault.kind }))

-- the text is of no formula, and the status says where its first fault is, and which it is
abbrev pub RefusesFormula : List ℕ → Status → Type 0
RefusesFormula text status = (fault : TextFault) × hmltext.IsFirstFault text fault
    × (status ≡ BadText (record { which = Formula; at = fault.at; kind = kinds.Formula fault.kind }))

-- the text is of no weighing, and the status says which line has the first fault, and which it is
abbrev pub RefusesWeighing : List ℕ → Status → Type 0
RefusesWeighing text status = (fault : WeightFault) × weights.IsFirstFault text fault
    × (status ≡ BadText (record { which = Weights; at = fault.line; kind = kinds.Weights fault.kind }))

-- the text is of no table of notions, and the status says which line has the first fault, and which it is
abbrev pub RefusesTable : List ℕ → Status → Type 0
RefusesTable text status = (fault : NotionFault) × notions.IsFirstFault text fault
    × (status ≡ BadText (record { which = Notions; at = fault.line; kind = kinds.Notions fault.kind }))

-- what a file holds is refused: nothing cannot be read, and a text may be refused
abbrev pub RefusesHeld : (List ℕ → Status → Type 0) → Option (List ℕ) → Status → Type 0
RefusesHeld Refuses None status = status ≡ ReadFault
RefusesHeld Refuses (Some text) status = Refuses text status

-- what a file holds is a text of the value
abbrev pub Holds : {T : Type 0} → (List ℕ → T → Type 0) → Option (List ℕ) → T → Type 0
Holds IsTextOf None value = ⊥
Holds IsTextOf (Some text) value = IsTextOf text value

-- the value of which a file holds a text
abbrev pub of_file : {T : Type 0} → (List ℕ → T → Type 0) → (List ℕ → Status → Type 0) → Option (List ℕ) → Stage T
of_file IsTextOf Refuses held = record { Refuses = RefusesHeld Refuses held; Gives = Holds IsTextOf held }

-- the system of a file
abbrev pub system_of : Which → Option (List ℕ) → Stage System
system_of which = of_file IsText (RefusesSystem which)

-- the formula of a word
abbrev pub formula_of : Word → Stage spec.Formula
formula_of word = record { Refuses = RefusesFormula word; Gives = IsFormulaText word }

-- the weights of a file, if one is asked for; else every label weighs 1
abbrev pub weighing_of : Option Word → Option (List ℕ) → Stage Weighing
weighing_of None held = record { Refuses = λ status. ⊥; Gives = λ weighing. weighing ≡ [] }
weighing_of (Some name) held = of_file IsWeightText RefusesWeighing held

-- the notions of a file, if one is asked for; else the thirteen of the spectrum
abbrev pub table_of : Option Word → Option (List ℕ) → Stage (List Notion)
table_of None held = record { Refuses = λ status. ⊥; Gives = λ table. table ≡ spectrum.notions }
table_of (Some name) held = of_file IsNotionText RefusesTable held
