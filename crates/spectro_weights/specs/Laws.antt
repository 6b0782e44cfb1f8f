-- Laws of whole texts: a text is of one weighing or has one first fault, and a long text is judged by its front.
use Rattle.std.specs.Prelude.{ℕ, ◌≡◌, ◌≤◌, ◌⊎◌, List, length, take}
use Rattle.spectro_io.specs.Limits.{read_limit}
use Rattle.spectro_spec.specs.Weighing.{Weighing}
use Rattle.spectro_weights.specs.WeightTexts.{IsWeightText, IsFirstFault}
use Rattle.spectro_weights.specs.declared.error.WeightFault.{WeightFault}

-- a text is of at most one weighing
abbrev pub EachTextHasAtMostOneWeighing : Type 0
EachTextHasAtMostOneWeighing = (text : List ℕ) (one other : Weighing) → IsWeightText text one → IsWeightText text other → one ≡ other

-- a text has at most one first fault
abbrev pub EachTextHasAtMostOneFirstFault : Type 0
EachTextHasAtMostOneFirstFault = (text : List ℕ) (one other : WeightFault) → IsFirstFault text one → IsFirstFault text other → one ≡ other

-- the text of a weighing has no fault
abbrev pub TextsOfWeighingsHaveNoFault : Type 0
TextsOfWeighingsHaveNoFault = (text : List ℕ) (weighing : Weighing) (fault : WeightFault) → IsWeightText text weighing → IsFirstFault text fault → ⊥

-- each text is of a weighing or has a first fault
abbrev pub EachTextHasAWeighingOrAFault : Type 0
EachTextHasAWeighingOrAFault = (text : List ℕ) → ((weighing : Weighing) × IsWeightText text weighing) ⊎ ((fault : WeightFault) × IsFirstFault text fault)

-- the fault of as many bytes as are read is that of the whole text
abbrev pub FaultsOfFrontsStay : Type 0
FaultsOfFrontsStay = (text : List ℕ) (fault : WeightFault) → IsFirstFault (take read_limit text) fault → read_limit ≤ length text → IsFirstFault text fault

-- as many bytes as are read are no text of a weighing, where there are so many
abbrev pub LongFrontsAreNoTexts : Type 0
LongFrontsAreNoTexts = (text : List ℕ) (weighing : Weighing) → IsWeightText (take read_limit text) weighing → read_limit ≤ length text → ⊥
