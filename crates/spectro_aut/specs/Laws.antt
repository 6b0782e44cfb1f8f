-- Laws of whole texts: a text is of one system or has one first fault, and a long text is judged by its front.
use Rattle.std.specs.Prelude.{ℕ, ◌≡◌, ◌≤◌, ◌⊎◌, List, length, take}
use Rattle.spectro_io.specs.Limits.{read_limit}
use Rattle.spectro_spec.specs.System.{System}
use Rattle.spectro_aut.specs.Texts.{IsText, IsFirstFault}
use Rattle.spectro_aut.specs.declared.error.AutFault.{AutFault}
use Rattle.spectro_io.specs.declared.read.TheConstants.{TEXT_LIMIT}

-- a text is of at most one system
abbrev pub EachTextHasAtMostOneSystem : Type 0
EachTextHasAtMostOneSystem = (text : List ℕ) (one other : System) → IsText text one → IsText text other → one ≡ other

-- a text has at most one first fault
abbrev pub EachTextHasAtMostOneFirstFault : Type 0
EachTextHasAtMostOneFirstFault = (text : List ℕ) (one other : AutFault) → IsFirstFault text one → IsFirstFault text other → one ≡ other

-- the text of a system has no fault
abbrev pub TextsOfSystemsHaveNoFault : Type 0
TextsOfSystemsHaveNoFault = (text : List ℕ) (system : System) (fault : AutFault) → IsText text system → IsFirstFault text fault → ⊥

-- each text is of a system or has a first fault
abbrev pub EachTextHasASystemOrAFault : Type 0
EachTextHasASystemOrAFault = (text : List ℕ) → ((system : System) × IsText text system) ⊎ ((fault : AutFault) × IsFirstFault text fault)

-- the text of a system is no longer than a text may be
abbrev pub TextsAreShort : Type 0
TextsAreShort = (text : List ℕ) (system : System) → IsText text system → length text ≤ TEXT_LIMIT

-- the fault of as many bytes as are read is that of the whole text
abbrev pub FaultsOfFrontsStay : Type 0
FaultsOfFrontsStay = (text : List ℕ) (fault : AutFault) → IsFirstFault (take read_limit text) fault → read_limit ≤ length text → IsFirstFault text fault

-- as many bytes as are read are no text of a system, where there are so many
abbrev pub LongFrontsAreNoTexts : Type 0
LongFrontsAreNoTexts = (text : List ℕ) (system : System) → IsText (take read_limit text) system → read_limit ≤ length text → ⊥
