-- Texts under names.
use Rattle.std.specs.Prelude.{ℕ, ◌≡◌, Bool, true, false, List, [], Option, Some, None, Result, MatchResult}

-- what text each name holds, if any
abbrev pub Texts : Type 0
Texts = List ℕ → Option (List ℕ)

-- told by a source that is no shelf, and by a shelf that does not tell
abbrev pub no_texts : Option Texts
no_texts = None

-- what is left after an opening that did or did not find the name; a shelf that does not tell its texts always finds it
abbrev pub Opens : Option Texts → List ℕ → Bool → Option (List ℕ) → Type 0
Opens None name true left = Unit {0}
Opens None name false left = ⊥
Opens (Some texts) name true left = (text : List ℕ) × (texts name ≡ Some text) × (left ≡ Some text)
Opens (Some texts) name false left = (texts name ≡ None) × (left ≡ Some [])

-- what is left after a call of `open`; after a failure nothing is open
abbrev pub AnswersOpen : {E : Type 0} → Option Texts → List ℕ → Result Bool E → Option (List ℕ) → Type 0
AnswersOpen texts name result left = MatchResult result (λ found. Opens texts name found left) (λ _. left ≡ Some [])
