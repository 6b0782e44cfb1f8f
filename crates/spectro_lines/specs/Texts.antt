-- Texts of lines: lines of blanks alone count for nothing, and each other line leads from one state to the next, or is the first with a fault.
use Rattle.std.specs.Prelude.{ℕ, ◌≡◌, ◌+◌, ◌<◌, ◌⊎◌, List, [], ◌∷◌, ◌++◌, length}
use Rattle.std.specs.Str.{IsUtf8}
use Rattle.spectro_io.specs.Blanks.{AreBlanks}
use Rattle.spectro_io.specs.Lines.{first_line, lines_of}
use Rattle.spectro_lines.specs.Form.{Form}
use Rattle.spectro_io.specs.declared.lines.TheConstants.{LINE_LIMIT}

-- what stands before a line: so many bytes, so many lines, and the state that these have led to
pub record Before (State : Type 0) : Type 0 where
  pub bytes : ℕ
  pub lines : ℕ
  pub state : State

-- what stands before the line after this one, which led to the state
abbrev pub behind : {State : Type 0} → Before State → List ℕ → State → Before State
behind before line state = record { bytes = before.bytes + length line; lines = before.lines + 1; state = state }

module _ {State Value Kind : Type 0} where
  -- the line with this number is skipped, or leads to this state
  pub data LeadsTo (form : Form State Value Kind) (state : State) (number : ℕ) (line : List ℕ) (next : State) : Type 0 where
    skipped : AreBlanks line → next ≡ state → LeadsTo form state number line next
    given : ¬ AreBlanks line → form.Gives state number line next → LeadsTo form state number line next

  -- behind so many bytes the line has more bytes than a line may have, its line end not counted, or a byte more than a text may have
  abbrev pub IsTooLong : Form State Value Kind → ℕ → List ℕ → Type 0
  IsTooLong form bytes line = (LINE_LIMIT < length (first_line line)) ⊎ (form.limit < bytes + length line)

  -- no line stands before
  abbrev pub nothing_before : Form State Value Kind → Before State
  nothing_before form = record { bytes = 0; lines = 0; state = form.start }

  -- the line, with its line end, has no fault, and leads to this state
  pub record IsRead (form : Form State Value Kind) (before : Before State) (line : List ℕ) (next : State) : Type 0 where
    pub fit : ¬ IsTooLong form before.bytes line
    pub text : IsUtf8 (first_line line)
    pub leads : LeadsTo form before.state (before.lines + 1) (first_line line) next

  -- the line, with its line end, is too long, is not UTF-8, or has a fault of its own
  pub data IsFaulty (form : Form State Value Kind) (before : Before State) (line : List ℕ) (kind : Kind) : Type 0 where
    too_long : IsTooLong form before.bytes line → kind ≡ form.too_long → IsFaulty form before line kind
    not_text : ¬ IsTooLong form before.bytes line → ¬ IsUtf8 (first_line line) → kind ≡ form.not_text → IsFaulty form before line kind
    other : ¬ IsTooLong form before.bytes line → IsUtf8 (first_line line) → ¬ AreBlanks (first_line line) → form.IsFault before.state (first_line line) kind
        → IsFaulty form before line kind

  -- none of the lines has a fault, and this stands behind them
  abbrev pub Follow : Form State Value Kind → Before State → List (List ℕ) → Before State → Type 0
  Follow form before [] after = after ≡ before
  Follow form before (line ∷ lines) after = (next : State) × IsRead form before line next × Follow form (behind before line next) lines after

  -- none of the lines has a fault, and the text may end behind them
  pub record HasValue (form : Form State Value Kind) (before : Before State) (lines : List (List ℕ)) (value : Value) : Type 0 where
    pub after : Before State
    pub follow : Follow form before lines after
    pub ends : form.Ends after.state value

  -- no line before this one has a fault, and this one has it; or no line has one, and the text may not end behind them, for this reason
  pub data HasFault (form : Form State Value Kind) (first : Before State) (lines : List (List ℕ)) (number : ℕ) (kind : Kind) : Type 0 where
    at_line : (front : List (List ℕ)) (line : List ℕ) (rest : List (List ℕ)) (before : Before State) → lines ≡ front ++ line ∷ rest
        → Follow form first front before
        → IsFaulty form before line kind → number ≡ before.lines + 1 → HasFault form first lines number kind
    at_end : (after : Before State) → Follow form first lines after → form.EndsEarly after.state after.lines number kind → HasFault form first lines number kind

  -- the text has the value
  abbrev pub IsText : Form State Value Kind → List ℕ → Value → Type 0
  IsText form text value = HasValue form (nothing_before form) (lines_of text) value

  -- the first fault of the text is this, at the line with this number
  abbrev pub IsFirstFault : Form State Value Kind → List ℕ → ℕ → Kind → Type 0
  IsFirstFault form text number kind = HasFault form (nothing_before form) (lines_of text) number kind
