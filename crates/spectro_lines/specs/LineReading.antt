-- What the code finds in a line without its line end.
use Rattle.std.specs.Prelude.{ℕ, ◌≡◌, ◌<◌, ◌≤◌, List, ◌∷◌, ◌++◌, length, Contains}
use Rattle.std.specs.Str.{IsUtf8}
use Rattle.spectro_io.specs.Blanks.{AreBlanks}
use Rattle.spectro_lines.specs.Form.{Form}
use Rattle.spectro_lines.specs.Texts.{LeadsTo}
use Rattle.spectro_io.specs.declared.lines.TheConstants.{LINE_LIMIT}

-- the bytes before and after the first LF of the bytes
pub record IsSplit (bytes before after : List ℕ) : Type 0 where
  pub whole : bytes ≡ before ++ 10 ∷ after
  pub unbroken : ¬ Contains before 10

module _ {State Value Kind : Type 0} where
  -- the line has no fault, and leads to this state
  pub record IsTaken (form : Form State Value Kind) (state : State) (number : ℕ) (line : List ℕ) (next : State) : Type 0 where
    pub short : length line ≤ LINE_LIMIT
    pub text : IsUtf8 line
    pub leads : LeadsTo form state number line next

  -- the line has the fault
  pub data IsRefused (form : Form State Value Kind) (state : State) (line : List ℕ) (kind : Kind) : Type 0 where
    too_long : LINE_LIMIT < length line → kind ≡ form.too_long → IsRefused form state line kind
    not_text : length line ≤ LINE_LIMIT → ¬ IsUtf8 line → kind ≡ form.not_text → IsRefused form state line kind
    other : length line ≤ LINE_LIMIT → IsUtf8 line → ¬ AreBlanks line → form.IsFault state line kind → IsRefused form state line kind
