-- What one kind of texts of lines has of its own. What all of them share is in Texts.
use Rattle.std.specs.Prelude.{ℕ, List}

-- a text of lines has a value, or a line with a fault of some kind. What the lines so far have given is a state. Lines are counted from 1
pub record Form (State Value Kind : Type 0) : Type 1 where
  -- before the first line
  pub start : State
  -- after this state the line with this number, which is not blank, leads to that one
  pub Gives : State → ℕ → List ℕ → State → Type 0
  -- after this state the line, which is not blank, has the fault
  pub IsFault : State → List ℕ → Kind → Type 0
  -- the text may end after this state, and has the value
  pub Ends : State → Value → Type 0
  -- the text may not end after this state and so many lines: the line with this number has the fault
  pub EndsEarly : State → ℕ → ℕ → Kind → Type 0
  -- how many bytes a text may have, line ends counted
  pub limit : ℕ
  -- the fault of a line that is too long, or has a byte more than a text may have
  pub too_long : Kind
  -- the fault of a line that is not UTF-8
  pub not_text : Kind
