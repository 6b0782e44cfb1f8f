-- A text that comes in pieces.
use Rattle.std.specs.Prelude.{ℕ, ◌≡◌, ◌+◌, ◌≤◌, Contains, List, [], ◌++◌, length}
use Rattle.spectro_io.specs.Lines.{lines_of, without_cr}
use Rattle.spectro_lines.specs.Form.{Form}
use Rattle.spectro_lines.specs.Texts.{Follow, nothing_before, IsFirstFault}
use Rattle.spectro_lines.specs.LineReading.{IsTaken, IsRefused}
use Rattle.spectro_lines.specs.declared.error.LineError.{LineError}
use Rattle.spectro_lines.specs.declared.error.LineError.TheVariants.{Text, OutOfMemory}
use Rattle.spectro_lines.specs.declared.feed.Progress.{Progress}
use Rattle.spectro_lines.specs.declared.feed.Progress.TheVariants.{Open, Faulty, Broken}
use Rattle.spectro_io.specs.declared.read.TheConstants.{TEXT_LIMIT}
use Rattle.spectro_lines.specs.declared.feed.TheConstants.{MAX_HELD}

-- how far the reading has come, how many bytes and whole lines there were, and the bytes of the line that has not ended
pub record Fed (State Kind : Type 0) : Type 0 where
  pub progress : Progress State Kind
  pub bytes : ℕ
  pub lines : ℕ
  pub held : List ℕ

module _ {State Kind : Type 0} where
  -- behind a fault nothing else is kept
  abbrev pub stopped : Fed State Kind → Kind → Fed State Kind
  stopped fed kind = record { progress = Faulty (record { line = fed.lines + 1; kind = kind }); bytes = 0; lines = 0; held = [] }

  -- behind the line that was held, no line is held
  abbrev pub line_taken : Fed State Kind → State → Fed State Kind
  line_taken fed next = record { progress = Open next; bytes = fed.bytes; lines = fed.lines + 1; held = [] }

  -- memory ran out
  abbrev pub IsBroken : Fed State Kind → Type 0
  IsBroken fed = fed.progress ≡ Broken

module _ {State Value Kind : Type 0} where
  -- no more bytes than a text may have; the lines are no more than these with those of the line that has not ended, which is short and has no LF
  pub record IsWhole (form : Form State Value Kind) (fed : Fed State Kind) : Type 0 where
    pub within : fed.bytes ≤ form.limit
    pub few : fed.bytes ≤ TEXT_LIMIT
    pub counted : fed.lines + length fed.held ≤ fed.bytes
    pub short : length fed.held ≤ MAX_HELD
    pub one_line : ¬ Contains fed.held 10

  -- no line of the bytes had a fault: whatever follows, the first lines of the text lead to the state, and the others are those of what is held and follows
  pub record LeadTo (form : Form State Value Kind) (fed : Fed State Kind) (bytes : List ℕ) (state : State) : Type 0 where
    pub front : List (List ℕ)
    pub begun : ℕ
    pub whole : (rest : List ℕ) → lines_of (bytes ++ rest) ≡ front ++ lines_of (fed.held ++ rest)
    pub follow : Follow form (nothing_before form) front (record { bytes = begun; lines = fed.lines; state = state })
    pub counted : fed.bytes ≡ begun + length fed.held

  -- what the progress says of the bytes that were taken
  abbrev pub Says : Form State Value Kind → Fed State Kind → List ℕ → Progress State Kind → Type 0
  Says form fed bytes (Open state) = LeadTo form fed bytes state
  Says form fed bytes (Faulty fault) = (rest : List ℕ) → IsFirstFault form (bytes ++ rest) fault.line fault.kind
  Says form fed bytes Broken = ⊥

  -- these bytes were taken: no line of them had a fault, or the first fault of the text is known, whatever follows
  abbrev pub HasTaken : Form State Value Kind → Fed State Kind → List ℕ → Type 0
  HasTaken form fed bytes = Says form fed bytes fed.progress

  -- whatever was taken before, these bytes were taken behind it
  abbrev pub Takes : Form State Value Kind → Fed State Kind → Fed State Kind → List ℕ → Type 0
  Takes form old new piece = (taken : List ℕ) → HasTaken form old taken → HasTaken form new (taken ++ piece)

  -- the line that was held has ended, and was read, unless an earlier one had a fault
  pub data EndsLine (form : Form State Value Kind) (old new : Fed State Kind) : Type 0 where
    settled : ((state : State) → old.progress ≡ Open state → ⊥) → new ≡ old → EndsLine form old new
    taken : (state next : State) → old.progress ≡ Open state → IsTaken form state (old.lines + 1) (without_cr old.held) next → new ≡ line_taken old next
        → EndsLine form old new
    refused : (state : State) (kind : Kind) → old.progress ≡ Open state → IsRefused form state (without_cr old.held) kind → new ≡ stopped old kind
        → EndsLine form old new

  -- what the progress says of a text of so many lines, all of which were read: none had a fault, or the first fault is known
  abbrev pub Found : Form State Value Kind → ℕ → List ℕ → Progress State Kind → Type 0
  Found form lines text (Open state) = (bytes : ℕ) × Follow form (nothing_before form) (lines_of text) (record { bytes = bytes; lines = lines; state = state })
  Found form lines text (Faulty fault) = IsFirstFault form text fault.line fault.kind
  Found form lines text Broken = ⊥

  -- all lines of the text were read
  abbrev pub HasRead : Form State Value Kind → Fed State Kind → List ℕ → Type 0
  HasRead form fed text = Found form fed.lines text fed.progress

  -- what an error says of the text; want of memory says nothing
  abbrev pub IsTold : Form State Value Kind → List ℕ → LineError Kind → Type 0
  IsTold form text (Text fault) = IsFirstFault form text fault.line fault.kind
  IsTold form text OutOfMemory = Unit {0}
