-- What the files of a command hold.
use Rattle.std.specs.Prelude.{ℕ, ◌≡◌, List, Option, None, Some}
use Rattle.spectro_io.specs.Shelves.{Texts}
use Rattle.spectro_words.specs.Commands.{Command, eval, rewrite, price, size, compare, demo}
use Rattle.spectro_words.specs.Words.{Word}
use Rattle.spectro_run.specs.declared.status.Which.{Which}
use Rattle.spectro_run.specs.declared.status.Which.TheVariants.{Left, Right, Formula, Certificate, Weights, Notions}

-- what there is of this text, of the left file, the right one, that of weights and that of notions
abbrev pub of_files : {T : Type 0} → Option T → Option T → Option T → Option T → Which → Option T
of_files left right weights notions Left = left
of_files left right weights notions Right = right
of_files left right weights notions Weights = weights
of_files left right weights notions Notions = notions
of_files left right weights notions Formula = None
of_files left right weights notions Certificate = None

-- the name of this file of the command, if it has one
abbrev pub file_of : Which → Command → Option Word
file_of which (eval formula file weights) = of_files (Some file) None weights None which
file_of which (rewrite file) = of_files (Some file) None None None which
file_of which (price formula weights) = of_files None None weights None which
file_of which (size left right limit) = of_files (Some left) (Some right) None None which
file_of which (compare left right weights notions limit) = of_files (Some left) (Some right) weights notions which
file_of which (demo number) = None

-- the command, if there is one, has no file
abbrev pub HasNoFile : Option Command → Type 0
HasNoFile None = Unit {0}
HasNoFile (Some command) =
    (file_of Left command ≡ None) × (file_of Right command ≡ None) × (file_of Weights command ≡ None) × (file_of Notions command ≡ None)

-- what each file of a command holds; nothing for one that it has not
abbrev pub Held : Type 0
Held = Which → Option (List ℕ)

-- what a shelf tells of a name, or any text where it tells nothing
abbrev pub IsHeld : Option Texts → Option Word → Option (List ℕ) → Type 0
IsHeld told None held = held ≡ None
IsHeld None (Some name) held = (text : List ℕ) × (held ≡ Some text)
IsHeld (Some texts) (Some name) held = held ≡ texts name

-- the files of the command, if there is one, hold this
abbrev pub AreHeld : Option Texts → Option Command → Held → Type 0
AreHeld told None held = (which : Which) → held which ≡ None
AreHeld told (Some command) held = (which : Which) → IsHeld told (file_of which command) (held which)
