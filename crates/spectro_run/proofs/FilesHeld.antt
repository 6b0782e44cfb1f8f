-- What the files of a command hold, from what each holds.
use Rattle.std.proofs.Common.{◌≡◌, ℕ, List, [], refl}
use Rattle.std.specs.Prelude.{Option, None, Some}
use Rattle.spectro_io.specs.Shelves.{Texts}
use Rattle.spectro_run.specs.Held.{AreHeld, Held, IsHeld, file_of, of_files}
use Rattle.spectro_words.specs.Commands.{Command, eval, rewrite, price, size, compare, demo}
use Rattle.spectro_words.specs.Words.{Word}
use Rattle.spectro_run.specs.declared.status.Which.TheVariants.{Left, Right, Formula, Certificate, Weights, Notions}

abbrev pub files_held : Option (List ℕ) → Option (List ℕ) → Option (List ℕ) → Option (List ℕ) → Held
files_held left right weights notions = of_files left right weights notions

no_formula : (command : Command) → file_of Formula command ≡ None
no_formula (eval formula file weights) = refl
no_formula (rewrite file) = refl
no_formula (price formula weights) = refl
no_formula (size left right limit) = refl
no_formula (compare left right weights notions limit) = refl
no_formula (demo number) = refl

no_certificate : (command : Command) → file_of Certificate command ≡ None
no_certificate (eval formula file weights) = refl
no_certificate (rewrite file) = refl
no_certificate (price formula weights) = refl
no_certificate (size left right limit) = refl
no_certificate (compare left right weights notions limit) = refl
no_certificate (demo number) = refl

pub are-held : (told : Option Texts) (command : Command) (left right weights notions : Option (List ℕ)) → IsHeld told (file_of Left command) left
    → IsHeld told (file_of Right command) right → IsHeld told (file_of Weights command) weights → IsHeld told (file_of Notions command) notions
    → AreHeld told (Some command) (files_held left right weights notions)
are-held told command left right weights notions first second third fourth Left = first
are-held told command left right weights notions first second third fourth Right = second
are-held told command left right weights notions first second third fourth Weights = third
are-held told command left right weights notions first second third fourth Notions = fourth
are-held told command left right weights notions first second third fourth Formula = rw (no_formula command) refl
are-held told command left right weights notions first second third fourth Certificate = rw (no_certificate command) refl

-- a file that was not read holds what the shelf tells, or any text
pub some-held : (told : Option Texts) (name : Option Word) → (held : Option (List ℕ)) × IsHeld told name held
some-held told None = (None, refl)
some-held None (Some name) = (Some [], ([], refl))
some-held (Some texts) (Some name) = (texts name, refl)
