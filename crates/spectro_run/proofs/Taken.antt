-- What was read of an open text is what its name holds.
use Rattle.std.proofs.Common.{◌≡◌, ℕ, subst, take, List}
use Rattle.std.specs.Prelude.{Option, None, Some, true, IfSome}
use Rattle.spectro_io.specs.Limits.{read_limit}
use Rattle.spectro_io.specs.Reads.{ReadsInto}
use Rattle.spectro_io.specs.Shelves.{Texts, Opens}
use Rattle.spectro_io.proofs.ReadFront.{left_read}
use Rattle.spectro_run.specs.Reading.{HasRead, TakesText}

held_text : (told : Option Texts) (name bytes : List ℕ) (left : Option (List ℕ)) → Opens told name true left
    → IfSome left (λ xs. bytes ≡ take read_limit xs) → IfSome told (HasRead name bytes)
held_text None name bytes left opened front = tt
held_text (Some texts) name bytes left opened front = (opened.0, opened.1, subst (λ left. IfSome left (λ xs. bytes ≡ take read_limit xs)) opened.2 front)

pub text_taken : {Intake : Type 0} (has_taken : Intake → List ℕ → Type 0) (told : Option Texts) (name : List ℕ) (left new : Option (List ℕ))
    (before now : Intake) → Opens told name true left → ReadsInto has_taken left new before now → TakesText told name has_taken before now
text_taken has_taken told name left new before now opened all = record {
  bytes = all.bytes;
  taken = all.taken;
  read = held_text told name all.bytes left opened (left_read read_limit left new all.bytes all.read.front all.read.within all.read.end);
}
