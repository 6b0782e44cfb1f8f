-- The lines of an output in the pieces in which they are put.
use Rattle.std.proofs.Common.{◌≡◌, ℕ, List, ◌++◌, append_assoc}
use Rattle.std.specs.Prelude.{codes}
use Rattle.spectro_spec.specs.Price.{Price}
use Rattle.spectro_energy.specs.declared.parts.Parts.{Parts}
use Rattle.spectro_notation.specs.Prices.{price_text}
use Rattle.spectro_run.specs.Commands.Price.{priced_text}
use Rattle.spectro_run.specs.Notation.{price_line}

pub price_line-pieces : (held : List ℕ) (parts : Parts) (e : Price)
    → held ++ price_line parts e ≡ ((held ++ codes "price ") ++ price_text parts e) ++ codes "\n"
price_line-pieces held parts e = simp append_assoc

pub priced-pieces : (printed : List ℕ) (parts : Parts) (e : Price) → priced_text printed parts e ≡ (printed ++ codes "\n") ++ price_line parts e
priced-pieces printed parts e = simp append_assoc
