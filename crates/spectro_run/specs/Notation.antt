-- How truth and prices are written, each in a line.
use Rattle.std.specs.Prelude.{ℕ, Bool, List, ◌++◌, codes, if◌then◌else◌}
use Rattle.spectro_spec.specs.Price.{Price}
use Rattle.spectro_energy.specs.declared.parts.Parts.{Parts}
use Rattle.spectro_notation.specs.Prices.{price_text}

abbrev pub truth_line : Bool → List ℕ
truth_line answer = if answer then codes "true\n" else codes "false\n"

abbrev pub price_line : Parts → Price → List ℕ
price_line parts e = codes "price " ++ price_text parts e ++ codes "\n"
