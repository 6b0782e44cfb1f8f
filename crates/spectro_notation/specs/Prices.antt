-- How a price is written.
use Rattle.std.specs.Prelude.{ℕ, List, ◌∷◌, map, take}
use Rattle.std.specs.Fmt.{decimal}
use Rattle.std.specs.List.{join_with_byte}
use Rattle.spectro_spec.specs.Price.{Price, parts}
use Rattle.spectro_energy.specs.declared.parts.Parts.{Parts}
use Rattle.spectro_energy.specs.declared.parts.Parts.TheVariants.{Six, Seven}

-- the parts that are shown, in order
abbrev pub shown : Parts → Price → List ℕ
shown Six e = take 6 (parts e)
shown Seven e = parts e

-- the parts in decimal, with one space between them
abbrev pub price_text : Parts → Price → List ℕ
price_text kind e = join_with_byte 32 (map decimal (shown kind e))

-- a number behind another
abbrev pub next_text : ℕ → List ℕ
next_text number = 32 ∷ decimal number
