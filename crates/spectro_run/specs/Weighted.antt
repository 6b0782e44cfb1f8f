-- How many parts of a price are shown.
use Rattle.std.specs.Prelude.{Option, None, Some}
use Rattle.spectro_energy.specs.declared.parts.Parts.{Parts}
use Rattle.spectro_energy.specs.declared.parts.Parts.TheVariants.{Six, Seven}
use Rattle.spectro_words.specs.Words.{Word}

-- the weighted depth is shown where weights are asked for
abbrev pub parts_shown : Option Word → Parts
parts_shown None = Six
parts_shown (Some name) = Seven
