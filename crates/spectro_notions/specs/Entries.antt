-- Tables of notions as the code keeps them.
use Rattle.std.specs.Prelude.{List, map, string_bytes}
use Rattle.spectro_spec.specs.Notion.{Notion}
use Rattle.spectro_spec.specs.Spectrum.{notions}
use Rattle.spectro_notions.specs.Bounds.{bound_of}
use Rattle.spectro_notions.specs.declared.entry.Entry.{Entry}
use Rattle.spectro_notions.specs.declared.notions.Table.{Table}
use Rattle.spectro_notions.specs.declared.notions.Table.TheVariants.{Spectrum, Read}

-- the entry, as it stands in a table
abbrev pub notion_in : Entry → Notion
notion_in entry = record { name = string_bytes entry.name; bound = bound_of entry.bound.parts }

-- the notions, wherever they are kept
abbrev pub notions_in : Table → List Notion
notions_in Spectrum = notions
notions_in (Read entries) = map notion_in entries.items
