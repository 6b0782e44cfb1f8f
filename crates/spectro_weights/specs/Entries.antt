-- A weighing as the code keeps it.
use Rattle.std.specs.Prelude.{ℕ, List, map, String, string_bytes}
use Rattle.std.specs.declared.alloc.Global.{Global}
use Rattle.spectro_spec.specs.Weighing.{Weighing}

abbrev pub weighing_of : List (String Global × ℕ) → Weighing
weighing_of entries = map (λ entry. record { label = string_bytes entry.0; weight = entry.1 }) entries
