-- What the real devices tell: that nothing is left where nothing is open, and no more.
use Rattle.std.specs.Prelude.{ℕ, List, [], Option, None, Some}

abbrev pub left_of_file : {F : Type 0} → Option F → Option (List ℕ)
left_of_file None = Some []
left_of_file (Some file) = None
