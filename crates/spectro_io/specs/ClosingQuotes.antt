-- Where the quote stands that closes a label.
use Rattle.std.specs.Prelude.{ℕ, ◌+◌, ◌==◌, ◌&&◌, not, Bool, List, [], ◌∷◌, Option, None, Some, if◌then◌else◌}

-- the place of the first quote that no backslash takes with it, where the first byte has this place, and a backslash may stand before it
abbrev pub closing_from : ℕ → Bool → List ℕ → Option ℕ
closing_from place backslash [] = None
closing_from place backslash (byte ∷ bytes) = if not backslash && (byte == 34) then Some place else closing_from (place + 1)
    (not backslash && (byte == 92)) bytes
