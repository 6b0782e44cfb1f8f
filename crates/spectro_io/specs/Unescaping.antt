-- How the escapes of a label are undone, from left to right.
use Rattle.std.specs.Prelude.{ℕ, ◌==◌, ◌&&◌, ◌||◌, not, Bool, true, false, List, [], ◌∷◌, Option, None, Some, if◌then◌else◌}
use Rattle.std.specs.Option.{option_map}
use Rattle.spectro_io.specs.QuotedLabels.{is_escaped}

-- the byte can't stand there, where a backslash may stand before it
abbrev pub is_stray : Bool → ℕ → Bool
is_stray backslash byte = if backslash then not (is_escaped byte) else (byte == 34) || (byte == 10)

-- the label of the bytes, where a backslash may stand before them
abbrev pub unescaped_behind : Bool → List ℕ → Option (List ℕ)
unescaped_behind backslash [] = if backslash then None else Some []
unescaped_behind backslash (byte ∷ bytes) =
    if is_stray backslash byte then None
    else (if not backslash && (byte == 92) then unescaped_behind true bytes
    else option_map (λ label. byte ∷ label) (unescaped_behind false bytes))
