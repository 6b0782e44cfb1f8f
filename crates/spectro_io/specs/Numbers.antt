-- Numbers in decimal digits. Zeros may lead.
use Rattle.std.specs.Prelude.{ℕ, ◌+◌, ◌-◌, ◌*◌, ◌^◌, ◌&&◌, nat_lt, Bool, min, List, length, fold, Option, Some, None, if◌then◌else◌}
use Rattle.std.specs.List.{list_all}
use Rattle.std.specs.Char.{is_ascii_digit}

-- one or more digits
abbrev pub is_number : List ℕ → Bool
is_number bytes = nat_lt 0 (length bytes) && list_all is_ascii_digit bytes

-- what the digits stand for, however many there are
abbrev pub number_value : List ℕ → ℕ
number_value bytes = fold (λ value digit. 10 * value + (digit - 48)) 0 bytes

-- the value, or the greatest of 64 bits where it is greater
abbrev pub capped : ℕ → ℕ
capped value = min value (2 ^ 64 - 1)

-- the value of a number, capped
abbrev pub number_of : List ℕ → Option ℕ
number_of bytes = if is_number bytes then Some (capped (number_value bytes)) else None
