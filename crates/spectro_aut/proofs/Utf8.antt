-- What `from_utf8` answers, as a test.
use Rattle.std.proofs.Common.{◌≡◌, Bool, true, false, ℕ, List, Bor, refl}
use Rattle.std.specs.Prelude.{Result, Ok, Err, MatchResult}
use Rattle.std.specs.Option.{option_map}
use Rattle.std.specs.Result.{result_ok}
use Rattle.std.specs.Str.{IsUtf8, is_utf8}
use Rattle.std.proofs.lemmas.Str.{is_utf8-from_IsUtf8, IsUtf8-from_is_utf8}
use Rattle.spectro_aut.specs.Reading.{utf8_of}

not_utf8 : (bytes : List ℕ) → ¬ (IsUtf8 bytes) → is_utf8 bytes ≡ false
not_utf8 bytes none = by (is_utf8 bytes) refl
  where
    by : (b : Bool) → is_utf8 bytes ≡ b → b ≡ false
    by true e = absurd (none (IsUtf8-from_is_utf8 bytes e))
    by false e = refl

pub ok-utf8_of : {E : Type 0} (bytes : List ℕ) (result : Result (Bor (List ℕ)) E) (Q : E → Type 0)
    → MatchResult result (λ text. (text.now ≡ bytes) × IsUtf8 bytes) (λ e. ¬ (IsUtf8 bytes) × Q e)
    → option_map (λ text. text.now) (result_ok result) ≡ utf8_of bytes
ok-utf8_of bytes (Ok text) Q cases = rw (is_utf8-from_IsUtf8 bytes cases.1) (rw cases.0 refl)
ok-utf8_of bytes (Err e) Q cases = rw (not_utf8 bytes cases.0) refl
