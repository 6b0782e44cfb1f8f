-- What a row of readings gave, and a row of tests, each of which has its fault.
use Rattle.std.proofs.Common.{◌≡◌, Bool, true, false, cond, refl}
use Rattle.std.specs.Prelude.{Option, Some, Result, Ok, Err, ◌⊎◌}
use Rattle.std.proofs.Common.{inl, inr}
use Rattle.spectro_io.specs.Fronts.{◌>>=◌}
use Rattle.spectro_io.proofs.Fronts.{bind_some}

-- what follows from both of two readings in a row
pub bind_then : {A B P : Type 0} (first : Option A) (second : A → Option B) (y : B) → (first >>= second) ≡ Some y
    → ((x : A) → first ≡ Some x → second x ≡ Some y → P) → P
bind_then first second y e then = let found = bind_some first second y e in then found.0 found.1 found.2

-- the test did not find its fault, and the others gave this
pub choice_ok : {A E : Type 0} (test : Bool) (fault : E) (others : Result A E) (x : A) → cond test (Err fault) others ≡ Ok x → (test ≡ false) × (others ≡ Ok x)
choice_ok true fault others x e = cc
choice_ok false fault others x e = (refl, e)

-- the fault is that of the test, or comes later
pub choice_err : {A E : Type 0} (test : Bool) (fault : E) (others : Result A E) (found : E) → cond test (Err fault) others ≡ Err found
    → ((test ≡ true) × (found ≡ fault)) ⊎ ((test ≡ false) × (others ≡ Err found))
choice_err true fault others found e = inl (refl, cc)
choice_err false fault others found e = inr (refl, e)
