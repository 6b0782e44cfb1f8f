-- What two readings in a row gave, and what words at the front of a text say of it.
use Rattle.std.proofs.Common.{◌≡◌, ◌∙◌, ℕ, true, List, ◌++◌, take, drop, length, refl, sym, ap, take-append-drop}
use Rattle.std.specs.Prelude.{Option, None, Some}
use Rattle.std.specs.Str.{bytes_eq}
use Rattle.std.proofs.Math.Seq.{take-append_seam, drop-append_seam}
use Rattle.std.proofs.lemmas.Option.{cond_some}
use Rattle.std.proofs.lemmas.Slice.Eq.{bytes_eq-Decides}
use Rattle.spectro_io.specs.Fronts.{◌>>=◌, after}

-- what two readings in a row gave
pub bind_some : {A B : Type 0} (first : Option A) (second : A → Option B) (y : B) → (first >>= second) ≡ Some y
    → (x : A) × (first ≡ Some x) × (second x ≡ Some y)
bind_some None second y e = cc
bind_some (Some x) second y e = (x, refl, e)

-- the words at the front, and what is left
pub after_complete : (words rest : List ℕ) → after words (words ++ rest) ≡ Some rest
after_complete words rest =
    let same : bytes_eq words words ≡ true = (bytes_eq-Decides words words).1 refl in
    rw (take-append_seam words rest, same) (ap Some (drop-append_seam words rest))

pub after_sound : (words text rest : List ℕ) → after words text ≡ Some rest → text ≡ words ++ rest
after_sound words text rest e =
    let found = cond_some _ _ _ e in
    sym (take-append-drop (length words) text) ∙ ap (λ l. l ++ drop (length words) text) ((bytes_eq-Decides (take (length words) text) words).0 found.0)
    ∙ ap (λ l. words ++ l) found.1
