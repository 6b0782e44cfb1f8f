-- What batches have written and hold, call after call.
use Rattle.std.proofs.Common.{◌≡◌, ◌∙◌, ℕ, List, [], ◌++◌, sym, ap, subst, append-nil, append_assoc}
use Rattle.std.specs.Prelude.{Option, Result, Ok, Err}
use Rattle.std.specs.Io.KnownBytes.{Appends}
use Rattle.std.proofs.KnownBytes.{Appends-trans}
use Rattle.spectro_io.specs.Bytes.{AppendsPart, WritesWhole}
use Rattle.spectro_io.specs.Batches.{IsPending, Puts}
use Rattle.spectro_io.proofs.Written.{AppendsPart-front, AppendsPart-back}

-- the pieces behind those that were pending are pending too
pub pending-more : (start mid now : Option (List ℕ)) (held all more_held more : List ℕ) → IsPending start mid held all
    → IsPending mid now more_held (held ++ more) → IsPending start now more_held (all ++ more)
pending-more start mid now held all more_held more first second = record {
  gone = first.gone ++ second.gone;
  written = Appends-trans start mid now first.gone second.gone first.written second.written;
  whole = ap (λ bytes. bytes ++ more) first.whole ∙ append_assoc first.gone held more ∙ ap (λ bytes. first.gone ++ bytes) second.whole
      ∙ sym (append_assoc first.gone second.gone more_held);
}

-- a proper prefix of what is held and more, behind what was written before
pub pending-part : (start mid now : Option (List ℕ)) (held all more : List ℕ) → IsPending start mid held all → AppendsPart mid now (held ++ more)
    → AppendsPart start now (all ++ more)
pending-part start mid now held all more first second =
    let whole : all ++ more ≡ first.gone ++ (held ++ more) = ap (λ bytes. bytes ++ more) first.whole ∙ append_assoc first.gone held more in
    subst (AppendsPart start now) (sym whole) (AppendsPart-back start mid now first.gone (held ++ more) first.written second)

-- an error stopped the writing before the rest of the whole, which is not written either
pub puts-stopped : (start mid now : Option (List ℕ)) (held all more back whole : List ℕ) → whole ≡ (all ++ more) ++ back → IsPending start mid held all
    → AppendsPart mid now (held ++ more) → AppendsPart start now whole
puts-stopped start mid now held all more back whole parts first second =
    subst (AppendsPart start now) (sym parts) (AppendsPart-front start now (all ++ more) back (pending-part start mid now held all more first second))

-- more bytes are put behind what is pending
pub puts-more : {E : Type 0} (start mid now : Option (List ℕ)) (result : Result (Unit {0}) E) (held all more_held more : List ℕ)
    → IsPending start mid held all → Puts mid now result more_held (held ++ more) → Puts start now result more_held (all ++ more)
puts-more start mid now (Ok done) held all more_held more first second = pending-more start mid now held all more_held more first second
puts-more start mid now (Err error) held all more_held more first second = pending-part start mid now held all more first second

-- what is pending is written to the end
pub pending-whole : {E : Type 0} (start mid now : Option (List ℕ)) (result : Result (Unit {0}) E) (held all : List ℕ) → IsPending start mid held all
    → WritesWhole mid now result held → WritesWhole start now result all
pending-whole start mid now (Ok done) held all first second = subst (Appends start now) (sym first.whole)
    (Appends-trans start mid now first.gone held first.written second)
pending-whole start mid now (Err error) held all first second = subst (AppendsPart start now) (sym first.whole)
    (AppendsPart-back start mid now first.gone held first.written second)

-- all that was held was written, and the bytes are written past the batch
pub puts-past : {E : Type 0} (start mid now : Option (List ℕ)) (result : Result (Unit {0}) E) (held bytes : List ℕ) → Appends start mid held
    → WritesWhole mid now result bytes → Puts start now result [] (held ++ bytes)
puts-past start mid now (Ok done) held bytes first second = record {
  gone = held ++ bytes;
  written = Appends-trans start mid now held bytes first second;
  whole = sym (append-nil (held ++ bytes));
}
puts-past start mid now (Err error) held bytes first second = AppendsPart-back start mid now held bytes first second
