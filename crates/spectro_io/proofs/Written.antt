-- What a loop has written of its bytes.
use Rattle.std.proofs.Common.{◌≡◌, ◌∙◌, ℕ, List, ◌++◌, take, drop, length, sym, ap, subst, arith, length-append, ◌<◌, ◌+◌, ◌-◌, ◌≤◌}
use Rattle.std.proofs.lemmas.Grind.{common_steps}
use Rattle.std.specs.Prelude.{Option}
use Rattle.std.specs.Io.KnownBytes.{Appends, Keeps}
use Rattle.std.proofs.KnownBytes.{Appends-trans, Appends-kept}
use Rattle.std.proofs.Math.Seq.{take-append_seam, take-append-add}
use Rattle.std.proofs.lemmas.List.{take-append-le}
use Rattle.spectro_io.specs.Bytes.{AppendsPart}

-- some front of the bytes was written, and rest is what is left to write
pub record HasWritten (old new : Option (List ℕ)) (bytes rest : List ℕ) : Type 0 where
  pub done : List ℕ
  pub whole : bytes ≡ done ++ rest
  pub written : Appends old new done

-- the next piece was written, and the slice from there on is left
pub written-more : (old mid new : Option (List ℕ)) (bytes rest : List ℕ) (count : ℕ) → HasWritten old mid bytes rest → Appends mid new (take count rest)
    → HasWritten old new bytes (take (length rest - count) (drop count rest))
written-more old mid new bytes rest count so_far more = record {
  done = so_far.done ++ take count rest;
  whole = grind (arith, common_steps, so_far.whole);
  written = Appends-trans old mid new so_far.done (take count rest) so_far.written more;
}

-- where something is left, what was written is a proper prefix
pub written-part : (old mid new : Option (List ℕ)) (bytes rest : List ℕ) → HasWritten old mid bytes rest → 0 < length rest → Keeps mid new
    → AppendsPart old new bytes
written-part old mid new bytes rest so_far some kept =
    let front : take (length so_far.done) bytes ≡ so_far.done = ap (take (length so_far.done)) so_far.whole ∙ take-append_seam so_far.done rest in
    let lengths : length bytes ≡ length so_far.done + length rest = ap length so_far.whole ∙ length-append so_far.done rest in
    (length so_far.done, omega arith, subst (Appends old new) (sym front) (Appends-kept old mid new so_far.done so_far.written kept))

-- for a writer that writes in several calls: a proper prefix of the front is one of the whole
pub AppendsPart-front : (old new : Option (List ℕ)) (front back : List ℕ) → AppendsPart old new front → AppendsPart old new (front ++ back)
AppendsPart-front old new front back part =
    let count = part.0 in
    let short : count ≤ length front = let less = part.1 in omega arith in
    (count, let less = part.1 in omega (arith, length-append front back), rw take-append-le part.2)

-- the front, and then a proper prefix of the back, is a proper prefix of the whole
pub AppendsPart-back : (old mid new : Option (List ℕ)) (front back : List ℕ) → Appends old mid front → AppendsPart mid new back
    → AppendsPart old new (front ++ back)
AppendsPart-back old mid new front back first part = (
  length front + part.0,
  let less = part.1 in omega (arith, length-append front back),
  rw (take-append-add front back part.0)
      (Appends-trans old mid new front (take part.0 back) first part.2),
)
