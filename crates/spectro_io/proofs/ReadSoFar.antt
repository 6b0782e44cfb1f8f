-- What was read of a source so far, into what takes its bytes.
use Rattle.std.proofs.Common.{◌≡◌, ℕ, ◌+◌, ◌≤◌, subst, append-nil, append_assoc, List, [], ◌++◌, length, arith, length-append}
use Rattle.std.specs.Prelude.{Option}
use Rattle.std.specs.Io.KnownBytes.{Consumes, IsAtEnd}
use Rattle.std.proofs.KnownBytes.{Consumes-trans}
use Rattle.spectro_io.specs.Limits.{read_limit}
use Rattle.spectro_io.specs.Reads.{ReadsInto}
use Rattle.spectro_io.specs.declared.read.TheConstants.{READ_LIMIT}

module _ {Intake : Type 0} (has_taken : Intake → List ℕ → Type 0) where
  -- so many bytes were taken from the front of the source
  pub record HasReadSoFar (old new : Option (List ℕ)) (before now : Intake) (count : ℕ) : Type 0 where
    pub bytes : List ℕ
    pub front : Consumes old new bytes
    pub counted : length bytes ≡ count
    pub taken : (taken : List ℕ) → has_taken before taken → has_taken now (taken ++ bytes)

  -- one piece more
  pub read_more : (old now new : Option (List ℕ)) (before intake grown : Intake) (count added : ℕ) (piece : List ℕ)
      → HasReadSoFar old now before intake count → Consumes now new piece → added ≡ length piece
      → ((taken : List ℕ) → has_taken intake taken → has_taken grown (taken ++ piece)) → HasReadSoFar old new before grown (count + added)
  read_more old now new before intake grown count added piece so_far more same grows = record {
    bytes = so_far.bytes ++ piece;
    front = Consumes-trans _ _ _ _ _ so_far.front more;
    counted = let counted = so_far.counted in omega (arith, same, length-append so_far.bytes piece);
    taken = λ taken has. subst (has_taken grown) (append_assoc taken so_far.bytes piece) (grows (taken ++ so_far.bytes) (so_far.taken taken has));
  }

  -- as many bytes were taken as are read of a text
  pub read_full : (old new : Option (List ℕ)) (before now : Intake) (count : ℕ) → HasReadSoFar old new before now count
      → count ≤ READ_LIMIT → READ_LIMIT ≤ count → ReadsInto has_taken old new before now
  unfolding read_limit
  read_full old new before now count so_far within full =
      let counted = so_far.counted in
      record {
        bytes = so_far.bytes;
        read = record { front = so_far.front; within = omega arith; end = λ less. absurd (omega arith) };
        taken = so_far.taken;
      }

  -- no byte is left
  pub read_whole : (old mid new : Option (List ℕ)) (before now : Intake) (count : ℕ) → HasReadSoFar old mid before now count → count ≤ READ_LIMIT
      → Consumes mid new [] → IsAtEnd new → ReadsInto has_taken old new before now
  unfolding read_limit
  read_whole old mid new before now count so_far within none end =
      let counted = so_far.counted in
      record {
        bytes = so_far.bytes;
        read = record {
          front = subst (Consumes old new) (append-nil so_far.bytes)
              (Consumes-trans _ _ _ _ _ so_far.front none);
          within = omega arith;
          end = λ less. end;
        };
        taken = so_far.taken;
      }
