-- What was taken by a reader of lines, after each of its steps.
use Rattle.std.proofs.Common.{◌≡◌, ◌≢◌, ◌∙◌, ℕ, suc, ◌+◌, ◌<◌, ◌≤◌, Bool, true, false, List, [], ◌∷◌, length, refl, sym, ap, subst, arith}
use Rattle.std.specs.Prelude.{Option, nat_lt, ◌==◌}
use Rattle.std.proofs.lemmas.Grind.{common_steps}
use Rattle.std.specs.Io.KnownBytes.{Consumes, Keeps, IsAtEnd}
use Rattle.std.proofs.KnownBytes.{Consumes-kept}
use Rattle.spectro_io.specs.Limits.{read_limit}
use Rattle.spectro_io.specs.LineReaders.{ReaderState, has_line_feed, Holds, Takes, HasReadAll, AnswersLine, AnswersEnd, HoldsUnended, KeepsLine}
use Rattle.spectro_io.specs.LineSteps.{gathered, answered, refilled}
use Rattle.spectro_io.proofs.LineFeeds.{after-none}
use Rattle.spectro_io.proofs.LineReading.{takes-as, takes-more, gathered-unended, gathered-line, refilled-holds, last-line, last-none}

-- after all that is ahead was gathered
pub takes-unended : (old mid new : ReaderState) (before after : Option (List ℕ)) → Takes old mid before after (Holds mid) → has_line_feed mid.ahead ≡ false
    → new ≡ gathered mid → Takes old new before after (HoldsUnended new)
takes-unended old mid new before after takes none is =
    takes-as old mid new before after (Holds mid) (HoldsUnended new) takes (ap (λ r. r.taken) is)
    (λ bytes holds. subst (λ r. HoldsUnended r bytes) (sym is) (gathered-unended mid bytes none holds))

pub ahead-none : (mid new : ReaderState) → has_line_feed mid.ahead ≡ false → new ≡ gathered mid → new.ahead ≡ []
ahead-none mid new none is = ap (λ r. r.ahead) is ∙ after-none (λ byte. byte == 10) mid.ahead none

-- after a line was gathered and answered
pub takes-line : (old mid whole new : ReaderState) (before after : Option (List ℕ)) → Takes old mid before after (Holds mid)
    → has_line_feed mid.ahead ≡ true → whole ≡ gathered mid → new ≡ answered whole
    → Takes old new before after (AnswersLine new after)
takes-line old mid whole new before after takes found is ends =
    let both : new ≡ answered (gathered mid) = ends ∙ ap answered is in
    takes-as old mid new before after (Holds mid) (AnswersLine new after) takes (ap (λ r. r.taken) both)
    (λ bytes holds. subst (λ r. AnswersLine r after bytes) (sym both) (gathered-line mid after bytes found holds))

-- after more was read, behind a line that is begun
pub takes-read : (old mid whole new : ReaderState) (before between after : Option (List ℕ)) → Takes old mid before between (Holds mid)
    → has_line_feed mid.ahead ≡ false → whole ≡ gathered mid → Consumes between after new.ahead
    → new ≡ refilled whole new.ahead → Takes old new before after (Holds new)
takes-read old mid whole new before between after takes none is taken grows =
    let unended : Takes old whole before between (HoldsUnended whole) = takes-unended old mid whole before between takes none is in
    takes-more old whole new before between after new.ahead (HoldsUnended whole) (Holds new) unended taken (ap (λ r. r.taken) grows)
    (λ bytes holds. refilled-holds whole new bytes (ahead-none mid whole none is) (ap (λ r. r.begun) grows) holds.held)

-- after a read failed
pub takes-kept : (old mid whole new : ReaderState) (before between after : Option (List ℕ)) → Takes old mid before between (Holds mid)
    → has_line_feed mid.ahead ≡ false → whole ≡ gathered mid → Keeps between after → new ≡ whole
    → Takes old new before after (HoldsUnended new)
takes-kept old mid whole new before between after takes none is kept same =
    let unended : Takes old new before between (HoldsUnended new) = takes-unended old mid new before between takes none (same ∙ is) in
    record {
      bytes = unended.bytes;
      front = Consumes-kept before between after unended.bytes unended.front kept;
      count = unended.count;
      answer = unended.answer;
    }

-- what was read is nothing where no byte of it was counted
pub none-read : (some : Bool) (ahead : List ℕ) → some ≡ nat_lt 0 (length ahead) → some ≡ false → ahead ≡ []
none-read some [] is none = refl
none-read some (byte ∷ bytes) is none = cc (sym is ∙ none, some_counted (length bytes))
  where
    some_counted : (n : ℕ) → nat_lt 0 (suc n) ≡ true
    some_counted n = grind (arith, common_steps)

-- where not all was taken that is read of a text, and nothing was added, there is room
pub not-full : (full : Bool) (mid whole new : ReaderState) → full ≡ (whole.taken == read_limit) → full ≡ false → mid.taken ≤ read_limit
    → whole ≡ gathered mid → new ≡ refilled whole new.ahead → new.ahead ≡ [] → new.taken < read_limit
not-full full mid whole new is other within gathers refills none = below full mid.taken whole.taken read_limit (length new.ahead) new.taken is other within
    (ap (λ r. r.taken) gathers) (ap length none) (ap (λ r. r.taken) refills)
  where
    below : (full : Bool) (before taken limit added now : ℕ) → full ≡ (taken == limit) → full ≡ false → before ≤ limit → taken ≡ before → added ≡ 0
        → now ≡ taken + added → now < limit
    below full before taken limit added now is other within same none grows = grind (arith, common_steps)

-- the line that was answered last stays while more is read
pub keeps-read : (old mid whole new : ReaderState) → KeepsLine old mid → whole ≡ gathered mid → new ≡ refilled whole new.ahead → KeepsLine old new
keeps-read old mid whole new kept gathers refills = record {
  line = ap (λ r. r.line) refills ∙ ap (λ r. r.line) gathers ∙ kept.line;
  cut = ap (λ r. r.cut) refills ∙ ap (λ r. r.cut) gathers ∙ kept.cut;
}

-- after nothing more was read
pub takes-last : (old mid new : ReaderState) (before after : Option (List ℕ)) → Takes old mid before after (Holds mid) → mid.ahead ≡ [] → mid.begun ≢ []
    → IsAtEnd after → mid.taken < read_limit → new ≡ answered mid
    → Takes old new before after (AnswersLine new after)
takes-last old mid new before after takes done some end within is =
    let read : HasReadAll (answered mid) after = record { end = end; within = within } in
    takes-as old mid new before after (Holds mid) (AnswersLine new after) takes (ap (λ r. r.taken) is)
    (λ bytes holds. subst (λ r. AnswersLine r after bytes) (sym is) (last-line mid after bytes done some read holds))

pub takes-end : (old mid new : ReaderState) (before after : Option (List ℕ)) → Takes old mid before after (Holds mid) → mid.ahead ≡ [] → mid.begun ≡ []
    → IsAtEnd after → mid.taken < read_limit → new ≡ mid
    → Takes old new before after (AnswersEnd new after)
takes-end old mid new before after takes done none end within is =
    let read : HasReadAll mid after = record { end = end; within = within } in
    takes-as old mid new before after (Holds mid) (AnswersEnd new after) takes (ap (λ r. r.taken) is)
    (λ bytes holds. subst (λ r. AnswersEnd r after bytes) (sym is) (last-none mid after bytes done none read holds))
