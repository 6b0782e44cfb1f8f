-- What a reader of lines stands for, from step to step.
use Rattle.std.proofs.Common.{◌≡◌, ◌∙◌, ℕ, ◌+◌, ◌<◌, true, false, ◌||◌, List, [], ◌∷◌, ◌++◌, take, length, refl, sym, ap, subst, arith, length-append, length-take, append-nil, append_assoc}
use Rattle.std.specs.Prelude.{nat_lt, Option, ◌==◌}
use Rattle.std.specs.List.{before_first}
use Rattle.std.specs.Io.KnownBytes.{Consumes}
use Rattle.std.proofs.KnownBytes.{Consumes-nil, Consumes-trans}
use Rattle.std.proofs.lemmas.List.{nil_from_length}
use Rattle.std.proofs.lemmas.List.Folds.{list_any-append}
use Rattle.spectro_io.specs.Lines.{without_cr, after_line}
use Rattle.spectro_io.specs.LineReaders.{ReaderState, has_line_feed, Holds, Takes, HasReadAll, AnswersLine, AnswersEnd, HoldsUnended}
use Rattle.spectro_io.specs.LineSteps.{gathered, answered}
use Rattle.spectro_io.proofs.LineFeeds.{before-append, after-append, before-none, after-none}
use Rattle.spectro_io.proofs.Gathered.{take-front, kept-front, cut-front}
use Rattle.spectro_io.specs.declared.lines.TheConstants.{LINE_LIMIT}

-- nothing was taken yet
pub takes-none : (reader : ReaderState) (left : Option (List ℕ)) → Takes reader reader left left (Holds reader)
takes-none reader left = record {
  bytes = [];
  front = Consumes-nil left;
  count = omega arith;
  answer = λ held holds. subst (Holds reader) (sym (append-nil held)) holds;
}

-- what was taken and answers in one way answers in another
pub takes-as : (old mid new : ReaderState) (before after : Option (List ℕ)) (A B : List ℕ → Type 0) → Takes old mid before after A → new.taken ≡ mid.taken
    → ((bytes : List ℕ) → A bytes → B bytes) → Takes old new before after B
takes-as old mid new before after A B takes same step = record {
  bytes = takes.bytes;
  front = takes.front;
  count = same ∙ takes.count;
  answer = λ held holds. step (held ++ takes.bytes) (takes.answer held holds);
}

-- more was taken
pub takes-more : (old mid new : ReaderState) (before between after : Option (List ℕ)) (more : List ℕ) (A B : List ℕ → Type 0)
    → Takes old mid before between A → Consumes between after more → new.taken ≡ mid.taken + length more
    → ((bytes : List ℕ) → A bytes → B (bytes ++ more)) → Takes old new before after B
takes-more old mid new before between after more A B takes taken grows step = record {
  bytes = takes.bytes ++ more;
  front = Consumes-trans before between after takes.bytes more takes.front taken;
  count = omega (arith, grows, takes.count, length-append takes.bytes more);
  answer = λ held holds. subst B (append_assoc held takes.bytes more) (step (held ++ takes.bytes) (takes.answer held holds));
}

-- an LF among what is held is ahead
pub held-ahead : (reader : ReaderState) (held : List ℕ) → Holds reader held → has_line_feed held ≡ true → has_line_feed reader.ahead ≡ true
held-ahead reader held holds found = sym (ap (λ b. b || has_line_feed reader.ahead) holds.unended)
    ∙ sym (list_any-append (λ byte. byte == 10) holds.front reader.ahead) ∙ sym (ap has_line_feed holds.whole) ∙ found

-- where no LF is ahead, all that is ahead belongs to the line that is begun
pub gathered-unended : (reader : ReaderState) (held : List ℕ) → has_line_feed reader.ahead ≡ false → Holds reader held → HoldsUnended (gathered reader) held
gathered-unended reader held none holds =
    let all : before_first (λ byte. byte == 10) reader.ahead ≡ reader.ahead = before-none (λ byte. byte == 10) reader.ahead none in
    let unended : has_line_feed (holds.front ++ reader.ahead) ≡ false = rw
    (list_any-append (λ byte. byte == 10) holds.front reader.ahead, holds.unended) none in
    record {
      unended = rw holds.whole unended;
      held = record {
        front = holds.front ++ reader.ahead;
        unended = unended;
        begun = ap (λ bytes. take (LINE_LIMIT + 2) (reader.begun ++ bytes)) all ∙ ap (λ begun. take (LINE_LIMIT + 2) (begun ++ reader.ahead)) holds.begun
            ∙ take-front (LINE_LIMIT + 2) holds.front reader.ahead;
        whole = holds.whole ∙ sym (append-nil (holds.front ++ reader.ahead))
            ∙ ap (λ bytes. (holds.front ++ reader.ahead) ++ bytes) (sym (after-none (λ byte. byte == 10) reader.ahead none));
      };
    }

-- a line that an LF ends is answered
pub gathered-line : (reader : ReaderState) (after : Option (List ℕ)) (held : List ℕ) → has_line_feed reader.ahead ≡ true → Holds reader held
    → AnswersLine (answered (gathered reader)) after held
gathered-line reader after held found holds =
    let front = holds.front in
    let line : before_first (λ byte. byte == 10) held ≡ front ++ before_first (λ byte. byte == 10) reader.ahead = ap
    (before_first (λ byte. byte == 10)) holds.whole ∙ before-append (λ byte. byte == 10) front reader.ahead holds.unended in
    let rest : after_line held ≡ after_line reader.ahead = ap after_line holds.whole ∙ after-append (λ byte. byte == 10) front reader.ahead holds.unended in
    let begun : take (LINE_LIMIT + 2) (reader.begun ++ before_first (λ byte. byte == 10) reader.ahead) ≡ take (LINE_LIMIT + 2)
    (before_first (λ byte. byte == 10) held) =
    ap (λ begun. take (LINE_LIMIT + 2) (begun ++ before_first (λ byte. byte == 10) reader.ahead)) holds.begun
    ∙ take-front (LINE_LIMIT + 2) front (before_first (λ byte. byte == 10) reader.ahead) ∙ ap (take (LINE_LIMIT + 2)) (sym line) in
    let ended : has_line_feed held ≡ true = rw (holds.whole, list_any-append (λ byte. byte == 10) front reader.ahead, holds.unended) found in
    record {
      line = ap (λ bytes. take LINE_LIMIT (without_cr bytes)) begun ∙ kept-front LINE_LIMIT (before_first (λ byte. byte == 10) held);
      cut = ap (λ bytes. nat_lt LINE_LIMIT (length (without_cr bytes))) begun ∙ cut-front LINE_LIMIT (before_first (λ byte. byte == 10) held);
      held = record { front = []; unended = refl; begun = refl; whole = rest };
      some = some_found held ended;
      last = λ none. absurd (cc (ended, none));
    }
  where
    some_found : (bytes : List ℕ) → has_line_feed bytes ≡ true → 0 < length bytes
    some_found [] found = cc
    some_found (byte ∷ bytes) found = omega arith

-- what was read goes after what is held
pub refilled-holds : (reader new : ReaderState) (held : List ℕ) → reader.ahead ≡ [] → new.begun ≡ reader.begun → Holds reader held
    → Holds new (held ++ new.ahead)
refilled-holds reader new held done same holds = record {
  front = holds.front;
  unended = holds.unended;
  begun = same ∙ holds.begun;
  whole = ap (λ bytes. bytes ++ new.ahead) (holds.whole ∙ ap (λ ahead. holds.front ++ ahead) done ∙ append-nil holds.front);
}

-- the last line is answered, which no LF ends
pub last-line : (reader : ReaderState) (after : Option (List ℕ)) (bytes : List ℕ) → reader.ahead ≡ [] → (reader.begun ≡ [] → ⊥)
    → HasReadAll (answered reader) after → Holds reader bytes → AnswersLine (answered reader) after bytes
last-line reader after bytes done begun read holds =
    let all : bytes ≡ holds.front = holds.whole ∙ ap (λ ahead. holds.front ++ ahead) done ∙ append-nil holds.front in
    let none : has_line_feed bytes ≡ false = ap has_line_feed all ∙ holds.unended in
    let line : before_first (λ byte. byte == 10) bytes ≡ holds.front = before-none (λ byte. byte == 10) bytes none ∙ all in
    let kept : reader.begun ≡ take (LINE_LIMIT + 2) (before_first (λ byte. byte == 10) bytes) = holds.begun ∙ ap (take (LINE_LIMIT + 2)) (sym line) in
    record {
      line = ap (λ begun. take LINE_LIMIT (without_cr begun)) kept ∙ kept-front LINE_LIMIT (before_first (λ byte. byte == 10) bytes);
      cut = ap (λ begun. nat_lt LINE_LIMIT (length (without_cr begun))) kept ∙ cut-front LINE_LIMIT (before_first (λ byte. byte == 10) bytes);
      held = record { front = []; unended = refl; begun = refl; whole = after-none (λ byte. byte == 10) bytes none ∙ sym done };
      some = some_bytes bytes all;
      last = λ _. read;
    }
  where
    some_bytes : (bytes : List ℕ) → bytes ≡ holds.front → 0 < length bytes
    some_bytes [] is = absurd (begun (holds.begun ∙ ap (take (LINE_LIMIT + 2)) (sym is)))
    some_bytes (byte ∷ bytes) is = omega arith

-- nothing is left
pub last-none : (reader : ReaderState) (after : Option (List ℕ)) (bytes : List ℕ) → reader.ahead ≡ [] → reader.begun ≡ [] → HasReadAll reader after
    → Holds reader bytes → AnswersEnd reader after bytes
last-none reader after bytes done begun read holds =
    let none : holds.front ≡ [] = nil_from_length holds.front
    (omega (arith, length-take (LINE_LIMIT + 2) holds.front, ap length holds.begun, ap length begun)) in
    record {
      none = holds.whole ∙ ap (λ ahead. holds.front ++ ahead) done ∙ append-nil holds.front ∙ none;
      held = record { front = []; unended = refl; begun = begun; whole = sym done };
      all = read;
    }
