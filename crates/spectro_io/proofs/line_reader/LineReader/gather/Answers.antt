use Rattle.std.proofs.Common.{◌≡◌, min, ◌∙◌, ◌+◌, take, length, ap, arith, length-take, ◌++◌}
use Rattle.std.specs.Prelude.{slice_range, ◌==◌}
use Rattle.std.specs.List.{position_or_len, before_first}
use Rattle.spectro_io.specs.Lines.{after_line}
use Rattle.spectro_io.proofs.LineFeeds.{found-position, place-position}
use Rattle.spectro_io.proofs.Gathered.{part-rest, same-reader}
use Rattle.spectro_io.proofs.line_reader.LineReader.gather.Goals as goal

pub invariant_of-self : goal.invariant_of-self
invariant_of-self c =
    let inv = c.self.invariant in
    let kept = ap length c.put_front.ensures.bytes in
    let most = length-take 32770
    (c.self.inside.begun.items ++ take c.unwrap_or-count.result (slice_range c.deref.result.now c.self.inside.at c.self.inside.end)) in
    record {
      taken = inv.taken;
      piece = inv.piece;
      end = inv.end;
      at = omega (arith, c.min-self-inside.ensures);
      begun = omega (arith, kept, most, c.put_front.new.front.ok.0);
      begun_room = c.put_front.ensures.room;
      line_room = inv.line_room;
    }

pub returns-clause-found : goal.returns-clause-found
returns-clause-found c =
    rw (← c.self.view_is, c.is_some.ensures, c.line_feed-feed.ensures, c.deref.ensures.value)
    (found-position (λ byte. byte == 10) (slice_range c.self.inside.piece.items c.self.inside.at c.self.inside.end))

pub returns-clause-after : goal.returns-clause-after
returns-clause-after c =
    let s = c.self.inside in
    let ahead = slice_range s.piece.items s.at s.end in
    let count : c.unwrap_or-count.result ≡ position_or_len (λ byte. byte == 10) ahead = rw
    (c.unwrap_or-count.ensures, c.line_feed-feed.ensures, c.deref.ensures.value) (place-position (λ byte. byte == 10) ahead) in
    let first = position_or_len (λ byte. byte == 10) ahead in
    let begun : c.put_front.new.front.items ≡ take 32770 (s.begun.items ++ before_first (λ byte. byte == 10) ahead) =
    c.put_front.ensures.bytes ∙ ap (λ n. take 32770 (s.begun.items ++ take n (slice_range c.deref.result.now s.at s.end))) count
    ∙ ap (λ bytes. take 32770 (s.begun.items ++ take first (slice_range bytes s.at s.end))) c.deref.ensures.value in
    let place : c.min-self-inside.result ≡ min s.end (s.at + (first + 1)) = omega (arith, c.min-self-inside.ensures, count) in
    let rest : slice_range s.piece.items c.min-self-inside.result s.end ≡ after_line ahead = ap (λ from. slice_range s.piece.items from s.end) place
    ∙ part-rest s.piece.items s.at s.end (first + 1) c.self.invariant.at in
    rw (← c.self.view_is)
    (same-reader s.taken c.put_front.new.front.items _ (slice_range s.piece.items c.min-self-inside.result s.end) _ s.line.items s.cut begun rest)
