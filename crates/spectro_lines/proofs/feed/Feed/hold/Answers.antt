use Rattle.std.proofs.Common.{rules, ◌≡◌, ◌+◌, ◌-◌, ◌<◌, min, length, sym, subst}
use Rattle.spectro_lines.specs.Feeding.{Fed, Takes, stopped}
use Rattle.spectro_lines.proofs.HeldLines.{unbroken, unbroken_append}
use Rattle.spectro_lines.proofs.Rooms.{no_room, some_beyond}
use Rattle.spectro_lines.proofs.Taking.{Takes-settled, Takes-over, Takes-held}
use Rattle.spectro_lines.proofs.feed.Feed.hold.Goals as goal
use Rattle.spectro_lines.specs.declared.feed.TheConstants.{MAX_HELD}

pub returns-in_default : goal.returns-in_default
returns-in_default g c = Takes-settled g.G.Grammar.form c.args.self.now c.args.part.now (rw (sym c.self.view_is) c.in_default.not-Open)

pub returns-then-part-room : goal.returns-then-part-room
returns-then-part-room g c =
    let form = g.G.Grammar.form in
    let inside = c.self.inside in
    let part = c.args.part.now in
    let fed : Fed _ _ = record { progress = inside.progress; bytes = inside.bytes; lines = inside.lines; held = inside.held.items } in
    let long : c.len.result ≡ length inside.held.items = search (rules, c.len.ensures) in
    let less : min (form.limit - inside.bytes) (MAX_HELD - length inside.held.items) < length part =
    rw (c.min-room.ensures, long, c.limit.ensures.value) at c.if-part-room.true in
    let text = unbroken_append inside.held.items part (unbroken inside.held.items c.self.invariant.one_line) (unbroken part c.requires) in
    let stops : Takes form fed (stopped fed form.too_long) part =
    Takes-over form c.in-Open.field-0 fed c.in-Open.is part text (some_beyond _ _ less)
    (no_room form.limit inside.bytes (length inside.held.items) (length part) less) in
    rw (c.stop.ensures, c.too_long.ensures) (subst (λ fed. Takes form fed (stopped fed form.too_long) part) c.self.view_is stops)

pub returns : goal.returns
returns g c =
    let form = g.G.Grammar.form in
    let inside = c.self.inside in
    let part = c.args.part.now in
    let fed : Fed _ _ = record { progress = inside.progress; bytes = inside.bytes; lines = inside.lines; held = inside.held.items } in
    let new : Fed _ _ =
    record { progress = inside.progress; bytes = inside.bytes + length part; lines = inside.lines; held = c.extend_from_slice.new.self.items } in
    let takes : Takes form fed new part =
    rw (c.in_ok-extend_from_slice.ensures.items, c.in-Open.is) (rw c.in-Open.is at (Takes-held form c.in-Open.field-0 fed c.in-Open.is part)) in
    subst (λ fed. Takes form fed new part) c.self.view_is takes
