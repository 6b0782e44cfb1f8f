use Rattle.std.proofs.Common.{rules, ◌≡◌, ◌≢◌, ◌∙◌, ◌<◌, [], length, List, ℕ, sym, subst, ap, arith}
use Rattle.std.specs.Prelude.{OnOk, vec_len}
use Rattle.std.proofs.lemmas.List.{nil_from_length}
use Rattle.std.proofs.lemmas.Bool.{eqb-true, eqb-false}
use Rattle.std.proofs.lemmas.Result.{on_ok_weaker}
use Rattle.spectro_lines.specs.Feeding.{Fed, HasTaken, HasRead}
use Rattle.spectro_lines.proofs.HeldLines.{unbroken}
use Rattle.spectro_lines.proofs.Taking.{HasRead-none, HasRead-ended}
use Rattle.spectro_lines.proofs.feed.Feed.read_last_line.Goals as goal

pub returns-then-is_empty-clause-last : goal.returns-then-is_empty-clause-last
returns-then-is_empty-clause-last g c =
    let none : c.self.inside.held.items ≡ [] =
    nil_from_length _ (search (rules, eqb-true (vec_len c.self.inside.held) 0 (sym c.is_empty.ensures ∙ c.if-is_empty.true))) in
    HasRead-none g.G.Grammar.form c.args.self.now (ap (λ (fed : Fed _ _). fed.held) (sym c.self.view_is) ∙ none)

pub returns-clause-last : goal.returns-clause-last
returns-clause-last g c =
    let form = g.G.Grammar.form in
    let inside = c.self.inside in
    let fed : Fed _ _ = record { progress = inside.progress; bytes = inside.bytes; lines = inside.lines; held = inside.held.items } in
    let other : length inside.held.items ≢ 0 = search (rules, eqb-false (vec_len c.self.inside.held) 0 (sym c.is_empty.ensures ∙ c.if-is_empty.false)) in
    let some : 0 < length inside.held.items = omega arith in
    let Reads : Fed _ _ → Type 0 = λ fed. OnOk c.read_held.result ((taken : List ℕ) → HasTaken form fed taken → HasRead form c.read_held.new.self taken) in
    let reads = HasRead-ended form fed c.read_held.new.self (unbroken inside.held.items c.self.invariant.one_line) some c.self.invariant.within in
    subst Reads c.self.view_is (on_ok_weaker c.read_held.result reads (rw (← c.self.view_is) at c.read_held.ensures))
