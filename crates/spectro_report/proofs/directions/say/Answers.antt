-- What is wanted is what was found for both pairs, so the nodes that are built for it tell both.
use Rattle.std.proofs.Common.{◌≡◌, ◌∙◌, ◌++◌, All, length, map, ap, sym, subst, arith}
use Rattle.std.proofs.lemmas.Result.{IfOk-weaker}
use Rattle.spectro_game.specs.Rows.{listed_at}
use Rattle.spectro_build.specs.Wanted.{IsListedIn}
use Rattle.spectro_rows.specs.Rows.{row_at}
use Rattle.spectro_report.specs.Firsts.{AreFirsts, firsts_of, prices_found, wanted_of}
use Rattle.spectro_report.specs.Verdicts.{verdict_of}
use Rattle.spectro_report.proofs.Asking.{wanted-long}
use Rattle.spectro_report.proofs.Saying.{all-below, all-long, asked-both, both-listed, said-built}
use Rattle.spectro_report.proofs.directions.say.Goals as goal

pub build-requires-clause-listed : goal.build-requires-clause-listed
build-requires-clause-listed c =
    let found : AreFirsts (row_at c.args.table.now.rows c.args.pair) c.args.notions.now (firsts_of c.deref.result.now) =
    rw (sym c.deref.ensures.value, c.least.ensures) at c.in_ok-firsts.ensures in
    let also : AreFirsts (row_at c.args.table.now.rows c.args.turned) c.args.notions.now (firsts_of c.deref-2.result.now) =
    rw (sym c.deref-2.ensures.value, c.least-2.ensures) at c.in_ok-others.ensures in
    let wanted = asked-both _ _ _ _ _ _ c.new-wanted.ensures.items c.in_ok-ask.ensures c.in_ok-ask-2.ensures c.deref-3.ensures.value in
    subst (All (IsListedIn c.args.table.now.rows)) (sym wanted)
    (both-listed c.args.table.now.rows c.args.notions.now c.args.pair c.args.turned c.deref.result.now c.deref-2.result.now
    (omega (arith, c.requires.pair, c.requires.solved.count)) (omega (arith, c.requires.turned, c.requires.solved.count)) found also)

pub tell_both-requires-clause-numbers : goal.tell_both-requires-clause-numbers
tell_both-requires-clause-numbers c =
    let source = c.requires.source in
    let wanted = asked-both _ _ _ _ _ _ c.new-wanted.ensures.items c.in_ok-ask.ensures c.in_ok-ask-2.ensures c.deref-3.ensures.value in
    all-below source.0 c.args.lts.now c.args.arena.now.pairs (listed_at c.args.arena.now.pairs c.args.table.now.rows) c.args.pair c.args.turned
    c.deref.result.now c.deref-2.result.now c.in_ok-built.built.sheet c.in_ok-built.built.nodes
    (rw wanted at c.in_ok-built.ensures.built source.0 source.1 source.2)

pub tell_both-requires-clause-half : goal.tell_both-requires-clause-half
tell_both-requires-clause-half c =
    let asked : c.ask.new.wanted.items ≡ wanted_of c.args.pair c.deref.result.now = c.in_ok-ask.ensures
    ∙ ap (λ wanted. wanted ++ wanted_of c.args.pair c.deref.result.now) c.new-wanted.ensures.items in
    let same : c.deref.result.now ≡ c.deref-4.result.now = c.deref.ensures.value ∙ sym c.deref-4.ensures.value in
    let count : c.len-half.result ≡ length c.ask.new.wanted.items = omega (arith, c.len-half.ensures, c.ask.new.wanted.ok) in
    count ∙ ap length asked ∙ wanted-long c.args.pair c.deref.result.now ∙ ap (λ firsts. length (prices_found (firsts_of firsts))) same

pub tell_both-requires-clause-count : goal.tell_both-requires-clause-count
tell_both-requires-clause-count c =
    let source = c.requires.source in
    let wanted = asked-both _ _ _ _ _ _ c.new-wanted.ensures.items c.in_ok-ask.ensures c.in_ok-ask-2.ensures c.deref-3.ensures.value in
    let half : c.len-half.result ≡ length (prices_found (firsts_of c.deref-4.result.now)) = tell_both-requires-clause-half c in
    let one : c.deref.result.now ≡ c.deref-4.result.now = c.deref.ensures.value ∙ sym c.deref-4.ensures.value in
    let other : c.deref-2.result.now ≡ c.deref-5.result.now = c.deref-2.ensures.value ∙ sym c.deref-5.ensures.value in
    let long = all-long source.0 c.args.lts.now c.args.arena.now.pairs (listed_at c.args.arena.now.pairs c.args.table.now.rows) c.args.pair c.args.turned
    c.deref.result.now c.deref-2.result.now c.in_ok-built.built.sheet c.in_ok-built.built.nodes
    (rw wanted at c.in_ok-built.ensures.built source.0 source.1 source.2) in
    omega (arith, half, rw (one, other) at long)

pub returns-clause-forth : goal.returns-clause-forth
returns-clause-forth c =
    IfOk-weaker c.tell_both.result _ _ (λ said told. record {
      firsts = firsts_of c.deref-4.result.now;
      found = rw (sym c.deref-4.ensures.value, c.least.ensures) at c.in_ok-firsts.ensures;
      told = rw (sym told.sheet) at told.forth.each;
    })
    c.tell_both.ensures

pub returns-clause-back : goal.returns-clause-back
returns-clause-back c =
    IfOk-weaker c.tell_both.result _ _ (λ said told. record {
      firsts = firsts_of c.deref-5.result.now;
      found = rw (sym c.deref-5.ensures.value, c.least-2.ensures) at c.in_ok-others.ensures;
      told = rw (sym told.sheet) at told.back.each;
    })
    c.tell_both.ensures

pub returns-clause-built : goal.returns-clause-built
returns-clause-built c =
    let wanted = asked-both _ _ _ _ _ _ c.new-wanted.ensures.items c.in_ok-ask.ensures c.in_ok-ask-2.ensures c.deref-3.ensures.value in
    let one : c.deref.result.now ≡ c.deref-4.result.now = c.deref.ensures.value ∙ sym c.deref-4.ensures.value in
    let other : c.deref-2.result.now ≡ c.deref-5.result.now = c.deref-2.ensures.value ∙ sym c.deref-5.ensures.value in
    IfOk-weaker c.tell_both.result _ _ (λ said told weighing starts source.
    let built = said-built weighing c.args.lts.now c.args.arena.now.pairs (listed_at c.args.arena.now.pairs c.args.table.now.rows) c.args.pair c.args.turned
    c.deref.result.now c.deref-2.result.now c.in_ok-built.built.sheet c.in_ok-built.built.nodes
    (rw wanted at c.in_ok-built.ensures.built weighing starts source) c.len-half.result (map verdict_of said.forth.items)
    (map verdict_of said.back.items) (rw (sym one) at told.forth) (rw (sym other) at told.back) in
    rw (sym told.sheet) at built)
    c.tell_both.ensures
