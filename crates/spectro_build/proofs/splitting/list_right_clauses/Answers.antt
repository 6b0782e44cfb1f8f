-- The clauses come member by member.
use Rattle.std.proofs.Common.{◌≡◌, ◌∙◌, ◌<◌, ◌++◌, [], ◌∷◌, length, get_or, map, take, sym, ap, subst, arith}
use Rattle.std.specs.Option.{option_map}
use Rattle.std.specs.Prelude.{IfSome}
use Rattle.std.proofs.Math.Seq.{take-length}
use Rattle.std.proofs.lemmas.List.{length_push, map-append, map_more}
use Rattle.std.proofs.lemmas.List.Elements.{All-push}
use Rattle.std.proofs.lemmas.Option.{slice_get-get_or}
use Rattle.spectro_energy.specs.Energy.{price_of}
use Rattle.spectro_game.specs.Rows.{listed_at}
use Rattle.spectro_solve.proofs.Listing.{pair-holds}
use Rattle.spectro_build.specs.Choices.{right_clause}
use Rattle.spectro_build.specs.Chosen.{clause_at}
use Rattle.spectro_build.specs.Keys.{IsKey}
use Rattle.spectro_build.specs.Splits.{AreKeyed}
use Rattle.spectro_build.specs.declared.clauses.SignedKey.{SignedKey}
use Rattle.spectro_build.proofs.splitting.list_right_clauses.Goals as goal

pub loop-i-preserved : goal.loop-i-preserved
loop-i-preserved c = record {
  count = omega (arith, ap length c.in_ok-push.ensures.items, length_push c.loop-i.others.items c.right_clause.result, c.loop-i.invariant.count);
  keys = subst (AreKeyed c.args.table.now.rows) (sym c.in_ok-push.ensures.items)
      (All-push (λ other. IfSome other (λ (clause : SignedKey). IsKey c.args.table.now.rows clause.key)) c.loop-i.others.items c.right_clause.result
      c.loop-i.invariant.keys c.right_clause.ensures.key);
  clauses = λ system weighing starts source x here.
      let pairs = c.args.arena.now.pairs in
      let rows = c.args.table.now.rows in
      let e = price_of c.args.e.parts in
      let i = c.loop-i.i in
      let set = pair-holds pairs c.args.k (λ y. y.set ≡ c.set.result.now) c.set.ensures.value x here in
      let below : i < length x.set = omega (arith, ap length set, c.loop-i-test.true, c.set.ensures.few) in
      let made = c.right_clause.ensures.value system weighing starts source x (get_or x.set i 0) here (slice_get-get_or x.set i 0 below) in
      map_more (right_clause (listed_at pairs rows) x.state e) x.set i 0 below
      ∙ ap (λ l. l ++ right_clause (listed_at pairs rows) x.state e (get_or x.set i 0) ∷ []) (c.loop-i.invariant.clauses system weighing starts source x here)
      ∙ ap (λ o. map (option_map (clause_at pairs rows)) c.loop-i.others.items ++ o ∷ []) made
      ∙ sym (ap (map (option_map (clause_at pairs rows))) c.in_ok-push.ensures.items
      ∙ map-append (option_map (clause_at pairs rows)) c.loop-i.others.items (c.right_clause.result ∷ []));
}

pub returns-clause-clauses : goal.returns-clause-clauses
returns-clause-clauses c system weighing starts source x here =
    let pairs = c.args.arena.now.pairs in
    let set = pair-holds pairs c.args.k (λ y. y.set ≡ c.set.result.now) c.set.ensures.value x here in
    let end : length x.set ≡ c.loop-i.i = omega (arith, ap length set, c.loop-i-test.false, c.loop-i.auto.i-end, c.set.ensures.few) in
    ap (map (right_clause (listed_at pairs c.args.table.now.rows) x.state (price_of c.args.e.parts))) (sym (take-length x.set) ∙ ap (λ n. take n x.set) end)
    ∙ c.loop-i.invariant.clauses system weighing starts source x here
