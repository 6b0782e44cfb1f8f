use Rattle.std.proofs.Common.{◌≡◌, ◌∙◌, [], inl, inr, sym, subst, refl, arith}
use Rattle.std.proofs.lemmas.Bool.{true≢false}
use Rattle.std.proofs.lemmas.List.{get_or_default}
use Rattle.spectro_rows.specs.Rows.{row_at}
use Rattle.spectro_solve.specs.Evaluations.{IsEvaluated}
use Rattle.spectro_solve.proofs.generations.evaluate_one.Goals as goal

pub returns-then-is_same-clause-changes : goal.returns-then-is_same-clause-changes
returns-then-is_same-clause-changes g c =
    let row : row_at c.args.lists.now c.args.k ≡ c.index-lists-k.result =
    get_or_default c.args.lists.now c.args.k [] c.index-lists-k.result (omega (arith, c.requires.pair, c.requires.rows)) ∙ sym c.index-lists-k.is in
    inl (refl, subst (IsEvaluated c.args.arena.now c.args.lists.now c.args.k) (c.if-is_same.ensures.0 refl ∙ sym row) c.in_ok-evaluate_fresh.ensures)

pub returns-clause-changes : goal.returns-clause-changes
returns-clause-changes g c =
    let row : row_at c.args.lists.now c.args.k ≡ c.index-lists-k.result =
    get_or_default c.args.lists.now c.args.k [] c.index-lists-k.result (omega (arith, c.requires.pair, c.requires.rows)) ∙ sym c.index-lists-k.is in
    inr (
      c.in_ok-list.list,
      c.in_ok-push.ensures.items,
      subst (IsEvaluated c.args.arena.now c.args.lists.now c.args.k) (sym c.in_ok-list.ensures) c.in_ok-evaluate_fresh.ensures,
      λ same. true≢false (sym (c.if-is_same.ensures.1 (sym c.in_ok-list.ensures ∙ same ∙ row))),
    )
