use Rattle.std.proofs.Common.{refl, sym, subst}
use Rattle.std.proofs.lemmas.Bool.{true≢false}
use Rattle.std.proofs.lemmas.Result.{on_ok_weaker}
use Rattle.spectro_rows.specs.Rows.{row_at}
use Rattle.spectro_solve.specs.Added.{IsAdded}
use Rattle.spectro_solve.specs.Fresh.{IsFreshNegated, IsNegatedBy}
use Rattle.spectro_solve.proofs.Adding.{added-nothing, added-same}
use Rattle.spectro_solve.proofs.Listing.{row-is}
use Rattle.spectro_solve.proofs.fresh.add_if_fresh.Goals as goal

pub returns-then-not-is_marked : goal.returns-then-not-is_marked
returns-then-not-is_marked c = added-nothing (IsFreshNegated c.args.lists.now c.args.fresh.now c.args.pair) c.args.made.now
    (λ e (marked, made). true≢false (sym (c.if-not-is_marked.ensures.1 marked)))

pub returns : goal.returns
returns c = on_ok_weaker c.add_negated.result (λ added.
    added-same (IsNegatedBy (row_at c.args.lists.now c.args.pair)) (IsFreshNegated c.args.lists.now c.args.fresh.now c.args.pair) c.args.made.now
    c.add_negated.new.made
    (subst (λ es. IsAdded (IsNegatedBy es) c.args.made.now c.add_negated.new.made)
    (sym (row-is c.args.lists.now c.args.pair c.index-lists-pair.result c.requires.pair c.index-lists-pair.is)) added)
    (λ e. ((λ made. (c.if-not-is_marked.ensures.0 refl, made)), λ (marked, made). made))) c.add_negated.ensures
