use Rattle.std.proofs.Common.{arith, inl, refl, subst, sym, Contains}
use Rattle.std.proofs.lemmas.Result.{on_ok_weaker}
use Rattle.spectro_spec.proofs.Members.{Contains-none}
use Rattle.spectro_game.specs.Update.{conjoin}
use Rattle.spectro_game.specs.Rows.{listed_at}
use Rattle.spectro_solve.specs.Added.{IsAdded, IsJoinedBy, IsMadeBy}
use Rattle.spectro_solve.specs.Choices.{AffordsBy}
use Rattle.spectro_solve.proofs.Adding.{added-nothing, added-same}
use Rattle.spectro_solve.proofs.SplitPrices.{split-none, split-some}
use Rattle.spectro_solve.proofs.splits.add_split.Goals as goal

pub returns-then-is_empty-clause-added : goal.returns-then-is_empty-clause-added
returns-then-is_empty-clause-added c system weighing starts source x here =
    added-nothing (AffordsBy (listed_at c.args.arena.now.pairs c.args.lists.now) x c.args.mask c.args.chosen.now) c.args.made.now
    (λ e (b, (f, member, low), left, cost). Contains-none f (subst (λ es. Contains es f) (c.if-is_empty.ensures.0 refl) member))

pub returns-then-mask-eq0-clause-added : goal.returns-then-mask-eq0-clause-added
returns-then-mask-eq0-clause-added c = on_ok_weaker c.add_pulled.result (λ added system weighing starts source x here.
    subst (λ m. IsAdded (AffordsBy (listed_at c.args.arena.now.pairs c.args.lists.now) x m c.args.chosen.now) c.args.made.now c.add_pulled.new.made)
    (sym c.if-mask-eq0.true)
    (added-same (IsMadeBy conjoin c.args.chosen.now) (AffordsBy (listed_at c.args.arena.now.pairs c.args.lists.now) x 0 c.args.chosen.now)
    c.args.made.now c.add_pulled.new.made added (split-none (listed_at c.args.arena.now.pairs c.args.lists.now) x c.args.chosen.now))) c.add_pulled.ensures

pub returns-clause-added : goal.returns-clause-added
returns-clause-added c = on_ok_weaker c.add_joined.result (λ added system weighing starts source x here.
    added-same (IsJoinedBy c.args.chosen.now c.index-lists-together.result)
    (AffordsBy (listed_at c.args.arena.now.pairs c.args.lists.now) x c.args.mask c.args.chosen.now) c.args.made.now c.add_joined.new.made added
    (split-some system weighing starts c.args.arena.now source c.args.lists.now c.requires.lists c.args.k x here c.args.mask c.subset-together.result
    c.args.chosen.now c.index-lists-together.result (let n = c.if-mask-eq0.false in omega arith) c.requires.mask c.subset-together.ensures.subset
    c.subset-together.ensures.pair c.index-lists-together.is)) c.add_joined.ensures

pub returns-then-mask-eq0-clause-grows : goal.returns-then-mask-eq0-clause-grows
returns-then-mask-eq0-clause-grows c = on_ok_weaker c.add_pulled.result (λ added e covered. (added e).1 (inl covered)) c.add_pulled.ensures

pub returns-clause-grows : goal.returns-clause-grows
returns-clause-grows c = on_ok_weaker c.add_joined.result (λ added e covered. (added e).1 (inl covered)) c.add_joined.ensures
