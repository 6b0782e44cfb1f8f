use Rattle.std.proofs.Common.{subst, sym}
use Rattle.std.proofs.lemmas.Result.{on_ok_weaker}
use Rattle.spectro_spec.proofs.Members.{Contains-none}
use Rattle.spectro_game.specs.Rows.{listed_at}
use Rattle.spectro_solve.specs.Added.{CanBeConjoined, IsAdded}
use Rattle.spectro_solve.specs.Clauses.{AffordsPositive}
use Rattle.spectro_solve.proofs.ClauseLists.{clause-made}
use Rattle.spectro_solve.proofs.clauses.list_clause.Goals as goal

pub returns-clause-clause : goal.returns-clause-clause
returns-clause-clause c = on_ok_weaker c.add_negative.result (λ added system weighing starts source x here.
    clause-made (listed_at c.args.arena.now.pairs c.args.lists.now) x c.args.i c.add_positive.new.clause c.add_negative.new.clause
    (subst (λ es. IsAdded (AffordsPositive (listed_at c.args.arena.now.pairs c.args.lists.now) x c.args.i) es c.add_positive.new.clause) c.clear.ensures
    (c.in_ok-add_positive.ensures.added system weighing starts source x here)) (added system weighing starts source x here)) c.add_negative.ensures.added

pub returns-clause-low : goal.returns-clause-low
returns-clause-low c = on_ok_weaker c.add_negative.result
    (λ low. low (c.in_ok-add_positive.ensures.low (subst CanBeConjoined (sym c.clear.ensures) (λ e member. absurd (Contains-none e member)))))
    c.add_negative.ensures.low
