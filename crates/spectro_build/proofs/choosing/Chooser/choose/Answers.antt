-- What fits first is chosen, and a listed price has something that fits.
use Rattle.std.proofs.Common.{◌≡◌, ◌∙◌, All, sym, ap, subst, None, Some}
use Rattle.std.proofs.lemmas.Option.{none-some}
use Rattle.spectro_game.specs.Rows.{listed_at}
use Rattle.spectro_build.specs.Chosen.{first_observation_at, first_split_at, observation_at, split_at}
use Rattle.spectro_build.specs.Keys.{IsKey, need_at}
use Rattle.spectro_build.specs.Kept.{keys_of_clauses}
use Rattle.spectro_build.specs.Splits.{AreKeyed, clauses_of_split}
use Rattle.spectro_build.specs.Wanted.{pair_of}
use Rattle.spectro_build.proofs.Choosings.{choice-observed, choice-split, split-keyed}
use Rattle.spectro_build.proofs.NamedNeeds.{key-choice, key-stands}
use Rattle.spectro_build.proofs.choosing.Chooser.choose.Goals as goal

pub returns-in-Some-clause-choice : goal.returns-in-Some-clause-choice
returns-in-Some-clause-choice c system weighing starts source =
    let pairs = c.args.arena.now.pairs in
    let rows = c.args.table.now.rows in
    let x = pair_of pairs c.args.key.pair in
    let here = key-stands system weighing starts c.args.arena.now source rows c.requires.solved c.args.key c.requires.key in
    choice-observed weighing system (listed_at pairs rows) (need_at pairs rows c.args.key) (observation_at system pairs rows c.in-Some.seen)
    (subst (λ e. first_observation_at weighing system (listed_at pairs rows) x e ≡ Some (observation_at system pairs rows c.in-Some.seen)) c.price-e.ensures
    (c.in-Some.ensures.first system weighing starts source x here))

pub unreachable-requires : goal.unreachable-requires
unreachable-requires c =
    let (system, (weighing, starts, source)) = c.requires.source in
    let pairs = c.args.arena.now.pairs in
    let rows = c.args.table.now.rows in
    let x = pair_of pairs c.args.key.pair in
    let here = key-stands system weighing starts c.args.arena.now source rows c.requires.solved c.args.key c.requires.key in
    let none = subst (λ e. first_observation_at weighing system (listed_at pairs rows) x e ≡ None) c.price-e.ensures
    (c.in_default.ensures.first system weighing starts source x here) in
    let also = subst (λ e. first_split_at (listed_at pairs rows) x e ≡ None) c.price-e.ensures
    (c.in_default-first_split.ensures.first system weighing starts source x here) in
    let (choice, some) = key-choice system weighing starts c.args.arena.now source rows c.requires.solved c.args.key c.requires.key in
    none-some choice (sym (choice-split weighing system (listed_at pairs rows) (need_at pairs rows c.args.key) None none also) ∙ some)

pub returns-clause-choice : goal.returns-clause-choice
returns-clause-choice c system weighing starts source =
    let pairs = c.args.arena.now.pairs in
    let rows = c.args.table.now.rows in
    let x = pair_of pairs c.args.key.pair in
    let split = c.in-Some-first_split.split in
    let others = c.deref.result.now in
    let here = key-stands system weighing starts c.args.arena.now source rows c.requires.solved c.args.key c.requires.key in
    let none = subst (λ e. first_observation_at weighing system (listed_at pairs rows) x e ≡ None) c.price-e.ensures
    (c.in_default.ensures.first system weighing starts source x here) in
    let first = subst (λ e. first_split_at (listed_at pairs rows) x e ≡ Some (split_at pairs rows (clauses_of_split others split))) c.price-e.ensures
    (c.in-Some-first_split.ensures.first system weighing starts source x here) in
    choice-split weighing system (listed_at pairs rows) (need_at pairs rows c.args.key) (Some (split_at pairs rows (clauses_of_split others split))) none first
    ∙ ap (λ clauses. Some (split_at pairs rows clauses)) (ap (λ os. clauses_of_split os split) (c.deref.ensures.value ∙ sym c.deref-2.ensures.value)
    ∙ sym c.in_ok-list_clauses.ensures)

pub returns-clause-keys : goal.returns-clause-keys
returns-clause-keys c =
    let rows = c.args.table.now.rows in
    subst (λ clauses. All (IsKey rows) (keys_of_clauses clauses)) (sym c.in_ok-list_clauses.ensures)
    (split-keyed rows c.in-Some-first_split.split c.deref-2.result.now
    (subst (AreKeyed rows) (sym c.deref-2.ensures.value) c.in_ok-list_right_clauses.ensures.keys) c.in-Some-first_split.ensures.key)
