-- Both prices are listed.
use Rattle.std.proofs.Common.{[], ◌∷◌, arith}
use Rattle.std.proofs.lemmas.List.Elements.{All-cons}
use Rattle.spectro_build.specs.Wanted.{IsListedIn}
use Rattle.spectro_tests.proofs.built.build_two.Goals as goal

pub build-requires-clause-listed : goal.build-requires-clause-listed
build-requires-clause-listed c =
    let rows = c.args.table.now.rows in
    let one = c.in_ok-listed.field-0 in
    let other = c.in_ok-listed-2.field-0 in
    All-cons (IsListedIn rows) one (other ∷ []) c.in_ok-listed.ensures
    (All-cons (IsListedIn rows) other [] c.in_ok-listed-2.ensures (λ k d below. absurd (omega arith)))
