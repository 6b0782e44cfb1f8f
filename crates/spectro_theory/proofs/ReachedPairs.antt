-- What is reached by followers is closed under them.
use Rattle.std.proofs.Common.{List}
use Rattle.spectro_spec.specs.System.{System}
use Rattle.spectro_game.specs.Pairs.{Pair, followers, IsClosed, IsOneOf, AreReachedPairs}
use Rattle.spectro_theory.proofs.Places.{StandsIn-member, Contains-stands}

pub reached-closed : (system : System) (starts xs : List Pair) → AreReachedPairs system starts xs → IsClosed system (IsOneOf xs)
reached-closed system starts xs reached p qs p' qs' known follows =
    let x : Pair = record { state = p; set = qs } in
    let y : Pair = record { state = p'; set = qs' } in
    let here = StandsIn-member xs x known in
    let later = StandsIn-member (followers system x) y follows in
    Contains-stands xs y (reached.closed here.0 later.0 y (x, here.1, later.1))
