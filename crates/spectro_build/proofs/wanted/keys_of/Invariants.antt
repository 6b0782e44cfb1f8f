use Rattle.std.proofs.Common.{◌≡◌, List, All, take}
use Rattle.spectro_game.specs.Pairs.{Pair}
use Rattle.spectro_build.specs.Keys.{IsKey, needs_at}
use Rattle.spectro_build.specs.Wanted.{needs_of}
use Rattle.spectro_build.proofs.wanted.keys_of.Given as goal

-- those of the first wanted prices
abbrev pub invariant-loop-one : goal.invariant-loop-one
invariant-loop-one l = record {
  keys : All (IsKey l.table.rows) l.keys.items;
  needs : (pairs : List Pair) → needs_at pairs l.table.rows l.keys.items ≡ needs_of pairs (take l.one-index l.wanted);
}
