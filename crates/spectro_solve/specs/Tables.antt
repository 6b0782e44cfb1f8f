-- Tables of prices, a list for each pair of an arena.
use Rattle.std.specs.Prelude.{ℕ, ◌<◌, ◌≤◌, List, All}
use Rattle.spectro_spec.specs.Price.{Price}

-- the lists of the pairs in their order, how many generations changed some list, and how many evaluations were counted
pub record Solved : Type 0 where
  pub rows : List (List Price)
  pub generations : ℕ
  pub evaluations : ℕ

-- what one step backwards makes of the price has parts of 32 bits
pub record HasRoom (e : Price) : Type 0 where
  pub observations : e.observations < 4294967295
  pub conjunctions : e.conjunctions < 4294967295
  pub deepest_positive : e.deepest_positive < 4294967295
  pub other_positive : e.other_positive < 4294967295
  pub deepest_negative : e.deepest_negative < 4294967295
  pub negations : e.negations < 4294967295
  pub weighted_depth : e.weighted_depth ≤ 4294967040

-- so has each price of each list
abbrev pub HaveRoom : List (List Price) → Type 0
HaveRoom rows = All (All HasRoom) rows
