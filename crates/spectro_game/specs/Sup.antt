-- The least upper bound of energies.
use Rattle.std.specs.Prelude.{max}
use Rattle.spectro_spec.specs.Price.{Price}

-- the greater of each part
abbrev pub sup : Price → Price → Price
sup e f = record {
  observations = max e.observations f.observations;
  conjunctions = max e.conjunctions f.conjunctions;
  deepest_positive = max e.deepest_positive f.deepest_positive;
  other_positive = max e.other_positive f.other_positive;
  deepest_negative = max e.deepest_negative f.deepest_negative;
  negations = max e.negations f.negations;
  weighted_depth = max e.weighted_depth f.weighted_depth;
}

-- the sup of no energies
abbrev pub zero_price : Price
zero_price = record { observations = 0; conjunctions = 0; deepest_positive = 0; other_positive = 0; deepest_negative = 0; negations = 0; weighted_depth = 0 }
