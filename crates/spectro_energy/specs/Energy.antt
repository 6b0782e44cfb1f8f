-- An energy as a price, and the order of energies.
use Rattle.std.specs.Prelude.{ℕ, ◌≡◌, ◌↔◌, List, map, slice_index}
use Rattle.std.specs.declared.cmp.Ordering.{Ordering}
use Rattle.std.specs.declared.cmp.Ordering.TheVariants.{Less, Equal, Greater}
use Rattle.spectro_spec.specs.Price.{Price, ComesBefore}
use Rattle.spectro_energy.specs.declared.energy.Energy.{Energy}

-- the price whose seven parts these are, in order
abbrev pub price_of : List ℕ → Price
price_of parts = record {
  observations = slice_index parts 0;
  conjunctions = slice_index parts 1;
  deepest_positive = slice_index parts 2;
  other_positive = slice_index parts 3;
  deepest_negative = slice_index parts 4;
  negations = slice_index parts 5;
  weighted_depth = slice_index parts 6;
}

-- the prices of the energies, in order
abbrev pub prices_of : List Energy → List Price
prices_of = map (λ energy. price_of energy.parts)

-- how e stands to f in the lexicographic order
pub record IsLexicographic (order : Ordering) (e f : Price) : Type 0 where
  pub less : order ≡ Less ↔ ComesBefore e f
  pub equal : order ≡ Equal ↔ e ≡ f
  pub greater : order ≡ Greater ↔ ComesBefore f e
