-- What generations come to: bounds on the way, the rest once no pair is marked, and the least prices at the end.
use Rattle.std.proofs.Common.{ℕ, zero, suc, ◌≡◌, ◌+◌, ◌*◌, ◌≤◌, List, [], ◌∷◌, length, map, replicate, Bool, true, false, cond, refl, sym, ap, ◌∙◌, subst, arith, add-one, All}
use Rattle.std.specs.List.{list_any, count_by}
use Rattle.std.proofs.lemmas.Nat.{mul-le}
use Rattle.std.proofs.lemmas.List.{length-map}
use Rattle.std.proofs.lemmas.List.Elements.{All-weaker}
use Rattle.std.proofs.lemmas.List.Sums.{count_by-le-length}
use Rattle.spectro_spec.specs.System.{System}
use Rattle.spectro_spec.specs.Weighing.{Weighing}
use Rattle.spectro_spec.specs.Price.{Price}
use Rattle.spectro_spec.specs.LeastPrices.{AreLeastPrices}
use Rattle.spectro_spec.proofs.Members.{Contains-none}
use Rattle.spectro_game.specs.Pairs.{Pair, IsClosed, IsOneOf}
use Rattle.spectro_game.specs.Generations.{generation}
use Rattle.spectro_game.specs.Rows.{listed_at, generation_rows, IsSolved}
use Rattle.spectro_game.specs.Marks.{has_changed, is_marked, evaluations, evaluations_to}
use Rattle.spectro_theory.specs.LawsOfGenerations.{ArePartsUpTo}
use Rattle.spectro_theory.proofs.LastGenerations.{none-changed-late, rows-ArePartsUpTo, rows-still}
use Rattle.spectro_theory.proofs.ReachedPairs.{reached-closed}
use Rattle.spectro_theory.proofs.RowsOfGenerations.{listed_at-generation}
use Rattle.spectro_theory.proofs.Solved.{generation-late}
use Rattle.spectro_pairs.specs.Arenas.{FromEach}
use Rattle.spectro_pairs.specs.Explored.{Explored, IsExploredFrom, start_pairs}
use Rattle.spectro_solve.specs.Counts.{changing_generations, changing_generations_to}
use Rattle.spectro_solve.specs.Marks.{IsMarked}
use Rattle.spectro_solve.specs.Solving.{IsAfter, IsExplored, evaluations_before}
use Rattle.spectro_solve.specs.Tables.{Solved, HasRoom, HaveRoom}
use Rattle.spectro_solve.proofs.Changing.{changes-none, put-none, precedes-none}
use Rattle.spectro_solve.proofs.Generating.{goes-on-still}
use Rattle.spectro_solve.proofs.Marked.{no-numbers}

module _ (weighing : Weighing) (system : System) (pairs : List Pair) where
  pub changing-low : (n : ℕ) → changing_generations_to weighing system pairs n ≤ n
  unfolding changing_generations_to
  changing-low zero = omega arith
  changing-low (suc n) = one-more (list_any (has_changed weighing system n) pairs) (changing-low n)
    where
      one-more : (some : Bool) → changing_generations_to weighing system pairs n ≤ n → changing_generations_to weighing system pairs n + cond some 1 0 ≤ suc n
      one-more true low = omega arith
      one-more false low = omega arith

  pub evaluations-low : (n : ℕ) → evaluations_before weighing system pairs n ≤ n * length pairs
  unfolding evaluations_before
  evaluations-low zero = omega arith
  evaluations-low (suc n) = omega (arith, evaluations-low n, count_by-le-length (is_marked weighing system n) pairs)

  pub evaluations-all : (n : ℕ) → evaluations_before weighing system pairs (suc n) ≡ evaluations_to weighing system pairs n
  unfolding evaluations_before
  evaluations-all zero = omega arith
  evaluations-all (suc n) = ap (λ k. k + count_by (is_marked weighing system (suc n)) pairs) (evaluations-all n)

-- at the start every list is empty and every pair is marked
pub generations-begin : (weighing : Weighing) (system : System) (pairs : List Pair) → IsAfter weighing system pairs 0
    (record { rows = replicate (length pairs) []; generations = 0; evaluations = 0 }) (replicate (length pairs) true)
unfolding generation_rows generation is_marked changing_generations_to evaluations_before
generations-begin weighing system pairs = record {
  rows = same-everywhere pairs [];
  marks = same-everywhere pairs true;
  generations = refl;
  evaluations = refl;
}
  where
    same-everywhere : {X : Type 0} (xs : List Pair) (x : X) → replicate (length xs) x ≡ map (λ (y : Pair). x) xs
    same-everywhere [] x = refl
    same-everywhere (y ∷ xs) x = ap (λ rest. x ∷ rest) (same-everywhere xs x)

module _ (weighing : Weighing) (system : System) (starts : List (ℕ × ℕ)) (explored : Explored) (source : IsExploredFrom system weighing starts explored) where
  closed : IsClosed system (IsOneOf explored.pairs)
  closed = reached-closed system (start_pairs starts) explored.pairs source.reached

  pub room : (n : ℕ) (rows : List (List Price)) → rows ≡ generation_rows weighing system explored.pairs n → n ≤ 500001 → HaveRoom rows
  room n rows is low = subst HaveRoom (sym is)
      (All-weaker (All (ArePartsUpTo n)) (All HasRoom) (λ es. All-weaker (ArePartsUpTo n) HasRoom
      (λ e parts. record {
        observations = omega (arith, parts.observations);
        conjunctions = omega (arith, parts.conjunctions);
        deepest_positive = omega (arith, parts.deepest_positive);
        other_positive = omega (arith, parts.other_positive);
        deepest_negative = omega (arith, parts.deepest_negative);
        negations = omega (arith, parts.negations);
        weighted_depth = omega (arith, parts.weighted_depth);
      }) es) (generation_rows weighing system explored.pairs n) (rows-ArePartsUpTo weighing system explored.pairs source.proper n))

  -- once no pair is marked, nothing changes
  one-still : (n : ℕ) (table : Solved) (flags : List Bool) → ((k : ℕ) → ¬ IsMarked flags k) → IsAfter weighing system explored.pairs n table flags
      → IsAfter weighing system explored.pairs (suc n) table flags
  one-still n table flags none after = goes-on-still weighing system starts explored source n table table flags flags [] []
      (record {
        numbered = λ k. ((λ listed. absurd (Contains-none k listed)), λ marked. absurd (none k marked));
        many = (no-numbers flags none).once;
        found = changes-none explored table.rows;
        put = put-none table.rows;
        marks = ap length after.marks ∙ length-map explored.pairs (is_marked weighing system n);
        marked = λ k. ((λ marked. absurd (none k marked)), λ found. absurd (precedes-none system explored.pairs k found));
        evaluations = omega arith;
      }) after (λ k list change. Contains-none _ change) refl

  pub stays-still : (n more : ℕ) (table : Solved) (flags : List Bool) → ((k : ℕ) → ¬ IsMarked flags k) → IsAfter weighing system explored.pairs n table flags
      → IsAfter weighing system explored.pairs (n + more) table flags
  stays-still n zero table flags none after =
      let same : n ≡ n + zero = omega arith in subst (λ k. IsAfter weighing system explored.pairs k table flags) same after
  stays-still n (suc more) table flags none after =
      let same : suc (n + more) ≡ n + suc more = omega arith in
      subst (λ k. IsAfter weighing system explored.pairs k table flags) same (one-still (n + more) table flags none (stays-still n more table flags none after))

  -- ---- at the end
  module _ (table : Solved) (flags : List Bool) (after : IsAfter weighing system explored.pairs (length explored.pairs + 1) table flags) where
    pub solved : IsSolved weighing system explored.pairs table.rows
    solved p qs known = subst (AreLeastPrices weighing system p qs)
        (sym (ap (λ rows. listed_at explored.pairs rows p qs) after.rows
        ∙ listed_at-generation weighing system explored.pairs (length explored.pairs + 1) p qs known))
        (generation-late weighing system explored.pairs closed (length explored.pairs + 1) (omega arith) p qs known)

    pub parts : All (All (ArePartsUpTo (length explored.pairs))) table.rows
    parts = subst (All (All (ArePartsUpTo (length explored.pairs))))
        (sym (after.rows ∙ rows-still weighing system explored.pairs closed (length explored.pairs + 1) (length explored.pairs) (omega arith) (omega arith)))
        (rows-ArePartsUpTo weighing system explored.pairs source.proper (length explored.pairs))

    -- the last generation changed nothing
    pub generations : table.generations ≡ changing_generations weighing system explored.pairs
    unfolding changing_generations_to
    generations = after.generations ∙ ap (changing_generations_to weighing system explored.pairs) (add-one (length explored.pairs))
        ∙ (let none = ap (λ b. changing_generations_to weighing system explored.pairs (length explored.pairs) + cond b 1 0)
        (none-changed-late weighing system explored.pairs closed (length explored.pairs) (omega arith)) in omega (arith, none))

    pub few : table.generations ≤ length explored.pairs
    few = omega (arith, generations, changing-low weighing system explored.pairs (length explored.pairs))

    pub counted : table.evaluations ≡ evaluations weighing system explored.pairs
    counted = after.evaluations ∙ ap (evaluations_before weighing system explored.pairs) (add-one (length explored.pairs))
        ∙ evaluations-all weighing system explored.pairs (length explored.pairs)

-- what is below what on the way
pub record AreBounded (n g : ℕ) (table : Solved) (flags : List Bool) : Type 0 where
  pub rows : length table.rows ≡ n
  pub marks : length flags ≡ n
  pub room : g ≤ 500001 → HaveRoom table.rows
  pub generations : table.generations ≤ g
  pub evaluations : table.evaluations ≤ g * n

pub bounded : (explored : Explored) → IsExplored explored → (g : ℕ) (table : Solved) (flags : List Bool)
    → FromEach explored (λ system weighing. IsAfter weighing system explored.pairs g table flags) → AreBounded (length explored.pairs) g table flags
unfolding generation_rows
bounded explored (system, (weighing, starts, source)) g table flags each =
    let after = each system weighing starts source in
    record {
      rows = ap length after.rows ∙ length-map explored.pairs (λ (x : Pair). generation weighing system g x.state x.set);
      marks = ap length after.marks ∙ length-map explored.pairs (is_marked weighing system g);
      room = room weighing system starts explored source g table.rows after.rows;
      generations = omega (arith, after.generations, changing-low weighing system explored.pairs g);
      evaluations = omega (arith, after.evaluations, evaluations-low weighing system explored.pairs g);
    }

-- the product on the way stays below that of the end
pub product-low : (g n : ℕ) → g ≤ n + 1 → g * n ≤ n * (n + 1)
product-low g n low = let under : g * n ≤ (n + 1) * n = mul-le g n (n + 1) n low (omega arith) in omega (arith, under)
