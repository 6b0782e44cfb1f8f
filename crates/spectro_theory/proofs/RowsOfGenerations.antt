-- Rows of generations: at pairs that are closed under followers the next rows of generation k are those of generation k + 1.
-- The row at a pair is that of the first place where the pair stands.
use Rattle.std.proofs.Common.{ℕ, zero, suc, ◌<◌, ◌≡◌, inl, inr, List, [], ◌∷◌, map, refl, arith, cond, eqb, ◌&&◌}
use Rattle.std.specs.Bool.{Decides}
use Rattle.std.specs.Str.{bytes_eq}
use Rattle.std.proofs.lemmas.Bool.Decides.{Decides-and, Decides-like, Decides-eqb}
use Rattle.std.proofs.lemmas.Slice.Eq.{bytes_eq-Decides}
use Rattle.spectro_spec.specs.System.{System}
use Rattle.spectro_spec.specs.Weighing.{Weighing}
use Rattle.spectro_spec.specs.Price.{Price}
use Rattle.spectro_spec.proofs.Members.{Contains-first, Contains-later, Contains-cases, Contains-none}
use Rattle.spectro_game.specs.Pairs.{Pair, IsClosed, IsOneOf}
use Rattle.spectro_game.specs.Reached.{StandsAt}
use Rattle.spectro_game.specs.Generations.{Table, backward_step, generation}
use Rattle.spectro_game.specs.Rows.{listed_at, next_rows, generation_rows}
use Rattle.spectro_theory.proofs.MinimalElements.{by_test}
use Rattle.spectro_theory.proofs.Locality.{backward_step-local}

-- the search for a pair tells whether a pair is the one looked for
same_pair-Decides : (x : Pair) (p : ℕ) (qs : List ℕ) → Decides (eqb x.state p && bytes_eq x.set qs) (x ≡ record { state = p; set = qs })
same_pair-Decides x p qs = Decides-like (eqb x.state p && bytes_eq x.set qs)
    (λ h i. record { state = h.0 i; set = h.1 i })
    (λ is. ((λ i. (is i).state), λ i. (is i).set))
    (Decides-and (eqb x.state p) (bytes_eq x.set qs) (Decides-eqb x.state p) (bytes_eq-Decides x.set qs))

-- the row at a pair is that of the first place where the pair stands
pub listed_at-first : (pairs : List Pair) (rows : List (List Price)) (i p : ℕ) (qs : List ℕ) (es : List Price)
    → ((j : ℕ) → j < i → ¬ StandsAt pairs j (record { state = p; set = qs })) → StandsAt pairs i (record { state = p; set = qs }) → StandsAt rows i es
    → listed_at pairs rows p qs ≡ es
unfolding listed_at
listed_at-first [] rows i p qs es earlier here row = absurd (cc)
listed_at-first (x ∷ pairs) [] i p qs es earlier here row = absurd (cc)
listed_at-first (x ∷ pairs) (fs ∷ rows) zero p qs es earlier here row =
    by_test (λ b. cond b fs (listed_at pairs rows p qs) ≡ es) (eqb x.state p && bytes_eq x.set qs) (same_pair-Decides x p qs)
    (λ _. cc)
    (λ apart. absurd (apart (cc)))
listed_at-first (x ∷ pairs) (fs ∷ rows) (suc i) p qs es earlier here row =
    by_test (λ b. cond b fs (listed_at pairs rows p qs) ≡ es) (eqb x.state p && bytes_eq x.set qs) (same_pair-Decides x p qs)
    (λ is. absurd (earlier 0 (omega arith) (cc)))
    (λ _. listed_at-first pairs rows i p qs es (λ j before. earlier (suc j) (omega arith)) here row)

-- the rows of a table list at each of the pairs what the table does
listed_at-map : (table : Table) (pairs : List Pair) (p : ℕ) (qs : List ℕ) → IsOneOf pairs p qs
    → listed_at pairs (map (λ (x : Pair). table x.state x.set) pairs) p qs ≡ table p qs
unfolding listed_at
listed_at-map table [] p qs member = absurd (Contains-none (record { state = p; set = qs }) member)
listed_at-map table (x ∷ pairs) p qs member =
    by_test (λ b. cond b (table x.state x.set) (listed_at pairs (map (λ (y : Pair). table y.state y.set) pairs) p qs) ≡ table p qs)
    (eqb x.state p && bytes_eq x.set qs) (same_pair-Decides x p qs)
    (λ is i. table (is i).state (is i).set)
    (λ apart. elim (Contains-cases x pairs (record { state = p; set = qs }) member) [
      | inl is ↦ absurd (apart is)
      | inr later ↦ listed_at-map table pairs p qs later
    ])

-- tables that agree at the pairs have the same rows
rows_alike : (table other : Table) (pairs : List Pair) → ((p : ℕ) (qs : List ℕ) → IsOneOf pairs p qs → table p qs ≡ other p qs)
    → map (λ (x : Pair). table x.state x.set) pairs ≡ map (λ (x : Pair). other x.state x.set) pairs
rows_alike table other [] same = refl
rows_alike table other (x ∷ pairs) same =
    let first : table x.state x.set ≡ other x.state x.set = same x.state x.set (Contains-first x pairs) in
    let later = rows_alike table other pairs (λ p qs member. same p qs (Contains-later x pairs (record { state = p; set = qs }) member)) in
    λ i. first i ∷ later i

module _ (weighing : Weighing) (system : System) (pairs : List Pair) where
  pub listed_at-generation : (k p : ℕ) (qs : List ℕ) → IsOneOf pairs p qs
      → listed_at pairs (generation_rows weighing system pairs k) p qs ≡ generation weighing system k p qs
  unfolding generation_rows
  listed_at-generation k p qs member = listed_at-map (generation weighing system k) pairs p qs member

  -- the next rows of generation k are those of generation k + 1
  pub next_rows-generation : IsClosed system (IsOneOf pairs) → (k : ℕ)
      → next_rows weighing system pairs (generation_rows weighing system pairs k) ≡ generation_rows weighing system pairs (suc k)
  unfolding next_rows generation_rows generation
  next_rows-generation closed k =
      let rows : List (List Price) = map (λ (x : Pair). generation weighing system k x.state x.set) pairs in
      rows_alike (backward_step weighing system (listed_at pairs rows)) (backward_step weighing system (generation weighing system k)) pairs
      (λ p qs member. backward_step-local weighing system (listed_at pairs rows) (generation weighing system k) p qs
      (λ p' qs' follows. listed_at-map (generation weighing system k) pairs p' qs' (closed p qs p' qs' member follows)))
