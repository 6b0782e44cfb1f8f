-- One turn of the search for a split: the mask lacks a clause, its left part has none, or it is the split.
use Rattle.std.proofs.Common.{◌≡◌, ◌∙◌, inl, inr, ℕ, ◌+◌, ◌^◌, ◌<◌, ◌≤◌, List, length, sym, ap, subst, arith, Option, None, Some}
use Rattle.std.specs.List.{position}
use Rattle.std.specs.Option.{option_map}
use Rattle.std.proofs.lemmas.Bool.{cases_lt}
use Rattle.spectro_spec.specs.Price.{Price}
use Rattle.spectro_game.specs.MinimalElements.{is_at_most}
use Rattle.spectro_game.specs.Divisions.{Division, divisions}
use Rattle.spectro_game.specs.Pairs.{Pair}
use Rattle.spectro_game.specs.Reached.{StandsAt}
use Rattle.spectro_game.specs.Rows.{listed_at}
use Rattle.spectro_rows.specs.Rows.{row_at}
use Rattle.spectro_theory.proofs.Masks.{division_at, divisions-place, divisions-AreByMask}
use Rattle.spectro_theory.proofs.Places.{stands-below, stands-one}
use Rattle.spectro_solve.proofs.SubsetPairs.{subset_of}
use Rattle.spectro_build.specs.Choices.{Choice, as_deepest, first_fitting, split_choice}
use Rattle.spectro_build.specs.Chosen.{first_split_at, split_at}
use Rattle.spectro_build.specs.Keys.{key_at, need_at}
use Rattle.spectro_build.specs.Splits.{Lacks, clauses_of_split}
use Rattle.spectro_build.specs.declared.clauses.SignedKey.{SignedKey}
use Rattle.spectro_build.specs.declared.key.Key.{Key}
use Rattle.spectro_build.proofs.Fittings.{fitting-at}
use Rattle.spectro_build.proofs.MaskSplits.{AreClauses, split-lacks_right, split-lacks_left, split-there, split-of_none}
use Rattle.spectro_build.proofs.Searches.{first_made-at, first_made-none}

module _ (pairs : List Pair) (rows : List (List Price)) (e : Price) (others : List (Option SignedKey)) (x : Pair)
    (each : AreClauses pairs rows (listed_at pairs rows) x.state e x.set others) (mask : ℕ) (below : mask < 2 ^ length x.set) where
  abbrev make : Division → Option Choice
  make d = split_choice (listed_at pairs rows) x.state e d

  -- no earlier mask makes a split
  abbrev NoneBefore : ℕ → Type 0
  NoneBefore n = (m : ℕ) (d : Division) → m < n → StandsAt (divisions x.set) m d → make d ≡ None

  pub none-more : NoneBefore mask → make (division_at mask x.set) ≡ None → NoneBefore (mask + 1)
  none-more before none m d under there = elim (cases_lt m mask) [
    | inl earlier ↦ before m d earlier there
    | inr now ↦
        let same : m ≡ mask = omega arith in
        subst (λ d. make d ≡ None)
        (stands-one (divisions x.set) mask (division_at mask x.set) d (divisions-place x.set mask below)
        (subst (λ n. StandsAt (divisions x.set) n d) same there))
        none
  ]

  pub mask-lacks : Lacks others mask → make (division_at mask x.set) ≡ None
  mask-lacks lacks = split-lacks_right pairs rows (listed_at pairs rows) x.state e x.set others each mask below lacks

  -- the first that makes one
  first-made : (split : Choice) → NoneBefore mask → make (division_at mask x.set) ≡ Some split → first_split_at (listed_at pairs rows) x e ≡ Some split
  first-made split before made = first_made-at make (divisions x.set) mask (division_at mask x.set) split before (divisions-place x.set mask below) made

  pub made-none : ¬ Lacks others mask → mask ≡ 0 → NoneBefore mask
      → first_split_at (listed_at pairs rows) x e ≡ Some (split_at pairs rows (clauses_of_split others (record { mask = mask; left = None })))
  made-none full zero before = first-made (split_at pairs rows (clauses_of_split others (record { mask = mask; left = None }))) before
      (subst (λ m. make (division_at m x.set) ≡ Some (split_at pairs rows (clauses_of_split others (record { mask = m; left = None })))) (sym zero)
      (split-of_none pairs rows (listed_at pairs rows) x.state e x.set others each (λ lacks. full (subst (Lacks others) (sym zero) lacks))))

  module _ (some : 1 ≤ mask) (pair : ℕ) (there : StandsAt pairs pair (subset_of x mask))
      (row : listed_at pairs rows x.state (division_at mask x.set).left ≡ row_at rows pair) where
    left-fits : (answer : Option Key) → answer ≡ option_map (key_at rows pair) (position (λ f. is_at_most (as_deepest f) e) (row_at rows pair))
        → first_fitting (listed_at pairs rows) (subset_of x mask) as_deepest e ≡ option_map (need_at pairs rows) answer
    left-fits answer found = fitting-at pairs rows pair (subset_of x mask) as_deepest e there (stands-below pairs pair (subset_of x mask) there) row
        ∙ ap (option_map (need_at pairs rows)) (sym found)

    pub left-lacks : None ≡ option_map (key_at rows pair) (position (λ f. is_at_most (as_deepest f) e) (row_at rows pair))
        → make (division_at mask x.set) ≡ None
    left-lacks found = split-lacks_left pairs rows (listed_at pairs rows) x.state e x.set others each mask below some (left-fits None found)

    pub made-some : ¬ Lacks others mask → NoneBefore mask → (key : Key)
        → Some key ≡ option_map (key_at rows pair) (position (λ f. is_at_most (as_deepest f) e) (row_at rows pair))
        → first_split_at (listed_at pairs rows) x e ≡ Some (split_at pairs rows (clauses_of_split others (record { mask = mask; left = Some key })))
    made-some full before key found = first-made (split_at pairs rows (clauses_of_split others (record { mask = mask; left = Some key }))) before
        (split-there pairs rows (listed_at pairs rows) x.state e x.set others each mask below some key full (left-fits (Some key) found))

-- where no mask makes a split there is none
pub none-at_all : (pairs : List Pair) (rows : List (List Price)) (e : Price) (x : Pair) (n : ℕ) → 2 ^ length x.set ≤ n
    → ((m : ℕ) (d : Division) → m < n → StandsAt (divisions x.set) m d → split_choice (listed_at pairs rows) x.state e d ≡ None)
    → first_split_at (listed_at pairs rows) x e ≡ None
none-at_all pairs rows e x n whole before = first_made-none (split_choice (listed_at pairs rows) x.state e) (divisions x.set)
    (λ m d there. let within = stands-below (divisions x.set) m d there in
    let under : m < n = omega (arith, within, (divisions-AreByMask x.set).count, whole) in before m d under there)
