-- The choice: an observation where one fits, or else a split.
use Rattle.std.proofs.Common.{◌≡◌, ◌∙◌, ℕ, ◌/◌, ◌%◌, eqb, Bool, true, false, cond, List, [], ◌∷◌, ◌++◌, All, ap, arith, Option, None, Some}
use Rattle.std.specs.Prelude.{IfSome}
use Rattle.std.specs.Option.{option_or}
use Rattle.std.proofs.lemmas.List.Elements.{All-cons, All-head, All-tail}
use Rattle.spectro_spec.specs.System.{System}
use Rattle.spectro_spec.specs.Weighing.{Weighing}
use Rattle.spectro_spec.specs.Price.{Price}
use Rattle.spectro_game.specs.Divisions.{divisions}
use Rattle.spectro_game.specs.Generations.{Table}
use Rattle.spectro_build.specs.Choices.{Need, Choice, choice_at, first_made, split_choice}
use Rattle.spectro_build.specs.Chosen.{first_observation_at, first_split_at}
use Rattle.spectro_build.specs.Kept.{keys_of_clauses}
use Rattle.spectro_build.specs.Keys.{IsKey}
use Rattle.spectro_build.specs.Splits.{AreKeyed, clauses_of_split, clauses_outside, option_list}
use Rattle.spectro_build.specs.declared.clauses.SignedKey.{SignedKey}
use Rattle.spectro_build.specs.declared.key.Key.{Key}
use Rattle.spectro_build.specs.declared.splitting.Split.{Split}

module _ (weighing : Weighing) (system : System) (table : Table) (x : Need) where
  pub choice-observed : (choice : Choice) → first_observation_at weighing system table x.pair x.price ≡ Some choice
      → choice_at weighing system table x ≡ Some choice
  unfolding choice_at
  choice-observed choice is = ap (λ o. option_or o (first_made (split_choice table x.pair.state x.price) (divisions x.pair.set))) is

  pub choice-split : (o : Option Choice) → first_observation_at weighing system table x.pair x.price ≡ None → first_split_at table x.pair x.price ≡ o
      → choice_at weighing system table x ≡ o
  unfolding choice_at
  choice-split o none is = ap (λ o. option_or o (first_made (split_choice table x.pair.state x.price) (divisions x.pair.set))) none ∙ is

-- ---- the keys of the clauses of a split are those of listed prices
keyed-outside : (rows : List (List Price)) (mask : ℕ) (others : List (Option SignedKey)) → AreKeyed rows others
    → All (IsKey rows) (keys_of_clauses (clauses_outside mask others))
unfolding clauses_outside
keyed-outside rows mask [] keyed = λ k d below. absurd (omega arith)
keyed-outside rows mask (other ∷ others) keyed = by (eqb (mask % 2) 1) other
    (All-head (λ other. IfSome other (λ (clause : SignedKey). IsKey rows clause.key)) other others keyed)
    (keyed-outside rows (mask / 2) others (All-tail (λ other. IfSome other (λ (clause : SignedKey). IsKey rows clause.key)) other others keyed))
  where
    by : (b : Bool) (o : Option SignedKey) → IfSome o (λ (clause : SignedKey). IsKey rows clause.key)
        → All (IsKey rows) (keys_of_clauses (clauses_outside (mask / 2) others))
        → All (IsKey rows) (keys_of_clauses (cond b [] (option_list o) ++ clauses_outside (mask / 2) others))
    by true o key all = all
    by false None key all = all
    by false (Some clause) key all = All-cons (IsKey rows) clause.key (keys_of_clauses (clauses_outside (mask / 2) others)) key all

keyed-left : (rows : List (List Price)) (mask : ℕ) (left : Option Key) (others : List (Option SignedKey)) → AreKeyed rows others → IfSome left (IsKey rows)
    → All (IsKey rows) (keys_of_clauses (clauses_of_split others (record { mask = mask; left = left })))
keyed-left rows mask None others keyed is = keyed-outside rows mask others keyed
keyed-left rows mask (Some key) others keyed is =
    All-cons (IsKey rows) key (keys_of_clauses (clauses_outside mask others)) is (keyed-outside rows mask others keyed)

pub split-keyed : (rows : List (List Price)) (split : Split) (others : List (Option SignedKey)) → AreKeyed rows others → IfSome split.left (IsKey rows)
    → All (IsKey rows) (keys_of_clauses (clauses_of_split others split))
split-keyed rows split others keyed is = keyed-left rows split.mask split.left others keyed is
