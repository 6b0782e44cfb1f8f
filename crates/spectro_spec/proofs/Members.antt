-- Members of a list, one by one.
use Rattle.std.proofs.Common.{◌≡◌, ℕ, zero, suc, ◌<◌, ◌⊎◌, inl, inr, List, [], ◌∷◌, length, map, refl, sym, subst, arith, Contains, slice_index_or, Bool, true, false, cond, ◌&&◌, ◌||◌}
use Rattle.std.specs.Prelude.{◌==◌}
use Rattle.std.specs.List.{AllByRecursion, list_any}
use Rattle.std.specs.Str.{bytes_eq}
use Rattle.std.proofs.lemmas.Bool.{and_from, eq-eqb}
use Rattle.std.proofs.lemmas.Slice.Eq.{bytes_eq-Decides}
use Rattle.std.proofs.lemmas.List.Elements.{All-contains, All-from_recursion}
use Rattle.spectro_spec.specs.System.{Label, Step, targets_of}

pub Contains-first : {X : Type 0} (x : X) (xs : List X) → Contains (x ∷ xs) x
Contains-first x xs = (0, omega arith, refl)

pub Contains-later : {X : Type 0} (y : X) (xs : List X) (x : X) → Contains xs x → Contains (y ∷ xs) x
Contains-later y xs x (k, below, is) = (suc k, omega arith, is)

at_cases : {X : Type 0} (y : X) (xs : List X) (x : X) (k : ℕ) → k < length (y ∷ xs) → slice_index_or (y ∷ xs) k x ≡ x → (y ≡ x) ⊎ Contains xs x
at_cases y xs x zero below is = inl is
at_cases y xs x (suc k) below is = inr (k, omega arith, is)

pub Contains-cases : {X : Type 0} (y : X) (xs : List X) (x : X) → Contains (y ∷ xs) x → (y ≡ x) ⊎ Contains xs x
Contains-cases y xs x (k, below, is) = at_cases y xs x k below is

pub Contains-none : {X : Type 0} (x : X) → Contains [] x → ⊥
Contains-none x (k, below, is) = omega arith

-- what is true of each member in turn is true of any one
pub any_member : {X : Type 0} (P : X → Type 0) (xs : List X) (x : X) → AllByRecursion P xs → Contains xs x → P x
any_member P xs x each member = All-contains P xs x (All-from_recursion P xs each) member

-- what is true of the one member is true of any
pub only_member : {X : Type 0} (P : X → Type 0) (y x : X) → P y → Contains (y ∷ []) x → P x
only_member P y x here member = any_member P (y ∷ []) x (here, tt) member

keeps : (s : ℕ) (label : Label) → (list_any (λ q. q == s) (s ∷ []) && bytes_eq label label) ≡ true
keeps s label = and_from (s == s || false) (bytes_eq label label) (rw (eq-eqb s s refl)) ((bytes_eq-Decides label label).1 refl)

later_target : (kept : Bool) (x : Step) (steps : List Step) (t : ℕ) → Contains (map (λ y. y.target) steps) t
    → Contains (map (λ y. y.target) (cond kept (x ∷ steps) steps)) t
later_target true x steps t member = Contains-later x.target (map (λ y. y.target) steps) t member
later_target false x steps t member = member

-- where a step leads is among the targets that are computed from its source
pub targets : (steps : List Step) (s : ℕ) (label : Label) (t : ℕ) → Contains steps (record { source = s; label = label; target = t })
    → Contains (targets_of steps (s ∷ []) label) t
targets [] s label t member = absurd (Contains-none _ member)
targets (x ∷ steps) s label t member = elim (Contains-cases x steps _ member) [
  | inl e ↦ subst (λ y. Contains (targets_of (y ∷ steps) (s ∷ []) label) t) (sym e) (rw (keeps s label) (Contains-first t _))
  | inr h ↦ later_target _ x _ t (targets steps s label t h)
]
