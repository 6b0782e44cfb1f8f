-- Sets that are divided into a left and a right part.
use Rattle.std.proofs.Common.{ℕ, zero, suc, ◌⊎◌, inl, inr, List, [], ◌∷◌, subst, arith, All, Contains}
use Rattle.std.specs.List.{AllPairs}
use Rattle.std.proofs.lemmas.List.Elements.{All-cons}
use Rattle.std.proofs.lemmas.List.Kept.{AllPairs-cons}
use Rattle.spectro_spec.proofs.Members.{Contains-later, Contains-cases, Contains-none}
use Rattle.spectro_game.specs.Divisions.{IsDivided, nothing, to_left, to_right}
use Rattle.spectro_spec.proofs.Membership.{Contains-first_is}

pub IsDivided-all_right : (qs : List ℕ) → IsDivided qs [] qs
IsDivided-all_right [] = nothing
IsDivided-all_right (q ∷ qs) = to_right (IsDivided-all_right qs)

-- each member of a set is the left part of one of its divisions
pub divided_at : (qs : List ℕ) (q : ℕ) → Contains qs q → (right : List ℕ) × IsDivided qs (q ∷ []) right
divided_at [] q member = absurd (Contains-none q member)
divided_at (r ∷ qs) q member = elim (Contains-cases r qs q member) [
  | inl e ↦ (qs, subst (λ x. IsDivided (r ∷ qs) (x ∷ []) qs) e (to_left (IsDivided-all_right qs)))
  | inr h ↦ let rest = divided_at qs q h in (r ∷ rest.0, to_right rest.1)
]

pub Contains-left : {qs left right : List ℕ} → IsDivided qs left right → (q : ℕ) → Contains left q → Contains qs q
Contains-left nothing q member = member
Contains-left (to_left {q = r} {qs = qs} {left = left} divided) q member = elim (Contains-cases r left q member) [
  | inl e ↦ Contains-first_is r qs q e
  | inr h ↦ Contains-later r qs q (Contains-left divided q h)
]
Contains-left (to_right {q = r} {qs = qs} divided) q member = Contains-later r qs q (Contains-left divided q member)

pub Contains-right : {qs left right : List ℕ} → IsDivided qs left right → (q : ℕ) → Contains right q → Contains qs q
Contains-right nothing q member = member
Contains-right (to_right {q = r} {qs = qs} {right = right} divided) q member = elim (Contains-cases r right q member) [
  | inl e ↦ Contains-first_is r qs q e
  | inr h ↦ Contains-later r qs q (Contains-right divided q h)
]
Contains-right (to_left {q = r} {qs = qs} divided) q member = Contains-later r qs q (Contains-right divided q member)

-- what holds of a set holds of its left part
pub All-left : {qs left right : List ℕ} (P : ℕ → Type 0) → IsDivided qs left right → All P qs → All P left
All-left P nothing each = each
All-left P (to_left {q = q} {left = left} divided) each = All-cons P q left (each zero q (omega arith))
    (All-left P divided (λ k d within. each (suc k) d (omega arith)))
All-left P (to_right divided) each = All-left P divided (λ k d within. each (suc k) d (omega arith))

pub AllPairs-left : {qs left right : List ℕ} (R : ℕ → ℕ → Type 0) → IsDivided qs left right → AllPairs R qs → AllPairs R left
AllPairs-left R nothing each = each
AllPairs-left R (to_left {q = q} {left = left} divided) each =
    AllPairs-cons R q left (All-left (R q) divided (λ k d within. each zero (suc k) d (omega arith) (omega arith)))
    (AllPairs-left R divided (λ i j d below within. each (suc i) (suc j) d (omega arith) (omega arith)))
AllPairs-left R (to_right divided) each = AllPairs-left R divided (λ i j d below within. each (suc i) (suc j) d (omega arith) (omega arith))

-- each member of a divided set is in one of the parts
pub Contains-divided_cases : {qs left right : List ℕ} → IsDivided qs left right → (q : ℕ) → Contains qs q → Contains left q ⊎ Contains right q
Contains-divided_cases nothing q member = inl member
Contains-divided_cases (to_left {q = r} {qs = qs} {left = left} divided) q member = elim (Contains-cases r qs q member) [
  | inl e ↦ inl (Contains-first_is r left q e)
  | inr h ↦ elim (Contains-divided_cases divided q h) [ inl g ↦ inl (Contains-later r left q g) | inr g ↦ inr g ]
]
Contains-divided_cases (to_right {q = r} {qs = qs} {right = right} divided) q member = elim (Contains-cases r qs q member) [
  | inl e ↦ inr (Contains-first_is r right q e)
  | inr h ↦ elim (Contains-divided_cases divided q h) [ inl g ↦ inl g | inr g ↦ inr (Contains-later r right q g) ]
]

-- a division with P false on the left and true on the right
pub record IsDividedBy (P : ℕ → Type 0) (qs left right : List ℕ) : Type 0 where
  pub divided : IsDivided qs left right
  pub untrue : (q : ℕ) → Contains left q → ¬ P q
  pub holds : (q : ℕ) → Contains right q → P q

divided_more : (P : ℕ → Type 0) (r : ℕ) (qs left right : List ℕ) → Dec (P r) → IsDividedBy P qs left right
    → (left : List ℕ) × (right : List ℕ) × IsDividedBy P (r ∷ qs) left right
divided_more P r qs left right (yes here) by = (
  left,
  r ∷ right,
  record {
    divided = to_right by.divided;
    untrue = by.untrue;
    holds = λ q member. elim (Contains-cases r right q member) [ inl e ↦ subst P e here | inr h ↦ by.holds q h ];
  },
)
divided_more P r qs left right (no not_here) by = (
  r ∷ left,
  right,
  record {
    divided = to_left by.divided;
    untrue = λ q member. elim (Contains-cases r left q member) [ inl e ↦ subst (λ x. ¬ P x) e not_here | inr h ↦ by.untrue q h ];
    holds = by.holds;
  },
)

-- a set is divided by each decided property
pub divided_by : (P : ℕ → Type 0) → ((q : ℕ) → Dec (P q)) → (qs : List ℕ) → (left : List ℕ) × (right : List ℕ) × IsDividedBy P qs left right
divided_by P decided [] = (
  [],
  [],
  record {
    divided = nothing;
    untrue = λ q member. absurd (Contains-none q member);
    holds = λ q member. absurd (Contains-none q member);
  },
)
divided_by P decided (q ∷ qs) = let rest = divided_by P decided qs in divided_more P q qs rest.0 rest.1 (decided q) rest.2
