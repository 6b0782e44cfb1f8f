-- The followers, positions and sizes of small pairs.
use Rattle.std.proofs.Common.{◌≡◌, ◌≤◌, ℕ, ◌+◌, List, [], ◌∷◌, length, Contains, refl, arith}
use Rattle.spectro_spec.specs.System.{post}
use Rattle.spectro_game.specs.Pairs.{Pair, followers, IsFollower, IsClosed, IsOneOf, positions, size}
use Rattle.spectro_spec.proofs.Members.{Contains-first, any_member, only_member, Contains-none}
use Rattle.spectro_spec.proofs.Samples.{two_stopped, one_step, late_and_early, mixed}

abbrev pub pair : ℕ → List ℕ → Pair
pair p qs = record { state = p; set = qs }

-- a label that p has and the set has not leads to the empty set; a label that the set alone has leads nowhere
followers-mixed : followers mixed (pair 0 (1 ∷ 2 ∷ [])) ≡
    pair 2 [] ∷ pair 0 [] ∷ pair 1 (0 ∷ 2 ∷ []) ∷ pair 3 (0 ∷ 2 ∷ [])
    ∷ pair 0 (1 ∷ []) ∷ pair 0 (2 ∷ []) ∷ pair 0 (1 ∷ 2 ∷ [])
    ∷ pair 1 (0 ∷ []) ∷ pair 2 (0 ∷ []) ∷ []
unfolding followers post
followers-mixed = refl

-- the state itself is in the set, and swaps with the others alone
followers-member : followers mixed (pair 3 (1 ∷ 3 ∷ [])) ≡ pair 3 (1 ∷ []) ∷ pair 3 (3 ∷ []) ∷ pair 3 (1 ∷ 3 ∷ []) ∷ pair 1 (3 ∷ []) ∷ []
unfolding followers post
followers-member = refl

followers-late : followers late_and_early (pair 0 (3 ∷ [])) ≡ pair 1 (4 ∷ 5 ∷ []) ∷ pair 0 (3 ∷ []) ∷ pair 3 (0 ∷ []) ∷ []
unfolding followers post
followers-late = refl

-- two labels to one pair
followers-after_the_step : followers late_and_early (pair 1 (4 ∷ 5 ∷ [])) ≡
    pair 2 (6 ∷ []) ∷ pair 2 (6 ∷ [])
    ∷ pair 1 (4 ∷ []) ∷ pair 1 (5 ∷ []) ∷ pair 1 (4 ∷ 5 ∷ [])
    ∷ pair 4 (1 ∷ []) ∷ pair 5 (1 ∷ []) ∷ []
unfolding followers post
followers-after_the_step = refl

followers-early : followers late_and_early (pair 3 (0 ∷ [])) ≡ pair 4 (1 ∷ []) ∷ pair 5 (1 ∷ []) ∷ pair 3 (0 ∷ []) ∷ pair 0 (3 ∷ []) ∷ []
unfolding followers post
followers-early = refl

followers-itself : followers two_stopped (pair 0 (0 ∷ [])) ≡ pair 0 (0 ∷ []) ∷ []
unfolding followers post
followers-itself = refl

followers-no_set : followers one_step (pair 0 []) ≡ pair 1 [] ∷ []
unfolding followers post
followers-no_set = refl

followers-stopped : followers one_step (pair 1 []) ≡ []
unfolding followers post
followers-stopped = refl

IsFollower-swap : IsFollower late_and_early 0 (3 ∷ []) 3 (0 ∷ [])
unfolding followers post
IsFollower-swap = (2, omega arith, refl)

-- the empty subset doesn't follow
not_IsFollower-no_subset : ¬ IsFollower one_step 0 (1 ∷ []) 0 []
unfolding followers post
not_IsFollower-no_subset h =
    let low : 1 ≤ 0 = any_member (λ (x : Pair). 1 ≤ x.state + length x.set) (pair 1 [] ∷ pair 0 (1 ∷ []) ∷ pair 1 (0 ∷ []) ∷ []) (pair 0 [])
    (omega arith, (omega arith, (omega arith, tt))) h in
    omega arith

-- nothing follows
only_follows : {p p' : ℕ} {qs qs' : List ℕ} → IsOneOf (pair 1 [] ∷ []) p qs → IsFollower one_step p qs p' qs'
    → Contains (followers one_step (pair 1 [])) (pair p' qs')
only_follows {p} {p'} {qs} {qs'} is_one follows =
    only_member (λ (x : Pair). Contains (followers one_step x) (pair p' qs') → Contains (followers one_step (pair 1 [])) (pair p' qs'))
    (pair 1 []) (pair p qs) (λ h. h) is_one follows

IsClosed-stopped : IsClosed one_step (IsOneOf (pair 1 [] ∷ []))
unfolding followers post
IsClosed-stopped p qs p' qs' is_one follows =
    let none : Contains (followers one_step (pair 1 [])) (pair p' qs') = only_follows is_one follows in
    absurd (Contains-none (pair p' qs') none)

-- the pair after the step is not there
not_IsClosed-one_step : ¬ IsClosed one_step (IsOneOf (pair 0 [] ∷ []))
unfolding followers post
not_IsClosed-one_step closed =
    let later : Contains (pair 0 [] ∷ []) (pair 1 []) = closed 0 [] 1 [] (Contains-first (pair 0 []) []) (Contains-first (pair 1 []) []) in
    only_member (λ (x : Pair). ¬ (x.state ≡ 1)) (pair 0 []) (pair 1 []) (λ e. omega arith) later refl

positions-no_set : positions (pair 5 []) ≡ 2
positions-no_set = refl

-- the positive and the negative clause have a position of their own
positions-one : positions (pair 5 (5 ∷ [])) ≡ 4
positions-one = refl

positions-two : positions (pair 0 (1 ∷ 2 ∷ [])) ≡ 5
positions-two = refl

positions-three : positions (pair 0 (0 ∷ 1 ∷ 2 ∷ [])) ≡ 9
positions-three = refl

size-none : size [] ≡ 0
size-none = refl

size-itself : size (pair 0 (0 ∷ []) ∷ []) ≡ 4
size-itself = refl

size-one_step : size (pair 0 (1 ∷ []) ∷ pair 1 [] ∷ pair 1 (0 ∷ []) ∷ []) ≡ 10
size-one_step = refl
