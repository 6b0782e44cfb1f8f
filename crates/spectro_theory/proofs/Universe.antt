-- For a state and a set there is a list of pairs that has them and is closed under followers: each state against each part of
-- the set and of the rising states, where the states are the state, the members of the set and the targets of all steps. As
-- many rounds as it has pairs give the least prices.
use Rattle.std.proofs.Common.{ℕ, ◌<◌, ◌≡◌, ◌≢◌, inl, inr, List, [], ◌∷◌, ◌++◌, length, map, sym, ap, subst, arith, Contains}
use Rattle.std.specs.List.{flat_map}
use Rattle.std.proofs.lemmas.List.Elements.{Contains-append_left, Contains-append_right, Contains-append_cases}
use Rattle.spectro_spec.specs.System.{Label, Step, System, HasStep, rising, targets_of, post}
use Rattle.spectro_spec.proofs.Members.{Contains-first, Contains-later, Contains-cases, Contains-none}
use Rattle.spectro_game.specs.Divisions.{IsDivided, nothing, to_left, to_right, Division, divisions}
use Rattle.spectro_game.specs.Pairs.{Pair, IsOneOf, IsClosed}
use Rattle.spectro_game.specs.Generations.{generation}
use Rattle.spectro_theory.specs.LawsOfPairs.{FollowsByCase}
use Rattle.spectro_theory.specs.LawsOfNotions.{LeastPricesExist}
use Rattle.spectro_spec.proofs.Membership.{Contains-map, Contains-map_cases, Contains-flat_map, Contains-flat_map_cases}
use Rattle.spectro_theory.proofs.Satisfaction.{decide_number}
use Rattle.spectro_theory.proofs.Divided.{IsDivided-all_right, divided_at, Contains-left}
use Rattle.spectro_theory.proofs.DivisionLists.{divisions-Divides, Contains-divisions}
use Rattle.spectro_spec.proofs.Rising.{Contains-rising, Contains-rising_cases, Ascends, rising-ascends, ascends-below, above_first}
use Rattle.spectro_spec.proofs.Successors.{Contains-post}
use Rattle.spectro_theory.proofs.Followers.{IsFollower-iff}
use Rattle.spectro_theory.proofs.Solved.{generation-late}

-- ---- parts of a set
-- the left part of some division
abbrev IsPart : List ℕ → List ℕ → Type 0
IsPart qs left = (right : List ℕ) × IsDivided qs left right

later_part : {qs left : List ℕ} (q : ℕ) → IsPart qs left → IsPart (q ∷ qs) left
later_part q (right, divided) = (q ∷ right, to_right divided)

first_part : {qs left : List ℕ} (q : ℕ) → IsPart qs left → IsPart (q ∷ qs) (q ∷ left)
first_part q (right, divided) = (right, to_left divided)

all_part : (qs : List ℕ) → IsPart qs qs
all_part [] = ([], nothing)
all_part (q ∷ qs) = first_part q (all_part qs)

-- a part of a part is a part
part_of_part : {qs middle other left right : List ℕ} → IsDivided qs middle other → IsDivided middle left right → IsPart qs left
part_of_part nothing nothing = ([], nothing)
part_of_part (to_left {q = q} outer) (to_left inner) = first_part q (part_of_part outer inner)
part_of_part (to_left {q = q} outer) (to_right inner) = later_part q (part_of_part outer inner)
part_of_part (to_right {q = q} outer) inner = later_part q (part_of_part outer inner)

-- rising numbers that are all among other rising numbers are a part of them
ascending_part : (ns ms : List ℕ) → Ascends ns → Ascends ms → ((k : ℕ) → Contains ns k → Contains ms k) → IsPart ms ns
ascending_part [] ms part_rises whole_rises among = (ms, IsDivided-all_right ms)
ascending_part (n ∷ ns) [] part_rises whole_rises among = absurd (Contains-none n (among n (Contains-first n ns)))
ascending_part (n ∷ ns) (m ∷ ms) part_rises whole_rises among = go (decide_number m n) (ascending_part ns ms part_rises.1 whole_rises.1)
    (ascending_part (n ∷ ns) ms part_rises whole_rises.1)
  where
    below : (k : ℕ) → Contains ns k → n < k
    below = ascends-below n ns part_rises

    above : m ≢ n → m < n
    above apart = elim (Contains-cases m ms n (among n (Contains-first n ns))) [ inl e ↦ absurd (apart e) | inr h ↦ ascends-below m ms whole_rises n h ]

    above_all : m ≢ n → (k : ℕ) → Contains (n ∷ ns) k → m < k
    above_all apart k member = elim (Contains-cases n ns k member) [
      | inl e ↦ subst (λ x. m < x) e (above apart)
      | inr h ↦ omega (arith, above apart, below k h)
    ]

    go : Dec (m ≡ n) → (((k : ℕ) → Contains ns k → Contains ms k) → IsPart ms ns) → (((k : ℕ) → Contains (n ∷ ns) k → Contains ms k) → IsPart ms (n ∷ ns))
        → IsPart (m ∷ ms) (n ∷ ns)
    go (yes same) part_after part_later = subst (λ x. IsPart (m ∷ ms) (x ∷ ns)) same
        (first_part m (part_after (λ k member. above_first m ms k (omega (arith, same, below k member)) (among k (Contains-later n ns k member)))))
    go (no apart) part_after part_later = later_part m (part_later (λ k member. above_first m ms k (above_all apart k member) (among k member)))

-- ---- lists of parts and of pairs
abbrev parts_of : List ℕ → List (List ℕ)
parts_of qs = map (λ (d : Division). d.left) (divisions qs)

Contains-parts_of : (qs left : List ℕ) → IsPart qs left → Contains (parts_of qs) left
Contains-parts_of qs left (right, divided) = Contains-map (λ (d : Division). d.left) (divisions qs) (record { left = left; right = right })
    (Contains-divisions divided)

Contains-parts_of_cases : (qs left : List ℕ) → Contains (parts_of qs) left → IsPart qs left
Contains-parts_of_cases qs left member =
    let found = Contains-map_cases (λ (d : Division). d.left) (divisions qs) left member in
    (found.0.right, subst (λ part. IsDivided qs part found.0.right) found.2 (divisions-Divides qs found.0 found.1))

-- the state against each of the sets
abbrev against : List (List ℕ) → ℕ → List Pair
against sets p = map (λ qs. record { state = p; set = qs }) sets

abbrev pairs_of : List ℕ → List (List ℕ) → List Pair
pairs_of states sets = flat_map (against sets) states

Contains-pairs_of : (states : List ℕ) (sets : List (List ℕ)) (p : ℕ) (qs : List ℕ) → Contains states p → Contains sets qs → IsOneOf (pairs_of states sets) p qs
Contains-pairs_of states sets p qs state set =
    Contains-flat_map (against sets) states p (record { state = p; set = qs }) state (Contains-map (λ rs. record { state = p; set = rs }) sets qs set)

Contains-pairs_of_cases : (states : List ℕ) (sets : List (List ℕ)) (p : ℕ) (qs : List ℕ) → IsOneOf (pairs_of states sets) p qs
    → Contains states p × Contains sets qs
Contains-pairs_of_cases states sets p qs member =
    let found = Contains-flat_map_cases (against sets) states (record { state = p; set = qs }) member in
    let inner = Contains-map_cases (λ rs. record { state = found.0; set = rs }) sets (record { state = p; set = qs }) found.2 in
    (subst (Contains states) (ap (λ (x : Pair). x.state) inner.2) found.1, subst (Contains sets) (ap (λ (x : Pair). x.set) inner.2) inner.1)

-- ---- the pairs of a state and a set
post-ascends : (system : System) (qs : List ℕ) (label : Label) → Ascends (post system qs label)
unfolding post
post-ascends system qs label = rising-ascends (targets_of system.steps qs label)

module _ (system : System) (p : ℕ) (qs : List ℕ) where
  abbrev targets : List ℕ
  targets = map (λ (step : Step). step.target) system.steps

  abbrev states : List ℕ
  states = p ∷ qs ++ targets

  abbrev sets : List (List ℕ)
  sets = parts_of qs ++ parts_of (rising states)

  abbrev pub universe : List Pair
  universe = pairs_of states sets

  step-to_state : (s : ℕ) (label : Label) (t : ℕ) → HasStep system s label t → Contains states t
  step-to_state s label t step =
      Contains-later p (qs ++ targets) t
      (Contains-append_right qs targets t
      (Contains-map (λ (step : Step). step.target) system.steps (record { source = s; label = label; target = t }) step))

  part-set : (left : List ℕ) → IsPart (rising states) left → Contains sets left
  part-set left part = Contains-append_right (parts_of qs) (parts_of (rising states)) left (Contains-parts_of (rising states) left part)

  set-member : (set : List ℕ) → Contains sets set → (s : ℕ) → Contains set s → Contains states s
  set-member set known s member = elim (Contains-append_cases (parts_of qs) (parts_of (rising states)) set known) [
    | inl h ↦ Contains-later p (qs ++ targets) s (Contains-append_left qs targets s (Contains-left (Contains-parts_of_cases qs set h).1 s member))
    | inr h ↦ Contains-rising_cases states s (Contains-left (Contains-parts_of_cases (rising states) set h).1 s member)
  ]

  set-subset : (set left right : List ℕ) → Contains sets set → IsDivided set left right → Contains sets left
  set-subset set left right known divided = elim (Contains-append_cases (parts_of qs) (parts_of (rising states)) set known) [
    | inl h ↦ Contains-append_left (parts_of qs) (parts_of (rising states)) left
        (Contains-parts_of qs left (part_of_part (Contains-parts_of_cases qs set h).1 divided))
    | inr h ↦ part-set left (part_of_part (Contains-parts_of_cases (rising states) set h).1 divided)
  ]

  set-successors : (set : List ℕ) (label : Label) → Contains sets (post system set label)
  set-successors set label = part-set (post system set label)
      (ascending_part (post system set label) (rising states) (post-ascends system set label) (rising-ascends states)
      (λ t member. let source = Contains-post system set label t member in Contains-rising states t (step-to_state source.0 label t source.2)))

  set-single : (s : ℕ) → Contains states s → Contains sets (s ∷ [])
  set-single s known = part-set (s ∷ []) (divided_at (rising states) s (Contains-rising states s known))

  -- what follows has a state and a set of these too
  follower-known : (s : ℕ) (set : List ℕ) (s' : ℕ) (set' : List ℕ) → Contains states s → Contains sets set → FollowsByCase system s set s' set'
      → Contains states s' × Contains sets set'
  follower-known s set s' set' state known (inl (label, step, e)) = (step-to_state s label s' step, subst (Contains sets) (sym e) (set-successors set label))
  follower-known s set s' set' state known (inr (inl (e, some, (right, divided)))) =
      (subst (Contains states) (sym e) state, set-subset set set' right known divided)
  follower-known s set s' set' state known (inr (inr (member, differ, e))) =
      (set-member set known s' member, subst (Contains sets) (sym e) (set-single s state))

  pub universe-closed : IsClosed system (IsOneOf universe)
  universe-closed s set s' set' known follows =
      let here = Contains-pairs_of_cases states sets s set known in
      let there = follower-known s set s' set' here.0 here.1 ((IsFollower-iff system s set s' set').0 follows) in
      Contains-pairs_of states sets s' set' there.0 there.1

  pub universe-has : IsOneOf universe p qs
  universe-has = Contains-pairs_of states sets p qs (Contains-first p (qs ++ targets))
      (Contains-append_left (parts_of qs) (parts_of (rising states)) qs (Contains-parts_of qs qs (all_part qs)))

-- the generation after as many rounds as there are pairs lists them
pub some_least : LeastPricesExist
some_least weighing system p qs =
    let pairs = universe system p qs in (
      generation weighing system (length pairs) p qs,
      generation-late weighing system pairs (universe-closed system p qs) (length pairs) (omega arith) p qs
          (universe-has system p qs),
    )
