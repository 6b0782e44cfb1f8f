-- The backward step reads a table at the followers of its pair alone, and makes more of a table that lists more.
-- So a pair none of whose followers changed in a generation does not change in the next: it need not be marked.
use Rattle.std.proofs.Common.{ℕ, zero, suc, ◌≡◌, ◌≢◌, inl, inr, List, [], ◌∷◌, refl, sym, ap, subst, Contains, false}
use Rattle.std.specs.Bool.{Decides}
use Rattle.std.specs.Str.{bytes_eq}
use Rattle.std.proofs.lemmas.Bool.Decides.{Decides-and, Decides-not, Decides-like, not_from_Decides}
use Rattle.std.proofs.lemmas.Slice.Eq.{bytes_eq-Decides}
use Rattle.spectro_spec.specs.System.{System, post}
use Rattle.spectro_spec.specs.Weighing.{Weighing, weight_of}
use Rattle.spectro_spec.specs.Price.{Price, IsAtMost, parts}
use Rattle.spectro_spec.specs.LeastPrices.{Covers}
use Rattle.spectro_game.specs.Update.{inverse, observe, to_deepest, to_other, to_positive, to_negative}
use Rattle.spectro_game.specs.Pairs.{Pair, followers, IsFollower}
use Rattle.spectro_game.specs.BackwardStep.{Listing, ListsAtMost, AffordsClause, AffordsSplit, Affords}
use Rattle.spectro_game.specs.Generations.{Table, members_of, backward_step, generation}
use Rattle.spectro_game.specs.Marks.{is_same_list, has_changed, is_marked}
use Rattle.spectro_theory.specs.LawsOfGenerations.{HasChangedFollower}
use Rattle.spectro_spec.proofs.Membership.{list_any-has, list_any-cases}
use Rattle.spectro_theory.proofs.PriceOrder.{IsAtMost-refl, IsAtMost-trans, inverse-monotone}
use Rattle.spectro_theory.proofs.LeastLists.{same_by_cover}
use Rattle.spectro_theory.proofs.MinimalElements.{by_test, parts-injective}
use Rattle.spectro_theory.proofs.Divided.{divided_at, Contains-right}
use Rattle.spectro_theory.proofs.Followers.{follows_observed, follows_subset, follows_swapped}
use Rattle.spectro_theory.proofs.BackwardSteps.{backward_step-affords, affords-backward_step, backward_step-rises, backward_step-apart}

-- what is afforded grows with what is listed at the followers
module _ (weighing : Weighing) (system : System) (listing other : Listing) (p : ℕ) (qs : List ℕ)
    (low : (p' : ℕ) (qs' : List ℕ) (f : Price) → IsFollower system p qs p' qs' → listing p' qs' f → ListsAtMost other p' qs' f) where
  clause_grows : (q : ℕ) (e : Price) → Contains qs q → AffordsClause listing p q e → AffordsClause other p q e
  clause_grows q e member (inl (f, listed, below)) =
      let one = divided_at qs q member in
      let g = low p (q ∷ []) f (follows_subset system p qs (q ∷ []) one.0 (λ none. cc) one.1) listed in
      inl (
        g.0,
        g.1,
        IsAtMost-trans
            (inverse-monotone to_other (inverse to_positive g.0) (inverse to_positive f) (inverse-monotone to_positive g.0 f g.2)) below,
      )
  clause_grows q e member (inr (apart, (f, listed, below))) =
      let g = low q (p ∷ []) f (follows_swapped system p qs q member apart) listed in
      inr (
        apart,
        (
          g.0,
          g.1,
          IsAtMost-trans
              (inverse-monotone to_other (inverse to_negative g.0) (inverse to_negative f) (inverse-monotone to_negative g.0 f g.2)) below,
        ),
      )

  split_grows : (e : Price) → AffordsSplit listing p qs e → AffordsSplit other p qs e
  split_grows e (left, right, divided, deepest, clauses) =
      (left, right, divided, lower, λ q member. clause_grows q e (Contains-right divided q member) (clauses q member))
    where
      lower : left ≢ [] → (f : Price) × other p left f × IsAtMost (inverse to_deepest f) e
      lower some =
          let (f, listed, below) = deepest some in
          let g = low p left f (follows_subset system p qs left right some divided) listed in
          (g.0, g.1, IsAtMost-trans (inverse-monotone to_deepest g.0 f g.2) below)

  pub Affords-grows : (e : Price) → Affords weighing system listing p qs e → Affords weighing system other p qs e
  Affords-grows e (inl (label, t, step, (f, listed, below))) =
      let g = low t (post system qs label) f (follows_observed system p qs label t step) listed in
      inl (label, t, step, (g.0, g.1, IsAtMost-trans (inverse-monotone (observe (weight_of weighing label)) g.0 f g.2) below))
  Affords-grows e (inr (b, split, below)) = inr (b, split_grows b split, below)

module _ (weighing : Weighing) (system : System) where
  covers_alike : (table other : Table) (p : ℕ) (qs : List ℕ) → ((p' : ℕ) (qs' : List ℕ) → IsFollower system p qs p' qs' → table p' qs' ≡ other p' qs')
      → (e : Price) → Covers (backward_step weighing system table p qs) e → Covers (backward_step weighing system other p qs) e
  covers_alike table other p qs same e covered =
      affords-backward_step weighing system other p qs e
      (Affords-grows weighing system (members_of table) (members_of other) p qs
      (λ p' qs' f follows member. (f, subst (λ es. Contains es f) (same p' qs' follows) member, IsAtMost-refl f)) e
      (backward_step-affords weighing system table p qs e covered))

  -- tables that agree at the followers of a pair make the same step there
  pub backward_step-local : (table other : Table) (p : ℕ) (qs : List ℕ)
      → ((p' : ℕ) (qs' : List ℕ) → IsFollower system p qs p' qs' → table p' qs' ≡ other p' qs')
      → backward_step weighing system table p qs ≡ backward_step weighing system other p qs
  backward_step-local table other p qs same = same_by_cover (backward_step weighing system table p qs) (backward_step weighing system other p qs)
      (backward_step-rises weighing system table p qs) (backward_step-rises weighing system other p qs)
      (backward_step-apart weighing system table p qs) (backward_step-apart weighing system other p qs)
      (covers_alike table other p qs same)
      (covers_alike other table p qs (λ p' qs' follows. sym (same p' qs' follows)))

  -- a pair none of whose followers changed in a generation does not change in the next
  generation-keeps : (k p : ℕ) (qs : List ℕ)
      → ((p' : ℕ) (qs' : List ℕ) → IsFollower system p qs p' qs' → generation weighing system (suc k) p' qs' ≡ generation weighing system k p' qs')
      → generation weighing system (suc (suc k)) p qs ≡ generation weighing system (suc k) p qs
  unfolding generation
  generation-keeps k p qs same = backward_step-local (generation weighing system (suc k)) (generation weighing system k) p qs same

-- lists are the same by their test where they are equal
same_prices-Decides : (e f : Price) → Decides (bytes_eq (parts e) (parts f)) (e ≡ f)
same_prices-Decides e f = Decides-like (bytes_eq (parts e) (parts f)) (parts-injective e f) (λ is. ap parts is) (bytes_eq-Decides (parts e) (parts f))

is_same_list-Decides : (es fs : List Price) → Decides (is_same_list es fs) (es ≡ fs)
is_same_list-Decides [] [] = ((λ _. refl), λ _. refl)
is_same_list-Decides [] (f ∷ fs) = ((λ h. cc), λ h. cc)
is_same_list-Decides (e ∷ es) [] = ((λ h. cc), λ h. cc)
is_same_list-Decides (e ∷ es) (f ∷ fs) = Decides-like (is_same_list (e ∷ es) (f ∷ fs)) there back
    (Decides-and (bytes_eq (parts e) (parts f)) (is_same_list es fs) (same_prices-Decides e f) (is_same_list-Decides es fs))
  where
    there : (e ≡ f) × (es ≡ fs) → (e ∷ es) ≡ (f ∷ fs)
    there (first, later) = cc

    back : (e ∷ es) ≡ (f ∷ fs) → (e ≡ f) × (es ≡ fs)
    back is = (cc, cc)

module _ (weighing : Weighing) (system : System) (k : ℕ) (x : Pair) where
  pub has_changed-Decides : (y : Pair)
      → Decides (has_changed weighing system k y) (generation weighing system (suc k) y.state y.set ≢ generation weighing system k y.state y.set)
  has_changed-Decides y = Decides-not (is_same_list (generation weighing system (suc k) y.state y.set) (generation weighing system k y.state y.set))
      (is_same_list-Decides (generation weighing system (suc k) y.state y.set) (generation weighing system k y.state y.set))

  -- the pairs that are marked are those with such a follower
  pub is_marked-Decides : Decides (is_marked weighing system (suc k) x) (HasChangedFollower weighing system k x)
  unfolding is_marked
  is_marked-Decides = (
    (λ marked. let found = list_any-cases (has_changed weighing system k) (followers system x) marked in
        (found.0.state, found.0.set, found.1, (has_changed-Decides found.0).0 found.2)),
    (λ (p, qs, follows, differs). list_any-has (has_changed weighing system k) (followers system x) (record { state = p; set = qs }) follows
        ((has_changed-Decides (record { state = p; set = qs })).1 differs)),
  )

  later-unmarked : is_marked weighing system (suc k) x ≡ false
      → generation weighing system (suc (suc k)) x.state x.set ≡ generation weighing system (suc k) x.state x.set
  later-unmarked unmarked = generation-keeps weighing system k x.state x.set (λ p qs follows.
      by_test (λ _. generation weighing system (suc k) p qs ≡ generation weighing system k p qs)
      (is_same_list (generation weighing system (suc k) p qs) (generation weighing system k p qs))
      (is_same_list-Decides (generation weighing system (suc k) p qs) (generation weighing system k p qs))
      (λ same. same)
      (λ differs. absurd (not_from_Decides (is_marked weighing system (suc k) x) is_marked-Decides unmarked (p, qs, follows, differs))))

-- a pair that is not marked keeps its list
pub unmarked-keeps : (weighing : Weighing) (system : System) (k : ℕ) (x : Pair) → is_marked weighing system k x ≡ false
    → generation weighing system (suc k) x.state x.set ≡ generation weighing system k x.state x.set
unfolding is_marked
unmarked-keeps weighing system zero x unmarked = absurd (cc)
unmarked-keeps weighing system (suc k) x unmarked = later-unmarked weighing system k x unmarked
