-- What is kept of sets of successors, as an exploration grows.
use Rattle.std.proofs.Common.{ℕ, ◌≡◌, ◌⊎◌, inl, inr, List, [], ◌∷◌, refl, sym, ap, ◌∙◌, subst}
use Rattle.std.specs.Str.{bytes_eq}
use Rattle.spectro_spec.specs.System.{System, post}
use Rattle.spectro_game.specs.Reached.{StandsAt}
use Rattle.spectro_theory.specs.Reaching.{with_last}
use Rattle.spectro_theory.proofs.PutLast.{stands-with_last}
use Rattle.spectro_lts.specs.Labels.{label_of}
use Rattle.spectro_pairs.specs.declared.exploration.Exploration.{Exploration}
use Rattle.spectro_pairs.specs.declared.known.Known.{Known}
use Rattle.spectro_pairs.specs.Growth.{ArePosts, KeepsPosts}
use Rattle.spectro_pairs.specs.Interned.{Interned}
use Rattle.spectro_pairs.specs.Known.{Knows}
use Rattle.spectro_pairs.proofs.Sets.{set-equal, set-itself}

-- where no number is put down, and each set keeps its own
pub posts-kept : (a b : Exploration) → b.posts ≡ a.posts → ((n : ℕ) (set : List ℕ) → StandsAt a.pairs.sets n set → StandsAt b.pairs.sets n set) → KeepsPosts a b
posts-kept a b same more system posts = record {
  wide = ap (λ (known : Known). known.width) same ∙ posts.wide;
  exact = λ q label_no n knows. more n (post system (q ∷ []) (label_of system.steps label_no))
      (posts.exact q label_no n (subst (λ known. Knows known q label_no n) same knows));
}

-- one set more
pub posts-numbered : (a : Exploration) (pairs : Interned) (set : List ℕ) → pairs ≡ record a.pairs { sets = with_last bytes_eq a.pairs.sets set }
    → KeepsPosts a (record a { pairs = pairs })
posts-numbered a pairs set numbered = posts-kept a (record a { pairs = pairs }) refl
    (λ n other here. subst (λ (p : Interned). StandsAt p.sets n other) (sym numbered)
    (stands-with_last bytes_eq set-equal set-itself a.pairs.sets set n other here))

-- the number of the set of successors of one state
pub posts-put : (system : System) (a : Exploration) (known : Known) (q label_no n : ℕ) → known.width ≡ a.posts.width
    → ((p other m : ℕ) → Knows known p other m → Knows a.posts p other m ⊎ ((p ≡ q) × (other ≡ label_no) × (m ≡ n)))
    → StandsAt a.pairs.sets n (post system (q ∷ []) (label_of system.steps label_no)) → ArePosts system a → ArePosts system (record a { posts = known })
posts-put system a known q label_no n same cases here posts = record {
  wide = same ∙ posts.wide;
  exact = λ p other m knows. elim (cases p other m knows) [
    | inl old ↦ posts.exact p other m old
    | inr (state, label, number) ↦
        subst (λ j. StandsAt a.pairs.sets j (post system (p ∷ []) (label_of system.steps other))) (sym number)
        (subst (StandsAt a.pairs.sets n) (λ i. post system (sym state i ∷ []) (label_of system.steps (sym label i))) here)
  ];
}
