-- The loop over the pairs: how it begins, goes on and ends.
use Rattle.std.proofs.Common.{ℕ, ◌+◌, ◌<◌, ◌≤◌, ◌≡◌, ◌≢◌, List, [], ◌∷◌, ◌++◌, length, map, take, slice_get, refl, sym, ap, ◌∙◌, subst, arith, All}
use Rattle.std.proofs.lemmas.List.{take_all}
use Rattle.spectro_spec.specs.System.{System}
use Rattle.spectro_spec.specs.Weighing.{Weighing, IsWeighing, weight_of}
use Rattle.spectro_game.specs.Pairs.{Pair, AreReachedPairs, followers, size}
use Rattle.spectro_lts.specs.Labels.{labels_of}
use Rattle.spectro_theory.specs.Reaching.{AreReachedPairsTo, StandOnce, is_same_pair, with_all, with_last}
use Rattle.spectro_theory.proofs.Places.{stands-below, stands-some}
use Rattle.spectro_theory.proofs.PutLast.{length-with_all, with_all-grows}
use Rattle.spectro_theory.proofs.Reaching.{fronts-begin, put_last, reaching-begins, reaching-ends, reaching-goes_on}
use Rattle.spectro_pairs.specs.declared.error.ExploreError.{ExploreError}
use Rattle.spectro_pairs.specs.declared.exploration.Exploration.{Exploration}
use Rattle.spectro_pairs.specs.Explored.{IsExploredFrom, IsPairWithin, NameRows, observed_labels, start_pair, start_pairs}
use Rattle.spectro_pairs.specs.Growth.{AreExplored, ArePosts, HasExpanded, HasStarted, IsPastFollowers, IsPastWith}
use Rattle.spectro_pairs.specs.Interned.{Interned}
use Rattle.spectro_pairs.specs.Lattices.{AreLattices}
use Rattle.spectro_pairs.specs.Limits.{IsPastLimit}
use Rattle.spectro_rows.specs.Rows.{RowList}
use Rattle.spectro_pairs.proofs.Growths.{past-above}
use Rattle.spectro_pairs.proofs.NamedRows.{first-more, length-named_rows, rows-below, rows-grow, rows-more}

-- ---- the starts
none-once : StandOnce {X = Pair} []
none-once i j x here also = cc

starts-once : (starts : List (ℕ × ℕ)) → StandOnce (start_pairs starts)
starts-once starts = (put_last [] (map start_pair starts)).once none-once

starts-some : (starts : List (ℕ × ℕ)) → starts ≢ [] → 1 ≤ length (start_pairs starts)
unfolding with_all with_last
starts-some [] some = absurd (some refl)
starts-some (start ∷ starts) some = length-with_all is_same_pair (map start_pair starts) (start_pair start ∷ [])

module _ (system : System) (starts : List (ℕ × ℕ)) where
  started : AreReachedPairsTo system (start_pairs starts) (start_pairs starts) 0
  started = reaching-begins system (start_pairs starts) (starts-once starts)

  -- nothing is explored yet
  pub explored-none : (a b : Exploration) (limit : ℕ) → a.pairs ≡ record { states = system.states; limit = limit; sets = []; pairs = [] }
      → a.followers ≡ record { rows = []; last = [] }
      → a.labels ≡ record { rows = []; last = [] } → HasStarted a b (map start_pair starts) → ArePosts system b
      → AreLattices a.pairs.pairs a.lattices → AreExplored system starts b 0
  explored-none a b limit none no_followers no_labels has posts kept = record {
    states = has.states ∙ ap (λ (p : Interned). p.states) none;
    posts = posts;
    lattices = has.lattices kept;
    reached =
        subst (λ l. AreReachedPairsTo system (start_pairs starts) l 0)
        (sym (has.pairs ∙ ap (λ (p : Interned). with_all is_same_pair p.pairs (map start_pair starts)) none)) started;
    followers_closed = ap (λ (r : RowList ℕ). r.last) (has.followers ∙ no_followers);
    followers = ap (λ (r : RowList ℕ). map (map (slice_get b.pairs.pairs)) r.rows) (has.followers ∙ no_followers);
    labels_closed = ap (λ (r : RowList ℕ). r.last) (has.labels ∙ no_labels);
    labels = ap (λ (r : RowList ℕ). map (map (slice_get (labels_of system.steps))) r.rows) (has.labels ∙ no_labels);
  }

  -- ---- one pair more
  pub explored-more : (a b : Exploration) (k : ℕ) → AreExplored system starts a k → HasExpanded system a b k → ArePosts system b
      → AreExplored system starts b (k + 1)
  explored-more a b k explored has posts =
      let grown = with_all-grows is_same_pair (followers system has.x) a.pairs.pairs in
      let longer : b.pairs.pairs ≡ a.pairs.pairs ++ grown.0 = has.pairs ∙ grown.1 in
      record {
        states = has.states ∙ explored.states;
        posts = posts;
        lattices = has.lattices explored.lattices;
        reached =
            subst (λ l. AreReachedPairsTo system (start_pairs starts) l (k + 1)) (sym has.pairs)
            (reaching-goes_on system (start_pairs starts) a.pairs.pairs k has.x explored.reached has.here);
        followers_closed = ap (λ (r : RowList ℕ). r.last) has.rows;
        followers =
            subst (λ (r : RowList ℕ). NameRows b.pairs.pairs r.rows (map (followers system) (take (k + 1) b.pairs.pairs))) (sym has.rows)
            (subst (NameRows b.pairs.pairs (a.followers.rows ++ has.numbers ∷ []))
            (sym (first-more (followers system) a.pairs.pairs grown.0 b.pairs.pairs k has.x has.here longer))
            (rows-more b.pairs.pairs a.followers.rows (map (followers system) (take k a.pairs.pairs)) has.numbers (followers system has.x)
            (subst (λ l. NameRows l a.followers.rows (map (followers system) (take k a.pairs.pairs))) (sym longer)
            (rows-grow a.pairs.pairs grown.0 a.followers.rows (map (followers system) (take k a.pairs.pairs)) explored.followers)) has.named));
        labels_closed = ap (λ (r : RowList ℕ). r.last) has.label_rows;
        labels =
            subst (λ (r : RowList ℕ). NameRows (labels_of system.steps) r.rows (map (observed_labels system) (take (k + 1) b.pairs.pairs))) (sym has.label_rows)
            (subst (NameRows (labels_of system.steps) (a.labels.rows ++ has.label_nos ∷ []))
            (sym (first-more (observed_labels system) a.pairs.pairs grown.0 b.pairs.pairs k has.x has.here longer))
            (rows-more (labels_of system.steps) a.labels.rows (map (observed_labels system) (take k a.pairs.pairs)) has.label_nos
            (observed_labels system has.x) explored.labels has.labelled));
      }

  -- no pair is let go
  pub expanded-longer : (a b : Exploration) (k : ℕ) → HasExpanded system a b k → length a.pairs.pairs ≤ length b.pairs.pairs
  expanded-longer a b k has = subst (λ l. length a.pairs.pairs ≤ length l) (sym has.pairs) (length-with_all is_same_pair (followers system has.x) a.pairs.pairs)

  -- ---- past the limit
  past-front : (e : ExploreError) (limit : ℕ) (front : List Pair) (k : ℕ) → AreReachedPairsTo system (start_pairs starts) front k
      → IsPastLimit e limit (size front)
      → (pairs : List Pair) → AreReachedPairs system (start_pairs starts) pairs → IsPastLimit e limit (size pairs)
  past-front e limit front k to past pairs whole =
      past-above e limit (size front) (size pairs) (fronts-begin system (start_pairs starts) front pairs k to whole).smaller past

  pub past-starts : (e : ExploreError) (limit states : ℕ) (a : Exploration) → a.pairs ≡ record { states = states; limit = limit; sets = []; pairs = [] }
      → IsPastWith e a (map start_pair starts) → (pairs : List Pair) → AreReachedPairs system (start_pairs starts) pairs → IsPastLimit e limit (size pairs)
  past-starts e limit states a none past =
      past-front e limit (start_pairs starts) 0 started
      (subst (λ (p : Interned). IsPastLimit e p.limit (size (with_all is_same_pair p.pairs (map start_pair starts)))) none past)

  pub past-followers : (e : ExploreError) (limit : ℕ) (a : Exploration) (k : ℕ) → a.pairs.limit ≡ limit → AreExplored system starts a k
      → IsPastFollowers e system a k
      → (pairs : List Pair) → AreReachedPairs system (start_pairs starts) pairs → IsPastLimit e limit (size pairs)
  past-followers e limit a k is explored (x, here, past) =
      past-front e limit (with_all is_same_pair a.pairs.pairs (followers system x)) (k + 1)
      (reaching-goes_on system (start_pairs starts) a.pairs.pairs k x explored.reached here)
      (subst (λ n. IsPastLimit e n (size (with_all is_same_pair a.pairs.pairs (followers system x)))) is past)

  -- ---- at the end
  module _ (a : Exploration) (k : ℕ) (explored : AreExplored system starts a k) (all : k ≡ length a.pairs.pairs) where
    whole : take k a.pairs.pairs ≡ a.pairs.pairs
    whole = take_all k a.pairs.pairs (omega arith)

    all-followers : NameRows a.pairs.pairs a.followers.rows (map (followers system) a.pairs.pairs)
    all-followers = subst (λ l. NameRows a.pairs.pairs a.followers.rows (map (followers system) l)) whole explored.followers

    pub rows-all : length a.followers.rows ≡ length a.pairs.pairs
    rows-all = length-named_rows a.pairs.pairs a.followers.rows (followers system) a.pairs.pairs all-followers

    pub places-below : All (λ row. All (λ n. n < length a.followers.rows) row) a.followers.rows
    places-below =
        subst (λ m. All (λ row. All (λ n. n < m) row) a.followers.rows) (sym rows-all)
        (rows-below a.pairs.pairs a.followers.rows (map (followers system) a.pairs.pairs) all-followers)

    pub pairs-some : starts ≢ [] → 1 ≤ length a.pairs.pairs
    pairs-some some =
        let first = stands-some (start_pairs starts) 0 (omega (arith, starts-some starts some)) in
        omega (arith, stands-below a.pairs.pairs 0 first.0 (explored.reached.begins 0 first.0 first.1))

    pub explored-all : (weighing : Weighing) (weights : List ℕ) → All (IsPairWithin a.pairs.states) a.pairs.pairs
        → weights ≡ map (weight_of weighing) (labels_of system.steps) → IsWeighing weighing
        → IsExploredFrom system weighing starts (record { pairs = a.pairs.pairs; followers = a.followers.rows; labels = a.labels.rows; weights = weights })
    explored-all weighing weights within weighed proper = record {
      reached = (reaching-ends system (start_pairs starts) a.pairs.pairs).0
          (subst (AreReachedPairsTo system (start_pairs starts) a.pairs.pairs) all explored.reached);
      within = subst (λ n. All (IsPairWithin n) a.pairs.pairs) explored.states within;
      followers = all-followers;
      labels = subst (λ l. NameRows (labels_of system.steps) a.labels.rows (map (observed_labels system) l)) whole explored.labels;
      weights = weighed;
      proper = proper;
    }
