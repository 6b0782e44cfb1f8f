-- One turn of closing: what the choice for one more key takes is put.
use Rattle.std.proofs.Common.{◌≡◌, ◌∙◌, inl, inr, ℕ, ◌+◌, ◌<◌, ◌≤◌, List, [], ◌∷◌, All, Contains, length, map, refl, sym, ap, subst, arith, Some}
use Rattle.std.proofs.lemmas.Bool.{cases_lt}
use Rattle.std.proofs.lemmas.List.Elements.{All-contains, All-contains_itself, All-weaker}
use Rattle.std.proofs.lemmas.Option.{same_Some}
use Rattle.spectro_spec.specs.System.{System}
use Rattle.spectro_spec.specs.Weighing.{Weighing}
use Rattle.spectro_spec.specs.Price.{Price}
use Rattle.spectro_spec.proofs.Membership.{Contains-map, Contains-map_cases}
use Rattle.spectro_game.specs.Pairs.{Pair}
use Rattle.spectro_game.specs.Generations.{Table}
use Rattle.spectro_game.specs.Reached.{StandsAt}
use Rattle.spectro_game.specs.Rows.{listed_at}
use Rattle.spectro_theory.proofs.Places.{Contains-stands, StandsIn-member, stands-below, stands-one, stands-some}
use Rattle.spectro_pairs.specs.Arenas.{FromEach}
use Rattle.spectro_pairs.specs.Explored.{Explored}
use Rattle.spectro_build.specs.Choices.{Need, ClauseNeed, Choice, choice_at, taken}
use Rattle.spectro_build.specs.Chosen.{clause_at}
use Rattle.spectro_build.specs.Kept.{keys_of_clauses, keys_taken, kept_choice}
use Rattle.spectro_build.specs.Keys.{IsKey, need_at, needs_at}
use Rattle.spectro_build.specs.Needed.{AreClosed, AreNeeded, IsNeeded, as_taken, as_wanted}
use Rattle.spectro_build.specs.Needs.{ArePut}
use Rattle.spectro_build.specs.declared.choosing.Chosen.{Chosen}
use Rattle.spectro_build.specs.declared.choosing.Chosen.TheVariants.{Observed, Split}
use Rattle.spectro_build.specs.declared.clauses.SignedKey.{SignedKey}
use Rattle.spectro_build.specs.declared.key.Key.{Key}
use Rattle.spectro_build.proofs.KeySets.{kept-member}
use Rattle.spectro_build.proofs.NeededSets.{needed-within}

-- what a choice takes is what its keys stand for
taken-clauses : (pairs : List Pair) (rows : List (List Price)) (clauses : List SignedKey)
    → map (λ (clause : ClauseNeed). clause.need) (map (clause_at pairs rows) clauses) ≡ needs_at pairs rows (keys_of_clauses clauses)
taken-clauses pairs rows [] = refl
taken-clauses pairs rows (clause ∷ clauses) = ap (λ l. need_at pairs rows clause.key ∷ l) (taken-clauses pairs rows clauses)

pub taken-kept : (system : System) (pairs : List Pair) (rows : List (List Price)) (clauses : List SignedKey) (chosen : Chosen)
    → taken (kept_choice system pairs rows clauses chosen) ≡ needs_at pairs rows (keys_taken clauses chosen)
taken-kept system pairs rows clauses (Observed seen) = refl
taken-kept system pairs rows clauses Split = taken-clauses pairs rows clauses

-- what the choice takes for the first n of the keys is among them
abbrev pub AreClosedTo : Weighing → System → Table → List Pair → List (List Price) → List Key → ℕ → Type 0
AreClosedTo weighing system table pairs rows keys n =
    (j : ℕ) (key : Key) (choice : Choice) (y : Need) → j < n → StandsAt keys j key → choice_at weighing system table (need_at pairs rows key) ≡ Some choice
    → Contains (taken choice) y → Contains (needs_at pairs rows keys) y

-- the keys have the old ones, are needed for these, and are closed up to n
pub record IsClosing (explored : Explored) (rows : List (List Price)) (old keys : List Key) (n : ℕ) : Type 0 where
  pub keyed : All (IsKey rows) keys
  pub wanted : (key : Key) → Contains old key → Contains keys key
  pub needed : FromEach explored (λ system weighing. (key : Key) → Contains keys key
      → IsNeeded weighing system (listed_at explored.pairs rows) (needs_at explored.pairs rows old) (need_at explored.pairs rows key))
  pub closed : FromEach explored (λ system weighing. AreClosedTo weighing system (listed_at explored.pairs rows) explored.pairs rows keys n)

pub closing-begins : (explored : Explored) (rows : List (List Price)) (keys : List Key) → All (IsKey rows) keys → IsClosing explored rows keys keys 0
closing-begins explored rows keys keyed = record {
  keyed = keyed;
  wanted = λ key member. member;
  needed = λ system weighing starts source key member.
      as_wanted (need_at explored.pairs rows key) (Contains-map (need_at explored.pairs rows) keys key member);
  closed = λ system weighing starts source j key choice y before here is member. absurd (omega arith);
}

module _ (explored : Explored) (rows : List (List Price)) (old keys new : List Key) (n : ℕ) (closing : IsClosing explored rows old keys n) (key : Key)
    (here : StandsAt keys n key)
    (clauses : List SignedKey) (chosen : Chosen)
    (choice : FromEach explored (λ system weighing. choice_at weighing system (listed_at explored.pairs rows) (need_at explored.pairs rows key)
    ≡ Some (kept_choice system explored.pairs rows clauses chosen)))
    (keyed : All (IsKey rows) (keys_taken clauses chosen)) (put : ArePut keys (keys_taken clauses chosen) new) where
  still : (x : Need) → Contains (needs_at explored.pairs rows keys) x → Contains (needs_at explored.pairs rows new) x
  still x member =
      let (other, there, same) = Contains-map_cases (need_at explored.pairs rows) keys x member in
      subst (Contains (needs_at explored.pairs rows new)) same
      (Contains-map (need_at explored.pairs rows) new other (kept-member keys new put.kept other there))

  pub closing-goes_on : IsClosing explored rows old new (n + 1)
  closing-goes_on = record {
    keyed = All-weaker (Contains new) (IsKey rows) (λ other member. elim (put.only other member) [
      | inl before ↦ All-contains (IsKey rows) keys other closing.keyed before
      | inr now ↦ All-contains (IsKey rows) (keys_taken clauses chosen) other keyed now
    ]) new (All-contains_itself new);
    wanted = λ other member. kept-member keys new put.kept other (closing.wanted other member);
    needed = λ system weighing starts source other member. elim (put.only other member) [
      | inl before ↦ closing.needed system weighing starts source other before
      | inr now ↦
          as_taken (need_at explored.pairs rows key) (kept_choice system explored.pairs rows clauses chosen) (need_at explored.pairs rows other)
          (closing.needed system weighing starts source key (Contains-stands keys key (n, here))) (choice system weighing starts source)
          (subst (λ l. Contains l (need_at explored.pairs rows other)) (sym (taken-kept system explored.pairs rows clauses chosen))
          (Contains-map (need_at explored.pairs rows) (keys_taken clauses chosen) other now))
    ];
    closed = λ system weighing starts source j other made y before there is member. elim (cases_lt j n) [
      | inl earlier ↦
          let (first, stands) = stands-some keys j (let end = stands-below keys n key here in omega (arith, end, earlier)) in
          let same : first ≡ other = stands-one new j first other (put.kept j first stands) there in
          still y (closing.closed system weighing starts source j other made y earlier (subst (StandsAt keys j) same stands) is member)
      | inr now ↦
          let at : j ≡ n = omega arith in
          let same : key ≡ other = stands-one new n key other (put.kept n key here) (subst (λ k. StandsAt new k other) at there) in
          let one : kept_choice system explored.pairs rows clauses chosen ≡ made = same_Some (kept_choice system explored.pairs rows clauses chosen) made
          (sym (choice system weighing starts source)
          ∙ ap (λ z. choice_at weighing system (listed_at explored.pairs rows) (need_at explored.pairs rows z)) same ∙ is) in
          let took : Contains (needs_at explored.pairs rows (keys_taken clauses chosen)) y =
          subst (λ l. Contains l y) (taken-kept system explored.pairs rows clauses chosen) (subst (λ z. Contains (taken z) y) (sym one) member) in
          let (last, put_now, stood) = Contains-map_cases (need_at explored.pairs rows) (keys_taken clauses chosen) y took in
          subst (Contains (needs_at explored.pairs rows new)) stood (Contains-map (need_at explored.pairs rows) new last (put.there last put_now))
    ];
  }

-- closed to the end they are just what is needed
pub closing-ends : (explored : Explored) (rows : List (List Price)) (old keys : List Key) (n : ℕ) → IsClosing explored rows old keys n → length keys ≤ n
    → FromEach explored (λ system weighing. AreNeeded weighing system (listed_at explored.pairs rows) (needs_at explored.pairs rows old)
    (needs_at explored.pairs rows keys))
closing-ends explored rows old keys n closing whole system weighing starts source x = (
  (λ member.
      let (key, there, same) = Contains-map_cases (need_at explored.pairs rows) keys x member in
      subst (IsNeeded weighing system (listed_at explored.pairs rows) (needs_at explored.pairs rows old)) same
      (closing.needed system weighing starts source key there)),
  needed-within weighing system (listed_at explored.pairs rows) (needs_at explored.pairs rows old) (Contains (needs_at explored.pairs rows keys))
      (λ y member.
      let (key, there, same) = Contains-map_cases (need_at explored.pairs rows) old y member in
      subst (Contains (needs_at explored.pairs rows keys)) same (Contains-map (need_at explored.pairs rows) keys key (closing.wanted key there)))
      (λ y choice z member is takes.
      let (key, there, same) = Contains-map_cases (need_at explored.pairs rows) keys y member in
      let (j, stands) = StandsIn-member keys key there in
      closing.closed system weighing starts source j key choice z (let below = stands-below keys j key stands in omega (arith, below, whole)) stands
      (ap (choice_at weighing system (listed_at explored.pairs rows)) same ∙ is) takes)
      x,
)

-- what is needed is closed
pub needed-closed : (weighing : Weighing) (system : System) (table : Table) (wanted needs : List Need) → AreNeeded weighing system table wanted needs
    → AreClosed weighing system table needs
needed-closed weighing system table wanted needs needed x choice y member is takes =
    (needed y).1 (as_taken x choice y ((needed x).0 member) is takes)
