-- Keys in a set: found by themselves, and put last where they are new.
use Rattle.std.proofs.Common.{◌≡◌, ◌∙◌, inl, inr, ℕ, List, [], ◌∷◌, ◌++◌, refl, sym, ap, subst, Bool, true, false, cond, ◌&&◌, nat_eq, Some, position, get_or, Contains}
use Rattle.std.specs.Prelude.{◌↔◌}
use Rattle.std.specs.List.{list_any}
use Rattle.std.proofs.lemmas.Bool.{eqb-true, eq-eqb, and_parts, and_from}
use Rattle.std.proofs.lemmas.List.Elements.{Contains-append_left, Contains-append_cases, Contains-push}
use Rattle.std.proofs.lemmas.List.Quantifiers.{position-Some}
use Rattle.std.proofs.lemmas.Map.Views.{Contains-from_any}
use Rattle.std.proofs.lemmas.Option.{slice_get-get_or}
use Rattle.spectro_spec.proofs.Members.{Contains-none, only_member}
use Rattle.spectro_game.specs.Reached.{StandsAt}
use Rattle.spectro_theory.proofs.Places.{Contains-stands, StandsIn-member, stands-left}
use Rattle.spectro_build.specs.Needs.{ArePut, IsPut}
use Rattle.spectro_build.specs.declared.key.Key.{Key}
use Rattle.indexmap.specs.IndexSet.{insert_key}

-- how the machine compares two keys for equality
abbrev pub is_same_key : Key → Key → Bool
is_same_key x y = nat_eq x.height y.height && (nat_eq x.pair y.pair && nat_eq x.place y.place)

pub same_key-equal : (x y : Key) → is_same_key x y ≡ true → x ≡ y
same_key-equal x y same =
    let first = and_parts (nat_eq x.height y.height) (nat_eq x.pair y.pair && nat_eq x.place y.place) same in
    let both = and_parts (nat_eq x.pair y.pair) (nat_eq x.place y.place) first.1 in
    let height : x.height ≡ y.height = eqb-true x.height y.height first.0 in
    let pair : x.pair ≡ y.pair = eqb-true x.pair y.pair both.0 in
    let place : x.place ≡ y.place = eqb-true x.place y.place both.1 in
    (λ i. record { height = height i; pair = pair i; place = place i })

pub same_key-itself : (x : Key) → is_same_key x x ≡ true
same_key-itself x = and_from (nat_eq x.height x.height) (nat_eq x.pair x.pair && nat_eq x.place x.place) (eq-eqb x.height x.height refl)
    (and_from (nat_eq x.pair x.pair) (nat_eq x.place x.place) (eq-eqb x.pair x.pair refl) (eq-eqb x.place x.place refl))

-- a key that is found stands at that place
pub found-key : (key : Key) (keys : List Key) (k : ℕ) → position (is_same_key key) keys ≡ Some k → StandsAt keys k key
found-key key keys k found =
    let at = position-Some (is_same_key key) keys k key found in
    slice_get-get_or keys k key at.0 ∙ ap Some (sym (same_key-equal key (get_or keys k key) at.1))

-- a key that is put is there, and the others stay
pub put-key : (keys : List Key) (key : Key) → IsPut keys key (insert_key is_same_key keys key)
put-key keys key = by (list_any (is_same_key key) keys) refl
  where
    by : (b : Bool) → list_any (is_same_key key) keys ≡ b → IsPut keys key (cond b keys (keys ++ key ∷ []))
    by true is = record { there = Contains-from_any same_key-equal key keys is; kept = λ i other here. here; only = λ other member. inl member }
    by false is = record {
      there = Contains-push keys key;
      kept = λ i other here. stands-left keys (key ∷ []) i other here;
      only = λ other member. elim (Contains-append_cases keys (key ∷ []) other member) [
        | inl old ↦ inl old
        | inr last ↦ inr (only_member (λ z. z ≡ key) key other refl last)
      ];
    }

-- what was there is there
pub kept-member : (old new : List Key) → ((i : ℕ) (other : Key) → StandsAt old i other → StandsAt new i other) → (key : Key) → Contains old key
    → Contains new key
kept-member old new kept key member = let (i, here) = StandsIn-member old key member in Contains-stands new key (i, kept i key here)

-- keys one after the other
pub put-none : (keys : List Key) → ArePut keys [] keys
put-none keys = record { there = λ key none. absurd (Contains-none key none); kept = λ i other here. here; only = λ other member. inl member }

pub put-more : (old keys mid new : List Key) (key : Key) → ArePut old keys mid → IsPut mid key new → ArePut old (keys ++ key ∷ []) new
put-more old keys mid new key before put = record {
  there = λ other member. elim (Contains-append_cases keys (key ∷ []) other member) [
    | inl earlier ↦ kept-member mid new put.kept other (before.there other earlier)
    | inr last ↦ only_member (Contains new) key other put.there last
  ];
  kept = λ i other here. put.kept i other (before.kept i other here);
  only = λ other member. elim (put.only other member) [
    | inl there ↦ elim (before.only other there) [
      | inl first ↦ inl first
      | inr earlier ↦ inr (Contains-append_left keys (key ∷ []) other earlier)
    ]
    | inr same ↦ inr (subst (Contains (keys ++ key ∷ [])) (sym same) (Contains-push keys key))
  ];
}

pub put-one : (old new : List Key) (key : Key) → IsPut old key new → ArePut old (key ∷ []) new
put-one old new key put = put-more old [] old new key (put-none old) put

-- from nothing these are the keys that were put
pub put-members : (keys new : List Key) → ArePut [] keys new → (key : Key) → Contains keys key ↔ Contains new key
put-members keys new put key = (
  put.there key,
  (λ member. elim (put.only key member) [
    | inl none ↦ absurd (Contains-none key none)
    | inr there ↦ there
  ]),
)
