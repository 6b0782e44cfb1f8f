-- The first price of a list within a bound: there is one or none, and no other.
use Rattle.std.proofs.Common.{inl, inr, ◌≡◌, ◌∙◌, ◌⊎◌, ℕ, List, [], ◌∷◌, ◌++◌, Contains, ap, sym, subst, refl, arith}
use Rattle.std.specs.Prelude.{Option, Some, None}
use Rattle.std.proofs.lemmas.Bool.{cases_lt}
use Rattle.std.proofs.lemmas.List.Elements.{Contains-append_right}
use Rattle.spectro_spec.specs.Price.{Price}
use Rattle.spectro_spec.specs.Notion.{Bound, Notion, IsUpTo, IsWithin}
use Rattle.spectro_spec.proofs.Members.{Contains-first, Contains-later, Contains-cases, Contains-none}
use Rattle.spectro_theory.specs.LawsOfNotions.{IsFirstWithin}
use Rattle.spectro_report.specs.Firsts.{IsFirst, AreFirsts, prices_found}

cases_up_to : (n : ℕ) (most : Option ℕ) → IsUpTo n most ⊎ ¬ IsUpTo n most
cases_up_to n None = inl tt
cases_up_to n (Some most) = elim (cases_lt most n) [ inl high ↦ inr (λ low. omega (arith, low, high)) | inr low ↦ inl low ]

-- a price is within a bound or not
cases_within : (e : Price) (bound : Bound) → IsWithin e bound ⊎ ¬ IsWithin e bound
cases_within e bound = elim (cases_up_to e.observations bound.observations) [
  | inr out ↦ inr (λ within. out within.observations)
  | inl observations ↦ elim (cases_up_to e.conjunctions bound.conjunctions) [
    | inr out ↦ inr (λ within. out within.conjunctions)
    | inl conjunctions ↦ elim (cases_up_to e.deepest_positive bound.deepest_positive) [
      | inr out ↦ inr (λ within. out within.deepest_positive)
      | inl deepest_positive ↦ elim (cases_up_to e.other_positive bound.other_positive) [
        | inr out ↦ inr (λ within. out within.other_positive)
        | inl other_positive ↦ elim (cases_up_to e.deepest_negative bound.deepest_negative) [
          | inr out ↦ inr (λ within. out within.deepest_negative)
          | inl deepest_negative ↦ elim (cases_up_to e.negations bound.negations) [
            | inr out ↦ inr (λ within. out within.negations)
            | inl negations ↦ inl (record {
              observations = observations;
              conjunctions = conjunctions;
              deepest_positive = deepest_positive;
              other_positive = other_positive;
              deepest_negative = deepest_negative;
              negations = negations;
            })
          ]
        ]
      ]
    ]
  ]
]

-- of a list with a member more, whose first member is not within the bound
IsFirst-later : (e : Price) (es : List Price) (bound : Bound) (first : Option Price) → ¬ IsWithin e bound → IsFirst es bound first
    → IsFirst (e ∷ es) bound first
IsFirst-later e es bound None out none = λ f member within. elim (Contains-cases e es f member) [
  | inl same ↦ out (subst (λ g. IsWithin g bound) (sym same) within)
  | inr later ↦ none f later within
]
IsFirst-later e es bound (Some f) out first = record {
  before = e ∷ first.before;
  after = first.after;
  whole = ap (λ fs. e ∷ fs) first.whole;
  within = first.within;
  none_before = λ g member within. elim (Contains-cases e first.before g member) [
    | inl same ↦ out (subst (λ h. IsWithin h bound) (sym same) within)
    | inr later ↦ first.none_before g later within
  ];
}

pub some_first : (es : List Price) (bound : Bound) → (first : Option Price) × IsFirst es bound first
some_first [] bound = (None, λ e member within. Contains-none e member)
some_first (e ∷ es) bound = elim (cases_within e bound) [
  | inl within ↦ (
    Some e,
    record { before = []; after = es; whole = refl; within = within; none_before = λ f member also. Contains-none f member },
  )
  | inr out ↦ let later = some_first es bound in (later.0, IsFirst-later e es bound later.0 out later.1)
]

pub some_firsts : (es : List Price) (table : List Notion) → (firsts : List (Option Price)) × AreFirsts es table firsts
some_firsts es [] = ([], tt)
some_firsts es (notion ∷ table) =
    let first = some_first es notion.bound in
    let others = some_firsts es table in
    (first.0 ∷ others.0, (first.1, others.1))

-- a first price within the bound is a member
pub first-member : (es : List Price) (bound : Bound) (e : Price) → IsFirstWithin bound es e → Contains es e
first-member es bound e first = subst (λ fs. Contains fs e) (sym first.whole)
    (Contains-append_right first.before (e ∷ first.after) e (Contains-first e first.after))

-- each price that is found is a member
pub found-member : (es : List Price) (table : List Notion) (firsts : List (Option Price)) → AreFirsts es table firsts
    → (e : Price) → Contains (prices_found firsts) e → Contains es e
found-member es [] [] found e member = absurd (Contains-none e member)
found-member es [] (first ∷ firsts) found e member = absurd found
found-member es (notion ∷ table) [] found e member = absurd found
found-member es (notion ∷ table) (None ∷ firsts) found e member = found-member es table firsts found.1 e member
found-member es (notion ∷ table) (Some f ∷ firsts) found e member = elim (Contains-cases f (prices_found firsts) e member) [
  | inl same ↦ subst (Contains es) same (first-member es notion.bound f found.0)
  | inr later ↦ found-member es table firsts found.1 e later
]

-- two lists that are one have one first member within the bound
one_within : (bound : Bound) (before others : List Price) (e f : Price) (after more : List Price) → before ++ e ∷ after ≡ others ++ f ∷ more
    → IsWithin e bound → IsWithin f bound
    → ((g : Price) → Contains before g → ¬ IsWithin g bound) → ((g : Price) → Contains others g → ¬ IsWithin g bound) → e ≡ f
one_within bound [] [] e f after more same within also none none_other = cc
one_within bound [] (g ∷ others) e f after more same within also none none_other =
    let e-is : e ≡ g = cc in absurd (none_other g (Contains-first g others) (subst (λ h. IsWithin h bound) e-is within))
one_within bound (g ∷ before) [] e f after more same within also none none_other =
    let f-is : f ≡ g = cc in absurd (none g (Contains-first g before) (subst (λ h. IsWithin h bound) f-is also))
one_within bound (g ∷ before) (h ∷ others) e f after more same within also none none_other =
    let rest : before ++ e ∷ after ≡ others ++ f ∷ more = cc in
    one_within bound before others e f after more rest within also (λ i member. none i (Contains-later g before i member))
    (λ i member. none_other i (Contains-later h others i member))

pub one_first : (es : List Price) (bound : Bound) (e f : Price) → IsFirstWithin bound es e → IsFirstWithin bound es f → e ≡ f
one_first es bound e f first also =
    one_within bound first.before also.before e f first.after also.after (sym first.whole ∙ also.whole) first.within also.within first.none_before
    also.none_before
