-- A list of prices that is gone through by place, for each notion of a table.
use Rattle.std.proofs.Common.{inl, inr, ◌≡◌, ◌∙◌, ◌+◌, ◌<◌, ℕ, suc, List, [], ◌∷◌, ◌++◌, Contains, get_or, length, take, drop, ap, sym, subst, refl}
use Rattle.std.specs.Prelude.{Option, None, Some, slice_get, slice_index_or}
use Rattle.std.specs.List.{AllZip}
use Rattle.std.proofs.Math.Seq.{split_at}
use Rattle.std.proofs.lemmas.List.{take_more}
use Rattle.std.proofs.lemmas.List.Elements.{Contains-append_cases}
use Rattle.std.proofs.lemmas.Option.{get_or_from_slice_get, slice_get_within}
use Rattle.spectro_spec.specs.Price.{Price}
use Rattle.spectro_spec.specs.Notion.{Bound, Notion, IsWithin}
use Rattle.spectro_spec.proofs.Members.{Contains-cases, Contains-none}
use Rattle.spectro_theory.specs.LawsOfNotions.{IsFirstWithin}
use Rattle.spectro_notions.specs.Tables.{bound_at}
use Rattle.spectro_report.specs.Firsts.{AreFirsts, IsFirst}

-- no price before the place is within the bound
abbrev pub NoneBefore : List Price → Bound → ℕ → Type 0
NoneBefore es bound k = (e : Price) → Contains (take k es) e → ¬ IsWithin e bound

module _ (es : List Price) (bound : Bound) (k : ℕ) (e : Price) (below : k < length es) (is : e ≡ slice_index_or es k e) where
  pub none-more : ¬ IsWithin e bound → NoneBefore es bound k → NoneBefore es bound (k + 1)
  none-more out none f member within =
      let more : take (k + 1) es ≡ take k es ++ e ∷ [] = take_more es k e below ∙ ap (λ g. take k es ++ g ∷ []) (sym is) in
      elim (Contains-append_cases (take k es) (e ∷ []) f (subst (λ fs. Contains fs f) more member)) [
        | inl before ↦ none f before within
        | inr last ↦ elim (Contains-cases e [] f last) [
          | inl same ↦ out (subst (λ g. IsWithin g bound) (sym same) within)
          | inr later ↦ Contains-none f later
        ]
      ]

  pub first-at : IsWithin e bound → NoneBefore es bound k → IsFirstWithin bound es e
  first-at within none = record {
    before = take k es;
    after = drop (suc k) es;
    whole = split_at es k e below ∙ ap (λ f. take k es ++ f ∷ drop (suc k) es) (sym is);
    within = within;
    none_before = none;
  }

-- what is so of each two, is so with two more behind them
pub AllZip-more : {A B : Type 0} (R : A → B → Type 0) (xs : List A) (ys : List B) (x : A) (y : B) → AllZip R xs ys → R x y
    → AllZip R (xs ++ x ∷ []) (ys ++ y ∷ [])
AllZip-more R [] [] x y all more = (more, tt)
AllZip-more R [] (b ∷ ys) x y all more = absurd all
AllZip-more R (a ∷ xs) [] x y all more = absurd all
AllZip-more R (a ∷ xs) (b ∷ ys) x y all more = (all.0, AllZip-more R xs ys x y all.1 more)

-- with what is found for the notion at the place, it is found for one more
pub firsts-more : (es : List Price) (table : List Notion) (k : ℕ) (bound : Bound) (first : Option Price) (firsts : List (Option Price))
    → bound_at table k ≡ Some bound → IsFirst es bound first → AreFirsts es (take k table) firsts → AreFirsts es (take (k + 1) table) (firsts ++ first ∷ [])
firsts-more es table k bound first firsts at is found = go (slice_get table k) refl
  where
    go : (one : Option Notion) → slice_get table k ≡ one → AreFirsts es (take (k + 1) table) (firsts ++ first ∷ [])
    go None here = absurd (cc)
    go (Some notion) here =
        let below : k < length table = slice_get_within table k notion here in
        let read : get_or table k notion ≡ notion = get_or_from_slice_get table k notion notion here in
        let more : take (k + 1) table ≡ take k table ++ notion ∷ [] = take_more table k notion below ∙ ap (λ one. take k table ++ one ∷ []) read in
        let same : notion.bound ≡ bound = cc in
        subst (λ notions. AreFirsts es notions (firsts ++ first ∷ [])) (sym more)
        (AllZip-more (λ (one : Notion) found. IsFirst es one.bound found) (take k table) firsts notion first found
        (subst (λ b. IsFirst es b first) (sym same) is))
