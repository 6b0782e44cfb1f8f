-- Tables of truths, and how they grow by a step.
use Rattle.std.proofs.Common.{◌≡◌, ◌∙◌, ◌⊎◌, inl, inr, ℕ, ◌+◌, ◌<◌, ◌↔◌, Bool, true, false, List, [], ◌∷◌, ◌++◌, length, take, replicate, Contains, slice_set, get_or, refl, sym, ap, subst, arith}
use Rattle.std.specs.Prelude.{if◌then◌else◌}
use Rattle.std.proofs.lemmas.Bool.{cases_eq}
use Rattle.std.proofs.lemmas.Grind.{get_or-set_at}
use Rattle.std.proofs.lemmas.List.{get_or_default, get_or-replicate, get_or-set_other, length-replicate, length-set, take_more}
use Rattle.std.proofs.lemmas.List.Elements.{All-contains, Contains-append_left, Contains-push, Contains-push_cases}
use Rattle.spectro_spec.specs.System.{Label, Step, System, IsWhole}
use Rattle.spectro_eval.specs.StateTables.{IsTrueAt, IsBefore}
use Rattle.spectro_eval.specs.StepsByLabel.{AreEndsUnder}
use Rattle.spectro_eval.specs.declared.steps.Ends.{Ends}

-- from s one of the steps leads to where the table is true
abbrev pub ReachesTrue : List Ends → List Bool → ℕ → Type 0
ReachesTrue ends table s = (t : ℕ) × Contains ends (record { from = s; to = t }) × IsTrueAt table t

-- the second table is true exactly where one of the steps leads to where the first is
pub record IsMarked (ends : List Ends) (table before : List Bool) : Type 0 where
  pub reaches : (s : ℕ) → s < length before → IsTrueAt before s ↔ ReachesTrue ends table s

-- a fresh table is false everywhere
fresh : (n s : ℕ) → s < length (replicate n false) → IsTrueAt (replicate n false) s → ⊥
fresh n s within marked =
    let inside : s < n = omega (arith, length-replicate n false) in
    let unmarked = get_or-replicate n s false false inside in
    cc

-- no step leads anywhere
pub marked_none : (table : List Bool) (n : ℕ) → IsMarked [] table (replicate n false)
marked_none table n = record { reaches = λ s within. (λ marked. absurd (fresh n s within marked), λ (t, (place, inside, at), marked). absurd (omega arith)) }

leads_on : (ends : List Ends) (step : Ends) (table : List Bool) (s : ℕ) → ReachesTrue ends table s → ReachesTrue (ends ++ step ∷ []) table s
leads_on ends step table s (t, here, marked) = (t, Contains-append_left ends (step ∷ []) (record { from = s; to = t }) here, marked)

-- a step to where the table is true
marked_push : (ends : List Ends) (step : Ends) (table before : List Bool) → IsMarked ends table before → IsTrueAt table step.to
    → IsMarked (ends ++ step ∷ []) table (slice_set before step.from true)
marked_push ends step table before old there = record {
  reaches = λ s within. let inside : s < length before = omega (arith, length-set {A = Bool}) in
      (marked s inside, unmarked s inside);
}
  where
    marked : (s : ℕ) → s < length before → IsTrueAt (slice_set before step.from true) s → ReachesTrue (ends ++ step ∷ []) table s
    marked s inside is = by (cases_eq s step.from)
      where
        by : (s ≡ step.from) ⊎ (s ≡ step.from → ⊥) → ReachesTrue (ends ++ step ∷ []) table s
        by (inl e) =
            let whole : step ≡ record { from = s; to = step.to } = rw e refl in
            (step.to, subst (Contains (ends ++ step ∷ [])) whole (Contains-push ends step), there)
        by (inr e) = leads_on ends step table s ((old.reaches s inside).0 (sym (get_or-set_other before step.from s true false e) ∙ is))

    unmarked : (s : ℕ) → s < length before → ReachesTrue (ends ++ step ∷ []) table s → IsTrueAt (slice_set before step.from true) s
    unmarked s inside (t, here, is) = by (cases_eq s step.from) (Contains-push_cases ends step (record { from = s; to = t }) here)
      where
        by : (s ≡ step.from) ⊎ (s ≡ step.from → ⊥) → Contains ends (record { from = s; to = t }) ⊎ (step ≡ record { from = s; to = t })
            → IsTrueAt (slice_set before step.from true) s
        by (inl e) other = get_or-set_at before step.from s true false e (subst (λ s. s < length before) e inside)
        by (inr e) (inl earlier) = get_or-set_other before step.from s true false e ∙ (old.reaches s inside).1 (t, earlier, is)
        by (inr e) (inr this) = absurd (e (sym (ap (λ (step : Ends). step.from) this)))

-- a step to where the table is false
skipped_push : (ends : List Ends) (step : Ends) (table before : List Bool) → IsMarked ends table before → ¬ IsTrueAt table step.to
    → IsMarked (ends ++ step ∷ []) table before
skipped_push ends step table before old other = record {
  reaches = λ s within.
      (λ is. leads_on ends step table s ((old.reaches s within).0 is), unmarked s within);
}
  where
    unmarked : (s : ℕ) → s < length before → ReachesTrue (ends ++ step ∷ []) table s → IsTrueAt before s
    unmarked s inside (t, here, is) = by (Contains-push_cases ends step (record { from = s; to = t }) here)
      where
        by : Contains ends (record { from = s; to = t }) ⊎ (step ≡ record { from = s; to = t }) → IsTrueAt before s
        by (inl earlier) = (old.reaches s inside).1 (t, earlier, is)
        by (inr this) = absurd (other (subst (IsTrueAt table) (sym (ap (λ (step : Ends). step.to) this)) is))

-- ---- one more step, by place
-- what is read past the end
abbrev pub no_ends : Ends
no_ends = record { from = 0; to = 0 }

pub marked_more : (ends : List Ends) (k : ℕ) (table before : List Bool) (set : Bool) → k < length ends → IsMarked (take k ends) table before
    → get_or table (get_or ends k no_ends).to false ≡ set
    → IsMarked (take (k + 1) ends) table (if set then slice_set before (get_or ends k no_ends).from true else before)
marked_more ends k table before true within old there = rw (take_more ends k no_ends within)
    (marked_push (take k ends) (get_or ends k no_ends) table before old there)
marked_more ends k table before false within old unset = rw (take_more ends k no_ends within)
    (skipped_push (take k ends) (get_or ends k no_ends) table before old (λ set. cc))

-- ---- the steps under a label
pub before_marked : (steps : List Step) (label : Label) (ends : List Ends) (table before : List Bool) → AreEndsUnder steps label ends
    → IsMarked ends table before → IsBefore steps label table before
before_marked steps label ends table before under marked = record {
  leads = λ s within. (
    λ is. let (t, here, there) = (marked.reaches s within).0 is in (t, under.only s t here, there),
    λ (t, here, there). (marked.reaches s within).1 (t, under.each s t here, there),
  );
}

-- the ends of a step under the label are states
pub record AreStates (states : ℕ) (step : Ends) : Type 0 where
  pub from : step.from < states
  pub to : step.to < states

pub are_states : (system : System) (label : Label) (ends : List Ends) (k : ℕ) → IsWhole system → AreEndsUnder system.steps label ends → k < length ends
    → AreStates system.states (get_or ends k no_ends)
are_states system label ends k whole under within =
    let step = get_or ends k no_ends in
    let here = under.only step.from step.to (k, within, get_or_default ends k step no_ends within) in
    let origin : Step = record { source = step.from; label = label; target = step.to } in
    record {
      from = All-contains (λ (step : Step). step.source < system.states) system.steps origin whole.sources here;
      to = All-contains
          (λ (step : Step). step.target < system.states) system.steps origin whole.targets here;
    }
