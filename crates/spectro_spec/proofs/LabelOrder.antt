-- Labels in the order of bytes: what a list of them has, and that lists in order with the same members are one.
use Rattle.std.proofs.Common.{◌≡◌, ◌∙◌, ◌⊎◌, inl, inr, ℕ, ◌==◌, nat_lt, ◌||◌, ◌&&◌, List, [], ◌∷◌, map, filter, refl, sym, ap, subst, Contains, Bool, true, false, cond, arith}
use Rattle.std.specs.Str.{bytes_eq}
use Rattle.std.specs.Ordering.{is_lt, nat_cmp, ordering_then, ordering_reverse}
use Rattle.std.specs.declared.cmp.Ordering.{Ordering}
use Rattle.std.specs.declared.cmp.Ordering.TheVariants.{Less, Equal, Greater}
use Rattle.std.specs.Cmp.Lexicographic.{slice_cmp, nat_list_cmp_total}
use Rattle.std.specs.FinMap.{nat_cmp-IsAntisymmetric, slice_cmp-IsAntisymmetric}
use Rattle.std.proofs.lemmas.Bool.{eq-eqb, eqb-true, true≢false}
use Rattle.std.proofs.lemmas.Slice.Eq.{bytes_eq-Decides}
use Rattle.spectro_spec.specs.System.{Label, Step}
use Rattle.spectro_spec.specs.LabelOrder.{is_before_text, placed_label, labels_from}
use Rattle.spectro_spec.proofs.Members.{Contains-first, Contains-later, Contains-cases, Contains-none}
use Rattle.spectro_spec.proofs.Membership.{Contains-first_is, Contains-map, Contains-map_cases, Contains-filter, Contains-filter_cases}

-- ---- the order of bytes
pub before-is : (text other : List ℕ) → is_before_text text other ≡ is_lt (slice_cmp nat_cmp text other)
before-is [] [] = refl
before-is [] (m ∷ ms) = refl
before-is (n ∷ ns) [] = refl
before-is (n ∷ ns) (m ∷ ms) = go (nat_lt n m) (n == m) (before-is ns ms)
  where
    go : (less same : Bool) → is_before_text ns ms ≡ is_lt (slice_cmp nat_cmp ns ms)
        → (less || (same && is_before_text ns ms)) ≡ is_lt (ordering_then (cond less Less (cond same Equal Greater)) (slice_cmp nat_cmp ns ms))
    go true same rest = refl
    go false true rest = rest
    go false false rest = refl

less_from : (order : Ordering) → is_lt order ≡ true → order ≡ Less
less_from Less e = refl
less_from Equal e = absurd (true≢false (sym e))
less_from Greater e = absurd (true≢false (sym e))

pub before-chain : (first second third : List ℕ) → is_before_text first second ≡ true → is_before_text second third ≡ true → is_before_text first third ≡ true
before-chain first second third one two =
    before-is first third ∙ ap is_lt (nat_list_cmp_total.trans first second third
    (less_from (slice_cmp nat_cmp first second) (sym (before-is first second) ∙ one))
    (less_from (slice_cmp nat_cmp second third) (sym (before-is second third) ∙ two)))

not_less : (n : ℕ) → nat_lt n n ≡ false
not_less n = grind arith

pub before-not_itself : (text : List ℕ) → is_before_text text text ≡ false
before-not_itself [] = refl
before-not_itself (n ∷ ns) = go (nat_lt n n) (n == n) (not_less n) (before-not_itself ns)
  where
    go : (less same : Bool) → less ≡ false → is_before_text ns ns ≡ false → (less || (same && is_before_text ns ns)) ≡ false
    go true same e rest = e
    go false true e rest = rest
    go false false e rest = refl

-- texts of which neither comes first are one
pub before-neither : (text other : List ℕ) → is_before_text text other ≡ false → is_before_text other text ≡ false → text ≡ other
before-neither text other one two =
    slice_cmp-IsAntisymmetric nat_cmp-IsAntisymmetric text other
    (go (slice_cmp nat_cmp text other) (slice_cmp nat_cmp other text) (nat_list_cmp_total.antisymm text other) (sym (before-is text other) ∙ one)
    (sym (before-is other text) ∙ two))
  where
    go : (order turned : Ordering) → order ≡ ordering_reverse turned → is_lt order ≡ false → is_lt turned ≡ false → order ≡ Equal
    go Less turned e is_not none = absurd (true≢false is_not)
    go Equal turned e is_not none = refl
    go Greater Less e is_not none = absurd (true≢false none)
    go Greater Equal e is_not none = e
    go Greater Greater e is_not none = absurd (true≢false (ap is_lt (sym e)))

-- what is not after a text that comes before another comes before it too
pub before-lower : (first later text : List ℕ) → is_before_text later first ≡ false → is_before_text later text ≡ true → is_before_text first text ≡ true
before-lower first later text up before = go (is_before_text first text) (is_before_text text first) refl refl
  where
    go : (one two : Bool) → is_before_text first text ≡ one → is_before_text text first ≡ two → one ≡ true
    go true two is is_two = refl
    go false true is is_two = absurd (true≢false (sym (before-chain later text first before is_two) ∙ up))
    go false false is is_two = absurd (true≢false (sym before ∙ subst (λ x. is_before_text later x ≡ false) (before-neither first text is is_two) up))

-- ---- what the labels of a state are
Contains-placed_label_cases : (label : Label) (others : List Label) (x : Label) → Contains (placed_label label others) x → (label ≡ x) ⊎ Contains others x
Contains-placed_label_cases label [] x member = Contains-cases label [] x member
Contains-placed_label_cases label (other ∷ others) x member = go (is_before_text label other) (bytes_eq label other)
    (Contains-placed_label_cases label others x) member
  where
    go : (before same : Bool) → (Contains (placed_label label others) x → (label ≡ x) ⊎ Contains others x)
        → Contains (cond before (label ∷ other ∷ others) (cond same (other ∷ others) (other ∷ placed_label label others))) x
        → (label ≡ x) ⊎ Contains (other ∷ others) x
    go true same rest h = Contains-cases label (other ∷ others) x h
    go false true rest h = inr h
    go false false rest h = elim (Contains-cases other (placed_label label others) x h) [
      | inl e ↦ inr (Contains-first_is other others x e)
      | inr later ↦ elim (rest later) [ inl e ↦ inl e | inr g ↦ inr (Contains-later other others x g) ]
    ]

Contains-placed_label : (label : Label) (others : List Label) (x : Label) → (label ≡ x) ⊎ Contains others x → Contains (placed_label label others) x
Contains-placed_label label [] x (inl e) = Contains-first_is label [] x e
Contains-placed_label label [] x (inr h) = absurd (Contains-none x h)
Contains-placed_label label (other ∷ others) x h = go (is_before_text label other) (bytes_eq label other) refl (Contains-placed_label label others x) h
  where
    go : (before same : Bool) → bytes_eq label other ≡ same → ((label ≡ x) ⊎ Contains others x → Contains (placed_label label others) x)
        → (label ≡ x) ⊎ Contains (other ∷ others) x
        → Contains (cond before (label ∷ other ∷ others) (cond same (other ∷ others) (other ∷ placed_label label others))) x
    go true same is rest (inl e) = Contains-first_is label (other ∷ others) x e
    go true same is rest (inr g) = Contains-later label (other ∷ others) x g
    go false true is rest (inl e) = Contains-first_is other others x (sym ((bytes_eq-Decides label other).0 is) ∙ e)
    go false true is rest (inr g) = g
    go false false is rest (inl e) = Contains-later other (placed_label label others) x (rest (inl e))
    go false false is rest (inr g) = elim (Contains-cases other others x g) [
      | inl e ↦ Contains-first_is other (placed_label label others) x e
      | inr later ↦ Contains-later other (placed_label label others) x (rest (inr later))
    ]

-- the labels of the steps from the state, step by step
abbrev pub labels_by_step : List Step → ℕ → List Label
labels_by_step steps p = map (λ (step : Step). step.label) (filter (λ (step : Step). step.source == p) steps)

Contains-labels_from_cases : (steps : List Step) (p : ℕ) (label : Label) → Contains (labels_from steps p) label → Contains (labels_by_step steps p) label
Contains-labels_from_cases [] p label member = member
Contains-labels_from_cases (step ∷ steps) p label member = go (step.source == p) (Contains-labels_from_cases steps p label) member
  where
    go : (here : Bool) → (Contains (labels_from steps p) label → Contains (labels_by_step steps p) label)
        → Contains (cond here (placed_label step.label (labels_from steps p)) (labels_from steps p)) label
        → Contains (map (λ (step : Step). step.label) (cond here (step ∷ filter (λ (step : Step). step.source == p) steps)
        (filter (λ (step : Step). step.source == p) steps))) label
    go true rest h = elim (Contains-placed_label_cases step.label (labels_from steps p) label h) [
      | inl e ↦ Contains-first_is step.label (labels_by_step steps p) label e
      | inr later ↦ Contains-later step.label (labels_by_step steps p) label (rest later)
    ]
    go false rest h = rest h

Contains-labels_from_has : (steps : List Step) (p : ℕ) (label : Label) → Contains (labels_by_step steps p) label → Contains (labels_from steps p) label
Contains-labels_from_has [] p label member = member
Contains-labels_from_has (step ∷ steps) p label member = go (step.source == p) (Contains-labels_from_has steps p label) member
  where
    go : (here : Bool) → (Contains (labels_by_step steps p) label → Contains (labels_from steps p) label)
        → Contains (map (λ (step : Step). step.label) (cond here (step ∷ filter (λ (step : Step). step.source == p) steps)
        (filter (λ (step : Step). step.source == p) steps))) label
        → Contains (cond here (placed_label step.label (labels_from steps p)) (labels_from steps p)) label
    go true rest h = elim (Contains-cases step.label (labels_by_step steps p) label h) [
      | inl e ↦ Contains-placed_label step.label (labels_from steps p) label (inl e)
      | inr later ↦ Contains-placed_label step.label (labels_from steps p) label (inr (rest later))
    ]
    go false rest h = rest h

pub Contains-labels_from : (steps : List Step) (p : ℕ) (label : Label) (t : ℕ) → Contains steps (record { source = p; label = label; target = t })
    → Contains (labels_from steps p) label
Contains-labels_from steps p label t member =
    let step : Step = record { source = p; label = label; target = t } in
    Contains-labels_from_has steps p label
    (Contains-map (λ (step : Step). step.label) (filter (λ (step : Step). step.source == p) steps) step
    (Contains-filter (λ (step : Step). step.source == p) steps step member (eq-eqb p p refl)))

pub labels_from-steps : (steps : List Step) (p : ℕ) (label : Label) → Contains (labels_from steps p) label
    → (t : ℕ) × Contains steps (record { source = p; label = label; target = t })
labels_from-steps steps p label member =
    let found = Contains-map_cases (λ (step : Step). step.label) (filter (λ (step : Step). step.source == p) steps) label
    (Contains-labels_from_cases steps p label member) in
    let kept = Contains-filter_cases (λ (step : Step). step.source == p) steps found.0 found.1 in
    let from : found.0.source ≡ p = eqb-true found.0.source p kept.1 in
    (found.0.target, subst (λ x. Contains steps x) (λ i. record { source = from i; label = found.2 i; target = found.0.target }) kept.0)

-- ---- labels in order
abbrev pub IsBeforeFirst : Label → List Label → Type 0
IsBeforeFirst label [] = Unit {0}
IsBeforeFirst label (other ∷ others) = is_before_text label other ≡ true

-- each label comes before the next
abbrev pub AreInOrder : List Label → Type 0
AreInOrder [] = Unit {0}
AreInOrder (label ∷ labels) = IsBeforeFirst label labels × AreInOrder labels

placed_label-is_above : (low label : Label) (others : List Label) → is_before_text low label ≡ true → IsBeforeFirst low others
    → IsBeforeFirst low (placed_label label others)
placed_label-is_above low label [] below h = below
placed_label-is_above low label (other ∷ others) below h = go (is_before_text label other) (bytes_eq label other)
  where
    go : (before same : Bool) → IsBeforeFirst low (cond before (label ∷ other ∷ others) (cond same (other ∷ others) (other ∷ placed_label label others)))
    go true same = below
    go false true = h
    go false false = h

placed_label-in_order : (label : Label) (others : List Label) → AreInOrder others → AreInOrder (placed_label label others)
placed_label-in_order label [] h = (tt, tt)
placed_label-in_order label (other ∷ others) h = go (is_before_text label other) (bytes_eq label other) refl refl (placed_label-in_order label others h.1)
  where
    later : (after : Bool) → is_before_text label other ≡ false → bytes_eq label other ≡ false → is_before_text other label ≡ after → after ≡ true
    later true before same is = refl
    later false before same is = absurd (true≢false (sym ((bytes_eq-Decides label other).1 (before-neither label other before is)) ∙ same))

    go : (before same : Bool) → is_before_text label other ≡ before → bytes_eq label other ≡ same → AreInOrder (placed_label label others)
        → AreInOrder (cond before (label ∷ other ∷ others) (cond same (other ∷ others) (other ∷ placed_label label others)))
    go true same is_before is_same rest = (is_before, h)
    go false true is_before is_same rest = h
    go false false is_before is_same rest =
        (placed_label-is_above other label others (later (is_before_text other label) is_before is_same refl) h.0, rest)

pub labels_from-in_order : (steps : List Step) (p : ℕ) → AreInOrder (labels_from steps p)
labels_from-in_order [] p = tt
labels_from-in_order (step ∷ steps) p = go (step.source == p) (labels_from-in_order steps p)
  where
    go : (here : Bool) → AreInOrder (labels_from steps p) → AreInOrder (cond here (placed_label step.label (labels_from steps p)) (labels_from steps p))
    go true rest = placed_label-in_order step.label (labels_from steps p) rest
    go false rest = rest

pub comes_first : (label : Label) (labels : List Label) → AreInOrder (label ∷ labels) → (x : Label) → Contains labels x → is_before_text label x ≡ true
comes_first label [] h x member = absurd (Contains-none x member)
comes_first label (other ∷ labels) h x member = elim (Contains-cases other labels x member) [
  | inl e ↦ subst (λ y. is_before_text label y ≡ true) e h.0
  | inr later ↦ before-chain label other x h.0 (comes_first other labels h.1 x later)
]

-- of two lists in order with the same members, no first label comes after the other's
not_after : (label : Label) (labels : List Label) → AreInOrder (label ∷ labels) → (x : Label) → Contains (label ∷ labels) x → is_before_text x label ≡ false
not_after label labels h x member = elim (Contains-cases label labels x member) [
  | inl e ↦ subst (λ y. is_before_text y label ≡ false) e (before-not_itself label)
  | inr later ↦ go (is_before_text x label) refl (comes_first label labels h x later)
]
  where
    go : (before : Bool) → is_before_text x label ≡ before → is_before_text label x ≡ true → before ≡ false
    go false is first = refl
    go true is first = sym (before-chain label x label first is) ∙ before-not_itself label

later_member : (label : Label) (labels : List Label) (x : Label) → is_before_text label x ≡ true → Contains (label ∷ labels) x → Contains labels x
later_member label labels x before member = elim (Contains-cases label labels x member) [
  | inl e ↦ absurd (true≢false (sym (subst (λ y. is_before_text label y ≡ true) (sym e) before) ∙ before-not_itself label))
  | inr h ↦ h
]

same_labels : (labels others : List Label) → AreInOrder labels → AreInOrder others → ((x : Label) → Contains labels x → Contains others x)
    → ((x : Label) → Contains others x → Contains labels x) → labels ≡ others
same_labels [] [] left right there back = refl
same_labels [] (other ∷ others) left right there back = absurd (Contains-none other (back other (Contains-first other others)))
same_labels (label ∷ labels) [] left right there back = absurd (Contains-none label (there label (Contains-first label labels)))
same_labels (label ∷ labels) (other ∷ others) left right there back =
    let same : label ≡ other = before-neither label other
    (not_after other others right label (there label (Contains-first label labels)))
    (not_after label labels left other (back other (Contains-first other others))) in
    let rest : labels ≡ others = same_labels labels others left.1 right.1
    (λ x member. let first = comes_first label labels left x member in
    later_member other others x (subst (λ y. is_before_text y x ≡ true) same first) (there x (Contains-later label labels x member)))
    (λ x member. let first = comes_first other others right x member in
    later_member label labels x (subst (λ y. is_before_text y x ≡ true) (sym same) first) (back x (Contains-later other others x member))) in
    λ i. same i ∷ rest i

-- labels in order with just the labels of the steps from the state are its labels
pub labels_from_is : (labels : List Label) (steps : List Step) (p : ℕ) → AreInOrder labels
    → ((x : Label) → Contains labels x → Contains (labels_by_step steps p) x)
    → ((x : Label) → Contains (labels_by_step steps p) x → Contains labels x) → labels ≡ labels_from steps p
labels_from_is labels steps p up there back = same_labels labels (labels_from steps p) up (labels_from-in_order steps p)
    (λ x member. Contains-labels_from_has steps p x (there x member))
    (λ x member. back x (Contains-labels_from_cases steps p x member))
