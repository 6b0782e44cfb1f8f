-- The labels of the two systems: after the first step all steps under a bring no label, and then come b and c.
use Rattle.std.proofs.Common.{◌≡◌, ℕ, ◌+◌, ◌-◌, ◌*◌, ◌≤◌, zero, suc, [], ◌∷◌, ◌++◌, map, codes, refl, arith}
use Rattle.std.specs.List.{flat_map, range_with_len}
use Rattle.spectro_lts.specs.Labels.{labels_of}
use Rattle.spectro_demo.specs.Systems.{demo_left, demo_right, labels, next_step, next_steps, step}

one_line : (k count n end : ℕ)
    → labels_of (step 0 (codes "a") 1 ∷ map next_step (range_with_len k count) ++ step n (codes "b") end ∷ step n (codes "c") end ∷ []) ≡ labels
one_line k zero n end = refl
one_line k (suc count) n end = one_line (k + 1) count n end

two_lines : (n k count end : ℕ)
    → labels_of (step 0 (codes "a") 1 ∷ step 0 (codes "a") (n + 1) ∷ flat_map (next_steps n) (range_with_len k count)
    ++ step n (codes "b") end ∷ step (2 * n) (codes "c") end ∷ []) ≡ labels
two_lines n k zero end = refl
two_lines n k (suc count) end = two_lines n (k + 1) count end

pub labels_of-demo_left : (n : ℕ) → 1 ≤ n → labels_of (demo_left n).steps ≡ labels
labels_of-demo_left zero some = absurd (omega (arith, some))
labels_of-demo_left (suc n) some = one_line 1 n (suc n) (suc n + 1)

pub labels_of-demo_right : (n : ℕ) → labels_of (demo_right n).steps ≡ labels
labels_of-demo_right n = two_lines n 1 (n - 1) (2 * n + 1)
