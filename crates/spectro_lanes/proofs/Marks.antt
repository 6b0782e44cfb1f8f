-- Marks of the first places, where more are marked.
use Rattle.std.proofs.Common.{ℕ, ◌≡◌, ◌≢◌, ◌+◌, ◌-◌, ◌<◌, List, length, inl, inr, sym}
use Rattle.std.proofs.Common.{subst, arith, Bool, false, set, get_or, get_or-set_same, get_or-set_other, below_more, IsTrue}
use Rattle.std.specs.Prelude.{◌↔◌}
use Rattle.std.proofs.lemmas.Bool.{cases_lt}

-- eight places are marked by lanes
pub marks_more_eight : (P : ℕ → Type 0) (k : ℕ) (old new : List Bool) (kept : List ℕ)
    → ((i : ℕ) → i < 8 → IsTrue (get_or new (k + i) false) ↔ get_or kept i 0 ≡ 1) → ((i : ℕ) → i < k → get_or new i false ≡ get_or old i false)
    → ((i : ℕ) → i < 8 → get_or kept i 0 ≡ 1 ↔ P (k + i)) → ((i : ℕ) → i < k → IsTrue (get_or old i false) ↔ P i)
    → (i : ℕ) → i < k + 8 → IsTrue (get_or new i false) ↔ P i
marks_more_eight P k old new kept here before lanes was i low = elim (cases_lt i k) [
  | inl below ↦ subst (λ b. IsTrue b ↔ P i) (sym (before i below)) (was i below)
  | inr above ↦
      let back : k + (i - k) ≡ i = omega arith in
      let mark = here (i - k) (omega arith) in
      let lane = lanes (i - k) (omega arith) in
      subst (λ j. IsTrue (get_or new j false) ↔ P j) back ((λ on. lane.0 (mark.0 on)), (λ p. mark.1 (lane.1 p)))
]

-- one place is marked
pub marks_more : (P : ℕ → Type 0) (k : ℕ) (old : List Bool) (b : Bool) → k < length old → IsTrue b ↔ P k
    → ((i : ℕ) → i < k → IsTrue (get_or old i false) ↔ P i) → (i : ℕ) → i < k + 1 → IsTrue (get_or (set old k b) i false) ↔ P i
marks_more P k old b room told was = below_more (λ i. IsTrue (get_or (set old k b) i false) ↔ P i) k
    (λ i low. let apart : i ≢ k = omega arith in subst (λ x. IsTrue x ↔ P i) (sym (get_or-set_other old k i b false apart)) (was i low))
    (subst (λ x. IsTrue x ↔ P k) (sym (get_or-set_same old k b false room)) told)
