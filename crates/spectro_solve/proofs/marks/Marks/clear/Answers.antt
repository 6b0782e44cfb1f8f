use Rattle.std.proofs.Common.{ℕ, ◌≡◌, ◌<◌, ◌∙◌, List, ◌++◌, Bool, take, drop, replicate, false, length, subst, sym, ap, Contains}
use Rattle.spectro_solve.specs.Marks.{AreMarks, IsMarked}
use Rattle.spectro_solve.proofs.Marked.{marked-below, no-numbers, none-marked, written-back}
use Rattle.spectro_solve.proofs.marks.Marks.clear.Goals as goal

pub unset-requires : goal.unset-requires
unset-requires c k listed =
    let below = marked-below c.self.inside.flags.items k
    ((c.self.invariant.exact k).0 (subst (λ numbers. Contains numbers k) c.as_slice.ensures.value listed)) in
    subst (λ (flags : List Bool). k < length flags) (sym c.deref_mut.ensures.value) below

-- the flags that are written back are those that are left
written : (c : goal.After-clear)
    → take c.self.inside.flags.len (c.unset.new.flags ++ drop (length c.unset.new.flags) c.self.inside.flags.items) ≡ c.unset.new.flags
written c = written-back c.unset.new.flags c.self.inside.flags.items c.self.inside.flags.len (c.unset.ensures.len ∙ c.deref_mut.ensures.len)

-- none of them is set
none : (c : goal.After-clear) → (k : ℕ) → ¬ IsMarked c.unset.new.flags k
none c k marked =
    let before = subst (λ flags. IsMarked flags k) c.deref_mut.ensures.value (c.unset.ensures.rest k marked) in
    c.unset.ensures.gone k (subst (λ numbers. Contains numbers k) (sym c.as_slice.ensures.value) ((c.self.invariant.exact k).1 before)) marked

pub invariant_of-self : goal.invariant_of-self
invariant_of-self c = let d : goal.After-clear = c in
    subst (λ flags. AreMarks flags c.clear.new.self.items) (sym (written d))
    (subst (AreMarks c.unset.new.flags) (sym c.clear.ensures.items) (no-numbers c.unset.new.flags (none d)))

pub returns : goal.returns
returns c = let d : goal.After-clear = c in
    written d ∙ none-marked c.unset.new.flags (none d)
    ∙ ap (λ n. replicate n false) (c.unset.ensures.len ∙ ap length c.deref_mut.ensures.value ∙ ap length c.self.view_is)
