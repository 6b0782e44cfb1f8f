-- The members are gone through up to the first that has no clause and is not in the mask.
use Rattle.std.proofs.Common.{◌≡◌, ◌∙◌, ◌<◌, inl, inr, length, get_or, sym, ap, subst, refl, arith, Option, None, Some, false, not, slice_get}
use Rattle.std.specs.Int.{bit_at}
use Rattle.std.specs.Option.{is_some}
use Rattle.std.proofs.lemmas.Bool.{cases_lt, true≢false}
use Rattle.std.proofs.lemmas.Nat.Bits.{shr_and_one}
use Rattle.std.proofs.lemmas.Option.{slice_get-get_or, slice_get_within, get_or_from_slice_get}
use Rattle.spectro_build.specs.declared.clauses.SignedKey.{SignedKey}
use Rattle.spectro_build.proofs.splitting.lacks.Goals as goal
use Rattle.spectro_build.proofs.splitting.lacks.Goals.{else-is_none-via-then-is_none+else-mask-i-eq0, else-is_none-via-else-is_none}

is_missing : (o : Option SignedKey) → is_some o ≡ false → o ≡ None
is_missing None is = refl
is_missing (Some x) is = absurd (true≢false is)

pub returns-then-mask-i-eq0 : goal.returns-then-mask-i-eq0
returns-then-mask-i-eq0 c =
    let within : c.loop-i.i < length c.args.others.now = omega arith in
    let missing = is_missing (get_or c.args.others.now c.loop-i.i None) (c.is_none.ensures ∙ ap not c.if-is_none.true) in
    let clear : bit_at c.args.mask c.loop-i.i ≡ 0 = sym (shr_and_one c.args.mask c.loop-i.i) ∙ c.if-mask-i-eq0.true in
    ((λ _. (c.loop-i.i, slice_get-get_or c.args.others.now c.loop-i.i None within ∙ ap Some missing, clear)), (λ _. refl))

pub loop-i-preserved : goal.loop-i-preserved
loop-i-preserved c j under none clear = elim (cases_lt j c.loop-i.i) [
  | inl earlier ↦ c.loop-i.invariant j earlier none clear
  | inr now ↦
      let same : j ≡ c.loop-i.i = omega arith in
      let here : get_or c.args.others.now c.loop-i.i None ≡ None =
      get_or_from_slice_get c.args.others.now c.loop-i.i None None (subst (λ n. slice_get c.args.others.now n ≡ Some None) same none) in
      let bit : bit_at c.args.mask c.loop-i.i ≡ 0 = subst (λ n. bit_at c.args.mask n ≡ 0) same clear in
      elim c.else-is_none.branch [
        | else-is_none-via-then-is_none+else-mask-i-eq0 w ↦ w.if-mask-i-eq0.false (shr_and_one c.args.mask c.loop-i.i ∙ bit)
        | else-is_none-via-else-is_none w ↦ true≢false (sym (sym (ap is_some here) ∙ (c.is_none.ensures ∙ ap not w.if-is_none.false)))
      ]
]

pub returns : goal.returns
returns c = (
  (λ is. absurd (true≢false (sym is))),
  (λ (i, none, clear).
      let within = slice_get_within c.args.others.now i None none in
      absurd (c.loop-i.invariant i (omega arith) none clear)),
)
