-- How a formula is shown: in one way, and no other.
use Rattle.std.proofs.Common.{inl, inr, ◌≡◌, ◌∙◌, length, ap, sym, refl, arith}
use Rattle.std.proofs.lemmas.Bool.{cases_lt}
use Rattle.spectro_spec.specs.Formula.{Formula}
use Rattle.spectro_hmltext.specs.Printed.{formula_text}
use Rattle.spectro_report.specs.Verdicts.{IsShownAs}
use Rattle.spectro_report.specs.declared.verdict.Shown.{Shown}
use Rattle.spectro_report.specs.declared.verdict.Shown.TheVariants.{Inline, ByNode}
use Rattle.spectro_report.specs.declared.verdict.TheConstants.{MAX_INLINE_BYTES}

pub some_shown : (formula : Formula) → (shown : Shown) × IsShownAs formula shown
some_shown formula = elim (cases_lt MAX_INLINE_BYTES (length (formula_text formula))) [
  | inl long ↦ (ByNode, long)
  | inr short ↦ (Inline (formula_text formula), (refl, short))
]

pub one_shown : (formula : Formula) (shown other : Shown) → IsShownAs formula shown → IsShownAs formula other → shown ≡ other
one_shown formula (Inline text) (Inline also) is too = ap Inline (is.0 ∙ sym too.0)
one_shown formula (Inline text) ByNode is too = absurd (omega (arith, is.1, too))
one_shown formula ByNode (Inline also) is too = absurd (omega (arith, is, too.1))
one_shown formula ByNode ByNode is too = refl
