-- Each text is of one system or has one first fault, and a long text is judged by its front.
use Rattle.std.proofs.Common.{◌≡◌, ℕ, ◌≤◌, List, length, take, ap, inl, inr}
use Rattle.std.specs.Prelude.{◌⊎◌}
use Rattle.spectro_io.specs.Limits.{read_limit}
use Rattle.spectro_lines.specs.Texts as lines
use Rattle.spectro_lines.proofs.LongTexts as long
use Rattle.spectro_lines.proofs.Outcomes.{AreLaws, text_settled}
use Rattle.spectro_lines.proofs.Settled as settled
use Rattle.spectro_spec.specs.System.{System}
use Rattle.spectro_aut.specs.Texts.{aut_form, IsText, IsFirstFault}
use Rattle.spectro_aut.specs.declared.error.AutFault.{AutFault}
use Rattle.spectro_aut.specs.declared.error.AutKind.{AutKind}
use Rattle.spectro_aut.proofs.Judgements.{IsKept, gives-IsKept, line_settled, end_settled}
use Rattle.spectro_io.specs.declared.read.TheConstants.{TEXT_LIMIT}

aut_laws : AreLaws aut_form
aut_laws = record {
  Kept = IsKept;
  start_kept = tt;
  next_kept = λ reading number line next kept gives. gives-IsKept reading line next kept gives;
  line = λ reading number line kept utf8 some. line_settled reading line kept utf8;
  end = end_settled;
}

module _ (text : List ℕ) where
  settles : settled.IsSettled (IsText text) (λ (fault : ℕ × AutKind). lines.IsFirstFault aut_form text fault.0 fault.1)
  settles = text_settled aut_form aut_laws text

  pub one_system : (one other : System) → IsText text one → IsText text other → one ≡ other
  one_system = settled.one_value _ _ settles

  pub one_fault : (one other : AutFault) → IsFirstFault text one → IsFirstFault text other → one ≡ other
  one_fault one other first second =
      ap (λ (fault : ℕ × AutKind). record { line = fault.0; kind = fault.1 })
      (settled.one_fault _ _ settles (one.line, one.kind) (other.line, other.kind) first second)

  pub no_fault_of_text : (system : System) (fault : AutFault) → IsText text system → IsFirstFault text fault → ⊥
  no_fault_of_text system fault = settled.not_both _ _ settles system (fault.line, fault.kind)

  pub system_or_fault : ((system : System) × IsText text system) ⊎ ((fault : AutFault) × IsFirstFault text fault)
  system_or_fault = elim (settled.one_or_other _ _ settles) [ inl is ↦ inl is | inr is ↦ inr (record { line = is.0.0; kind = is.0.1 }, is.1) ]

  pub fault_of_read_front : (fault : AutFault) → IsFirstFault (take read_limit text) fault → read_limit ≤ length text → IsFirstFault text fault
  fault_of_read_front fault = long.fault_of_front aut_form read_limit text fault.line fault.kind long.read_limit-large

  pub read_front_no_text : (system : System) → IsText (take read_limit text) system → read_limit ≤ length text → ⊥
  read_front_no_text system = long.front_no_text aut_form read_limit text system long.read_limit-large

  pub length-text : (system : System) → IsText text system → length text ≤ TEXT_LIMIT
  length-text = long.length-text aut_form text
