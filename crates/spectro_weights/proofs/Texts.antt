-- Each text is of one weighing or has one first fault, and a long text is judged by its front.
use Rattle.std.proofs.Common.{◌≡◌, ◌∙◌, ℕ, ◌≤◌, List, length, take, refl, sym, ap, inl, inr}
use Rattle.std.specs.Prelude.{◌⊎◌}
use Rattle.spectro_io.specs.Limits.{read_limit}
use Rattle.spectro_lines.specs.Texts as lines
use Rattle.spectro_lines.proofs.LongTexts as long
use Rattle.spectro_lines.proofs.Outcomes.{AreLaws, text_settled}
use Rattle.spectro_lines.proofs.Settled.{IsSettled, settled_by, one_value, not_both, one_or_other}
use Rattle.spectro_lines.proofs.Settled as settled
use Rattle.spectro_spec.specs.Weighing.{Weighing}
use Rattle.spectro_weights.specs.WeightTexts.{weight_form, IsWeightText, IsFirstFault}
use Rattle.spectro_weights.specs.declared.error.WeightFault.{WeightFault}
use Rattle.spectro_weights.specs.declared.error.WeightKind.{WeightKind}
use Rattle.spectro_weights.proofs.Judgements.{gives-cases, gives-once, line_fault-once, gives-no_fault}

weight_laws : AreLaws weight_form
weight_laws = record {
  Kept = λ weighing. Unit {0};
  start_kept = tt;
  next_kept = λ weighing number line next kept gives. tt;
  line = λ weighing number line kept utf8 some.
      settled_by _ _ (gives-cases weighing line) (gives-once weighing line) (line_fault-once weighing line) (gives-no_fault weighing line);
  end = λ weighing lines kept.
      settled_by _ _ (inl (weighing, refl)) (λ one other first second. first ∙ sym second) (λ one other first second. absurd first)
      (λ value fault first second. second);
}

module _ (text : List ℕ) where
  abbrev found : Type 0
  found = IsSettled (IsWeightText text) (λ (fault : ℕ × WeightKind). lines.IsFirstFault weight_form text fault.0 fault.1)

  settles : found
  settles = text_settled weight_form weight_laws text

  pub one_weighing : (one two : Weighing) → IsWeightText text one → IsWeightText text two → one ≡ two
  one_weighing = one_value _ _ settles

  pub one_fault : (one two : WeightFault) → IsFirstFault text one → IsFirstFault text two → one ≡ two
  one_fault one two first second =
      ap (λ (fault : ℕ × WeightKind). record { line = fault.0; kind = fault.1 })
      (settled.one_fault _ _ settles (one.line, one.kind) (two.line, two.kind) first second)

  pub no_fault_of_text : (weighing : Weighing) (fault : WeightFault) → IsWeightText text weighing → IsFirstFault text fault → ⊥
  no_fault_of_text weighing fault = not_both _ _ settles weighing (fault.line, fault.kind)

  pub weighing_or_fault : ((weighing : Weighing) × IsWeightText text weighing) ⊎ ((fault : WeightFault) × IsFirstFault text fault)
  weighing_or_fault = elim (one_or_other _ _ settles) [ inl is ↦ inl is | inr is ↦ inr (record { line = is.0.0; kind = is.0.1 }, is.1) ]

  pub fault_of_read_front : (fault : WeightFault) → IsFirstFault (take read_limit text) fault → read_limit ≤ length text → IsFirstFault text fault
  fault_of_read_front fault = long.fault_of_front weight_form read_limit text fault.line fault.kind long.read_limit-large

  pub read_front_no_text : (weighing : Weighing) → IsWeightText (take read_limit text) weighing → read_limit ≤ length text → ⊥
  read_front_no_text weighing = long.front_no_text weight_form read_limit text weighing long.read_limit-large
