-- Each text is of one table or has one first fault, and a long text is judged by its front.
use Rattle.std.proofs.Common.{◌≡◌, ◌∙◌, ℕ, ◌+◌, ◌≤◌, List, [], ◌∷◌, length, take, sym, ap, subst, inl, inr}
use Rattle.std.specs.Prelude.{◌⊎◌}
use Rattle.spectro_io.specs.Limits.{read_limit}
use Rattle.spectro_io.specs.Lines.{first_line, lines_of}
use Rattle.spectro_lines.specs.Texts as lines
use Rattle.spectro_lines.specs.Texts.{Before, nothing_before, behind, LeadsTo, skipped, given, Follow}
use Rattle.spectro_lines.proofs.LongTexts as long
use Rattle.spectro_lines.proofs.Outcomes.{AreLaws, text_settled}
use Rattle.spectro_lines.proofs.Settled.{IsSettled, settled_by, one_value, not_both, one_or_other}
use Rattle.spectro_lines.proofs.Settled as settled
use Rattle.spectro_spec.specs.Notion.{Notion}
use Rattle.spectro_notions.specs.NotionTexts.{notion_form, IsNotionText, IsFirstFault}
use Rattle.spectro_notions.specs.declared.error.NotionFault.{NotionFault}
use Rattle.spectro_notions.specs.declared.error.NotionKind.{NotionKind}
use Rattle.spectro_notions.specs.Tables.{AreNotions, IsTable}
use Rattle.spectro_notions.proofs.Growing.{AreNotions-nil, AreNotions-push}
use Rattle.spectro_notions.proofs.Judgements.{gives-cases, gives-once, line_fault-once, gives-no_fault, end-cases, end_fault-once, end-no_fault}

notion_laws : AreLaws notion_form
notion_laws = record {
  Kept = λ table. Unit {0};
  start_kept = tt;
  next_kept = λ table number line next kept gives. tt;
  line = λ table number line kept utf8 some.
      settled_by _ _ (gives-cases table line) (gives-once table line) (line_fault-once table line) (gives-no_fault table line);
  end = λ table lines kept.
      settled_by _ _ (end-cases table lines) (λ one other first second. first.same ∙ sym second.same) (end_fault-once table lines) (end-no_fault table lines);
}

module _ (text : List ℕ) where
  abbrev found : Type 0
  found = IsSettled (IsNotionText text) (λ (fault : ℕ × NotionKind). lines.IsFirstFault notion_form text fault.0 fault.1)

  settles : found
  settles = text_settled notion_form notion_laws text

  pub one_table : (one two : List Notion) → IsNotionText text one → IsNotionText text two → one ≡ two
  one_table = one_value _ _ settles

  pub one_fault : (one two : NotionFault) → IsFirstFault text one → IsFirstFault text two → one ≡ two
  one_fault one two first second =
      ap (λ (fault : ℕ × NotionKind). record { line = fault.0; kind = fault.1 })
      (settled.one_fault _ _ settles (one.line, one.kind) (two.line, two.kind) first second)

  pub no_fault_of_text : (table : List Notion) (fault : NotionFault) → IsNotionText text table → IsFirstFault text fault → ⊥
  no_fault_of_text table fault = not_both _ _ settles table (fault.line, fault.kind)

  pub table_or_fault : ((table : List Notion) × IsNotionText text table) ⊎ ((fault : NotionFault) × IsFirstFault text fault)
  table_or_fault = elim (one_or_other _ _ settles) [ inl is ↦ inl is | inr is ↦ inr (record { line = is.0.0; kind = is.0.1 }, is.1) ]

  pub fault_of_read_front : (fault : NotionFault) → IsFirstFault (take read_limit text) fault → read_limit ≤ length text → IsFirstFault text fault
  fault_of_read_front fault = long.fault_of_front notion_form read_limit text fault.line fault.kind long.read_limit-large

  pub read_front_no_text : (table : List Notion) → IsNotionText (take read_limit text) table → read_limit ≤ length text → ⊥
  read_front_no_text table = long.front_no_text notion_form read_limit text table long.read_limit-large

-- ---- tables
kept-line : (before next : List Notion) (number : ℕ) (line : List ℕ) → LeadsTo notion_form before number line next → AreNotions before → AreNotions next
kept-line before next number line (skipped blank same) are = subst AreNotions (sym same) are
kept-line before next number line (given some gives) are =
    subst AreNotions (sym gives.list) (AreNotions-push before gives.notion are gives.place.new gives.place.room)

kept-lines : (before : Before (List Notion)) (lines : List (List ℕ)) (after : Before (List Notion)) → Follow notion_form before lines after
    → AreNotions before.state → AreNotions after.state
kept-lines before [] after follow are = subst (λ (before : Before (List Notion)). AreNotions before.state) (sym follow) are
kept-lines before (line ∷ lines) after follow are =
    kept-lines (behind before line follow.0) lines after follow.2
    (kept-line before.state follow.0 (before.lines + 1) (first_line line) follow.1.leads are)

-- what a text is of is a table
pub IsTable-text : (text : List ℕ) (table : List Notion) → IsNotionText text table → IsTable table
IsTable-text text table is =
    let are = kept-lines (nothing_before notion_form) (lines_of text) is.after is.follow AreNotions-nil in
    subst IsTable (sym is.ends.same) (record { some = is.ends.some; notions = are })
