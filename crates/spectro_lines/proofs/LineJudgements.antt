-- What the code finds in a line is what is said of the line in its text.
use Rattle.std.proofs.Common.{◌≡◌, ℕ, ◌+◌, ◌<◌, ◌≤◌, List, [], ◌∷◌, ◌++◌, length, sym, subst, ap, inl, inr, arith}
use Rattle.std.specs.Str.{IsUtf8}
use Rattle.spectro_io.specs.Blanks.{AreBlanks}
use Rattle.spectro_io.specs.Lines.{first_line}
use Rattle.spectro_lines.specs.Form.{Form}
use Rattle.spectro_lines.specs.LineReading.{IsTaken, IsRefused}
use Rattle.spectro_lines.specs.Texts.{Before, behind, IsTooLong, LeadsTo, IsRead, IsFaulty, Follow}
use Rattle.spectro_io.specs.declared.lines.TheConstants.{LINE_LIMIT}

module _ {State Value Kind : Type 0} (form : Form State Value Kind) where
  -- a line that ends within the text, and what stands in it before its line end
  module _ (before : Before State) (line text : List ℕ) (first : first_line line ≡ text) (within : before.bytes + length line ≤ form.limit) where
    fit : length text ≤ LINE_LIMIT → ¬ IsTooLong form before.bytes line
    fit short (inl long) = omega (arith, ap length first)
    fit short (inr over) = omega (arith, within, over)

    pub taken-IsRead : (next : State) → IsTaken form before.state (before.lines + 1) text next → IsRead form before line next
    taken-IsRead next taken = record {
      fit = fit taken.short;
      text = subst IsUtf8 (sym first) taken.text;
      leads = subst (λ text. LeadsTo form before.state (before.lines + 1) text next) (sym first) taken.leads;
    }

    pub refused-IsFaulty : (kind : Kind) → IsRefused form before.state text kind → IsFaulty form before line kind
    refused-IsFaulty kind (IsRefused.too_long long is) = IsFaulty.too_long (inl (subst (λ text. LINE_LIMIT < length text) (sym first) long)) is
    refused-IsFaulty kind (IsRefused.not_text short other is) = IsFaulty.not_text (fit short) (λ utf8. other (subst IsUtf8 first utf8)) is
    refused-IsFaulty kind (IsRefused.other short utf8 some fault) =
        IsFaulty.other (fit short) (subst IsUtf8 (sym first) utf8) (λ blank. some (subst AreBlanks first blank))
        (subst (λ text. form.IsFault before.state text kind) (sym first) fault)

  pub Follow-push : (front : List (List ℕ)) (line : List ℕ) (first middle : Before State) (next : State) → Follow form first front middle
      → IsRead form middle line next → Follow form first (front ++ line ∷ []) (behind middle line next)
  Follow-push [] line first middle next follow read =
      (next, subst (λ before. IsRead form before line next) follow read, ap (λ before. behind before line next) follow)
  Follow-push (one ∷ front) line first middle next follow read =
      (follow.0, follow.1, Follow-push front line (behind first one follow.0) middle next follow.2 read)
