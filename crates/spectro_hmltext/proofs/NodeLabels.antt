-- Labels in quotes at the front of a text: there is one at most.
use Rattle.std.proofs.Common.{◌≡◌, ◌∙◌, ℕ, List, ◌∷◌, ◌++◌, sym, ap, append_assoc}
use Rattle.spectro_io.specs.Blanks.{skip_blanks, IsApart}
use Rattle.spectro_io.specs.QuotedLabels.{BeginsInQuotes}
use Rattle.spectro_io.proofs.Blanks.{blanks_before, skip_blanks-blanks}
use Rattle.spectro_io.proofs.ClosingQuotes.{quotes-once}
use Rattle.spectro_hmltext.specs.NodeLines.{BeginsQuoted}

-- once its blanks are dropped, the text begins in quotes
pub quoted-begins : (text inside rest : List ℕ) → BeginsQuoted text inside rest → BeginsInQuotes (skip_blanks text) inside rest
quoted-begins text inside rest begins = record {
  whole = ap skip_blanks (begins.whole ∙ append_assoc begins.front (34 ∷ inside) (34 ∷ rest))
      ∙ skip_blanks-blanks begins.front (34 ∷ (inside ++ 34 ∷ rest)) begins.blanks;
  closed = begins.closed;
}

-- and where it does, and nothing or a blank stands behind the quotes, they are its first word
pub begins-quoted : (text inside rest : List ℕ) → BeginsInQuotes (skip_blanks text) inside rest → IsApart rest → BeginsQuoted text inside rest
begins-quoted text inside rest begins apart =
    let first = blanks_before text in
    record {
      front = first.0;
      whole = first.1 ∙ ap (λ l. first.0 ++ l) begins.whole ∙ sym (append_assoc first.0 (34 ∷ inside) (34 ∷ rest));
      blanks = first.2;
      closed = begins.closed;
      apart = apart;
    }

pub quoted-once : (text inside rest other others : List ℕ) → BeginsQuoted text inside rest → BeginsQuoted text other others → (inside ≡ other) × (rest ≡ others)
quoted-once text inside rest other others one two = quotes-once (skip_blanks text) inside rest other others (quoted-begins text inside rest one)
    (quoted-begins text other others two)
