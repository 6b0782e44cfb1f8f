-- The quote that closes a label is found, and there is one at most.
use Rattle.std.proofs.Common.{◌≡◌, ◌∙◌, ℕ, suc, ◌+◌, Bool, true, false, cond, not, ◌&&◌, List, [], ◌∷◌, ◌++◌, length, take, drop, Some, None, refl, sym, ap, arith}
use Rattle.std.specs.Prelude.{◌==◌}
use Rattle.std.specs.Str.{bytes_eq}
use Rattle.std.proofs.Math.Seq.{take-append_seam, drop-append_seam}
use Rattle.std.proofs.lemmas.Bool.{and_parts, eqb-true, true≢false}
use Rattle.std.proofs.lemmas.List.{take-append-drop}
use Rattle.std.proofs.lemmas.Option.{same_Some, none-some}
use Rattle.std.proofs.lemmas.Slice.Eq.{bytes_eq-Decides}
use Rattle.spectro_io.specs.ClosingQuotes.{closing_from}
use Rattle.spectro_io.specs.QuotedLabels.{is_closed_behind, IsInQuotes, BeginsInQuotes}

-- where what stands before a quote is closed, the quote is found
closing-closed : (inside rest : List ℕ) (place : ℕ) (backslash : Bool) → is_closed_behind backslash inside ≡ true
    → closing_from place backslash (inside ++ 34 ∷ rest) ≡ Some (place + length inside)
closing-closed [] rest place true closed = absurd (true≢false (sym closed))
closing-closed [] rest place false closed = ap Some (omega arith)
closing-closed (byte ∷ inside) rest place backslash closed = by (not backslash && (byte == 34)) refl
    (closing-closed inside rest (place + 1) (not backslash && (byte == 92)))
  where
    by : (ends : Bool) → (not backslash && (byte == 34)) ≡ ends
        → (is_closed_behind (not backslash && (byte == 92)) inside ≡ true
        → closing_from (place + 1) (not backslash && (byte == 92)) (inside ++ 34 ∷ rest) ≡ Some (place + 1 + length inside))
        → closing_from place backslash (byte ∷ inside ++ 34 ∷ rest) ≡ Some (place + length (byte ∷ inside))
    by true e later = absurd (true≢false (sym closed ∙ ap (λ ends. cond ends false (is_closed_behind (not backslash && (byte == 92)) inside)) e))
    by false e later =
        let inner : is_closed_behind (not backslash && (byte == 92)) inside ≡ true = sym
        (ap (λ ends. cond ends false (is_closed_behind (not backslash && (byte == 92)) inside)) e) ∙ closed in
        rw e (later inner ∙ ap Some (omega arith))

-- the quote that is found closes what stands before it
record IsClosing (bytes : List ℕ) (place found : ℕ) (backslash : Bool) : Type 0 where
  pub inside : List ℕ
  pub rest : List ℕ
  pub whole : bytes ≡ inside ++ 34 ∷ rest
  pub closed : is_closed_behind backslash inside ≡ true
  pub at : found ≡ place + length inside

quote-closes : (backslash : Bool) (byte : ℕ) → (not backslash && (byte == 34)) ≡ true → (not backslash ≡ true) × (byte ≡ 34)
quote-closes backslash byte e = let parts = and_parts (not backslash) (byte == 34) e in (parts.0, eqb-true byte 34 parts.1)

closing-found : (bytes : List ℕ) (place found : ℕ) (backslash : Bool) → closing_from place backslash bytes ≡ Some found → IsClosing bytes place found backslash
closing-found [] place found backslash e = absurd (none-some found e)
closing-found (byte ∷ bytes) place found backslash e = by (not backslash && (byte == 34)) refl
    (closing-found bytes (place + 1) found (not backslash && (byte == 92)))
  where
    by : (ends : Bool) → (not backslash && (byte == 34)) ≡ ends
        → (closing_from (place + 1) (not backslash && (byte == 92)) bytes ≡ Some found → IsClosing bytes (place + 1) found (not backslash && (byte == 92)))
        → IsClosing (byte ∷ bytes) place found backslash
    by true is later =
        let ends = quote-closes backslash byte is in
        let at : place ≡ found = same_Some place found
        (sym (ap (λ ends. cond ends (Some place) (closing_from (place + 1) (not backslash && (byte == 92)) bytes)) is) ∙ e) in
        record { inside = []; rest = bytes; whole = ap (λ byte. byte ∷ bytes) ends.1; closed = ends.0; at = omega arith }
    by false is later =
        let inner = later (sym (ap (λ ends. cond ends (Some place) (closing_from (place + 1) (not backslash && (byte == 92)) bytes)) is) ∙ e) in
        record {
          inside = byte ∷ inner.inside;
          rest = inner.rest;
          whole = ap (λ l. byte ∷ l) inner.whole;
          closed = ap (λ ends. cond ends false (is_closed_behind (not backslash && (byte == 92)) inner.inside)) is ∙ inner.closed;
          at = omega (arith, inner.at);
        }

-- what stands behind the quote that is found
behind-quote : (inside rest : List ℕ) → drop (length inside + 1) (inside ++ 34 ∷ rest) ≡ rest
behind-quote [] rest = refl
behind-quote (byte ∷ inside) rest = let n : length (byte ∷ inside) + 1 ≡ suc (length inside + 1) = omega arith in ap
    (λ n. drop n (byte ∷ inside ++ 34 ∷ rest)) n ∙ behind-quote inside rest

-- ---- texts that begin in quotes
closing-quotes : (text inside rest : List ℕ) → BeginsInQuotes text inside rest → closing_from 0 false (inside ++ 34 ∷ rest) ≡ Some (length inside)
closing-quotes text inside rest begins = closing-closed inside rest 0 false begins.closed ∙ ap Some (omega arith)

-- what stands between the quotes is one, and so is what is left
pub quotes-once : (text inside rest other others : List ℕ) → BeginsInQuotes text inside rest → BeginsInQuotes text other others
    → (inside ≡ other) × (rest ≡ others)
quotes-once text inside rest other others one two =
    let same : inside ++ 34 ∷ rest ≡ other ++ 34 ∷ others = ap (drop 1) (sym one.whole ∙ two.whole) in
    let place : length inside ≡ length other = same_Some (length inside) (length other) (sym (closing-quotes text inside rest one)
    ∙ ap (closing_from 0 false) same ∙ closing-quotes text other others two) in
    let front : inside ≡ other = sym (take-append_seam inside (34 ∷ rest)) ∙ ap (λ n. take n (inside ++ 34 ∷ rest)) place ∙ ap (take (length other)) same
    ∙ take-append_seam other (34 ∷ others) in
    let back : 34 ∷ rest ≡ 34 ∷ others = sym (drop-append_seam inside (34 ∷ rest)) ∙ ap (λ n. drop n (inside ++ 34 ∷ rest)) place
    ∙ ap (drop (length other)) same ∙ drop-append_seam other (34 ∷ others) in
    (front, ap (drop 1) back)

module _ (text opened : List ℕ) (opens : text ≡ 34 ∷ opened) where
  pub found-quotes : (found : ℕ) → Some found ≡ closing_from 0 false opened → BeginsInQuotes text (take found opened) (drop (found + 1) opened)
  found-quotes found e =
      let closing = closing-found opened 0 found false (sym e) in
      let at : found ≡ length closing.inside = omega (arith, closing.at) in
      let inside : take found opened ≡ closing.inside = ap (λ n. take n opened) at ∙ ap (take (length closing.inside)) closing.whole
      ∙ take-append_seam closing.inside (34 ∷ closing.rest) in
      let rest : drop (found + 1) opened ≡ closing.rest = ap (λ n. drop (n + 1) opened) at ∙ ap (drop (length closing.inside + 1)) closing.whole
      ∙ behind-quote closing.inside closing.rest in
      let whole : opened ≡ take found opened ++ 34 ∷ drop (found + 1) opened = closing.whole ∙ ap (λ inside. inside ++ 34 ∷ closing.rest) (sym inside)
      ∙ ap (λ rest. take found opened ++ 34 ∷ rest) (sym rest) in
      record { whole = opens ∙ ap (λ l. 34 ∷ l) whole; closed = ap (is_closed_behind false) inside ∙ closing.closed }

  pub not-unclosed : None ≡ closing_from 0 false opened → (inside rest : List ℕ) → ¬ BeginsInQuotes text inside rest
  not-unclosed none inside rest begins =
      let same : opened ≡ inside ++ 34 ∷ rest = ap (drop 1) (sym opens ∙ begins.whole) in
      none-some (length inside) (none ∙ ap (closing_from 0 false) same ∙ closing-quotes text inside rest begins)

-- where the first byte is no quote, none is quoted
pub not-opened : (text : List ℕ) → bytes_eq (take 1 text) (34 ∷ []) ≡ false → (inside rest : List ℕ) → ¬ BeginsInQuotes text inside rest
not-opened text other inside rest begins =
    let same : bytes_eq (take 1 text) (34 ∷ []) ≡ true = ap (λ l. bytes_eq (take 1 l) (34 ∷ [])) begins.whole in
    true≢false (sym same ∙ other)

pub opens_with : (text opened : List ℕ) → bytes_eq (take 1 text) (34 ∷ []) ≡ true → opened ≡ drop 1 text → text ≡ 34 ∷ opened
opens_with text opened opens rest =
    sym (take-append-drop 1 text) ∙ ap (λ l. l ++ drop 1 text) ((bytes_eq-Decides (take 1 text) (34 ∷ [])).0 opens) ∙ ap (λ l. (34 ∷ []) ++ l) (sym rest)

-- ---- texts that are in quotes
pub in_quotes-begin : (text inside : List ℕ) → IsInQuotes text inside → BeginsInQuotes text inside []
in_quotes-begin text inside is = record { whole = is.whole; closed = is.closed }

-- what stands between quotes is one
pub in_quotes-once : (text inside other : List ℕ) → IsInQuotes text inside → IsInQuotes text other → inside ≡ other
in_quotes-once text inside other one two = (quotes-once text inside [] other [] (in_quotes-begin text inside one) (in_quotes-begin text other two)).0
