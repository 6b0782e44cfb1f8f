-- The first fault of lines, and their value, from the first of them to the others.
use Rattle.std.proofs.Common.{◌≡◌, ◌∙◌, ℕ, ◌+◌, List, [], ◌∷◌, ◌++◌, refl, sym, ap, subst, inl, inr}
use Rattle.std.specs.Prelude.{◌⊎◌}
use Rattle.spectro_lines.specs.Form.{Form}
use Rattle.spectro_lines.specs.Texts.{Before, behind, IsTooLong, IsRead, IsFaulty, too_long, not_text, other, Follow, HasValue, HasFault, at_line, at_end}

-- ---- lists
pub none_first : {A : Type 0} (front : List A) (x : A) (rest : List A) → [] ≡ front ++ x ∷ rest → ⊥
none_first [] x rest e = cc
none_first (first ∷ front) x rest e = cc

pub same_head : {A : Type 0} (x y : A) (xs ys : List A) → x ∷ xs ≡ y ∷ ys → x ≡ y
same_head x y xs ys e = cc

pub same_tail : {A : Type 0} (x y : A) (xs ys : List A) → x ∷ xs ≡ y ∷ ys → xs ≡ ys
same_tail x y xs ys e = cc

module _ {State Value Kind : Type 0} (form : Form State Value Kind) where
  -- a line that is too long has that fault alone
  pub too_long-only : (before : Before State) (line : List ℕ) (kind : Kind) → IsTooLong form before.bytes line → IsFaulty form before line kind
      → kind ≡ form.too_long
  too_long-only before line kind long (too_long long_too is) = is
  too_long-only before line kind long (not_text fit none is) = absurd (fit long)
  too_long-only before line kind long (other fit utf8 some fault) = absurd (fit long)

  -- ---- no lines
  pub HasFault-nil : (before : Before State) (number : ℕ) (kind : Kind) → HasFault form before [] number kind
      → form.EndsEarly before.state before.lines number kind
  HasFault-nil before number kind (at_line front line rest middle whole follow faulty at) = absurd (none_first front line rest whole)
  HasFault-nil before number kind (at_end after follow early) = subst (λ after. form.EndsEarly after.state after.lines number kind) follow early

  -- ---- one line and others
  module _ (before : Before State) (line : List ℕ) (lines : List (List ℕ)) where
    pub HasValue-later : (next : State) (value : Value) → IsRead form before line next → HasValue form (behind before line next) lines value
        → HasValue form before (line ∷ lines) value
    HasValue-later next value read has = record { after = has.after; follow = (next, read, has.follow); ends = has.ends }

    pub HasFault-here : (kind : Kind) → IsFaulty form before line kind → HasFault form before (line ∷ lines) (before.lines + 1) kind
    HasFault-here kind faulty = at_line [] line lines before refl refl faulty refl

    pub HasFault-later : (next : State) (number : ℕ) (kind : Kind) → IsRead form before line next → HasFault form (behind before line next) lines number kind
        → HasFault form before (line ∷ lines) number kind
    HasFault-later next number kind read (at_line front faulty rest middle whole follow is at) =
        at_line (line ∷ front) faulty rest middle (ap (λ lines. line ∷ lines) whole) (next, read, follow) is at
    HasFault-later next number kind read (at_end after follow early) = at_end after (next, read, follow) early

    -- the first line has the fault, or has none and one of the others has it
    abbrev pub IsHereOrLater : ℕ → Kind → Type 0
    IsHereOrLater number kind =
        (IsFaulty form before line kind × (number ≡ before.lines + 1)) ⊎
        ((next : State) × IsRead form before line next × HasFault form (behind before line next) lines number kind)

    pub HasFault-cons : (number : ℕ) (kind : Kind) → HasFault form before (line ∷ lines) number kind → IsHereOrLater number kind
    HasFault-cons number kind (at_line [] faulty rest middle whole follow is at) =
        let here : IsFaulty form before faulty kind = subst (λ middle. IsFaulty form middle faulty kind) follow is in
        inl (subst (λ line. IsFaulty form before line kind) (sym (same_head line faulty lines rest whole)) here, at ∙ ap (λ middle. middle.lines + 1) follow)
    HasFault-cons number kind (at_line (one ∷ front) faulty rest middle whole follow is at) =
        let Read : List ℕ → Type 0 = λ one. (next : State) × IsRead form before one next × Follow form (behind before one next) front middle in
        let read : Read line = subst Read (sym (same_head line one lines (front ++ faulty ∷ rest) whole)) (follow.0, follow.1, follow.2) in
        inr (read.0, read.1, at_line front faulty rest middle (same_tail line one lines (front ++ faulty ∷ rest) whole) read.2 is at)
    HasFault-cons number kind (at_end after follow early) = inr (follow.0, follow.1, at_end after follow.2 early)
