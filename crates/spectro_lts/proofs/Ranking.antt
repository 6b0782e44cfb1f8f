-- How many labels come before one in the order of bytes is its rank.
use Rattle.std.proofs.Common.{◌≡◌, ◌∙◌, ◌⊎◌, inl, inr, ℕ, zero, suc, ◌+◌, ◌<◌, ◌≤◌, List, [], ◌∷◌, ◌++◌, length, map, refl, sym, ap, subst, arith, append-nil, Contains, Bool, true, false, Bor, slice_index, slice_index_or}
use Rattle.std.specs.Prelude.{String, string_bytes, Some}
use Rattle.std.specs.List.{IsDistinct, AllByRecursion}
use Rattle.std.specs.List.Sorted.{IsPermutation, IsSortedBy, IsPartitionedBy, IsPartitionPoint}
use Rattle.std.specs.Ordering.{is_lt, nat_cmp}
use Rattle.std.specs.Cmp.Lexicographic.{slice_cmp, nat_list_cmp_total}
use Rattle.std.specs.Str.{bytes_eq}
use Rattle.std.specs.String.{string_cmp, string_eq}
use Rattle.std.specs.declared.alloc.Global.{Global}
use Rattle.std.proofs.Math.ListN.{get_or}
use Rattle.std.proofs.Math.Seq.{get_or-append_seam}
use Rattle.std.proofs.lemmas.Bool.{cases_lt, true≢false}
use Rattle.std.proofs.lemmas.List.{length-map, get_or-map}
use Rattle.std.proofs.lemmas.List.Elements.{Contains-get_or, at_from_Contains}
use Rattle.std.proofs.lemmas.List.MinMax.{ranks_by}
use Rattle.std.proofs.lemmas.List.Sorted.{sorted_far, length_permutation, Contains-permutation, IsPermutation-map}
use Rattle.std.proofs.lemmas.Option.{slice_get-get_or}
use Rattle.spectro_spec.specs.System.{Label}
use Rattle.spectro_spec.specs.LabelOrder.{is_before_text}
use Rattle.spectro_spec.proofs.LabelOrder.{before-is, before-lower, before-neither, before-not_itself}
use Rattle.spectro_lts.specs.Numbered.{label_at}
use Rattle.spectro_lts.specs.Ranks.{texts_of, AreSorted, IsRank, AreRanks}
use Rattle.spectro_lts.specs.Tables.{IsRanking}
use Rattle.spectro_lts.proofs.Indexes.{at_each_more}
use Rattle.spectro_lts.proofs.LabelLaws.{one_number}

abbrev pub text_of : Bor (String Global) → Label
text_of label = string_bytes label.now

-- ---- sorted labels
sorted_map : {X Y : Type 0} (f : X → Y) (lt : Y → Y → Bool) (xs : List X) → IsSortedBy (λ x y. lt (f x) (f y)) xs → IsSortedBy lt (map f xs)
sorted_map f lt [] up k d low within = absurd (omega arith)
sorted_map f lt (x ∷ xs) up k d low within =
    let size = length-map (x ∷ xs) f in
    let next = get_or-map f (x ∷ xs) (k + 1) x d (omega (arith, size)) in
    let this = get_or-map f (x ∷ xs) k x d (omega (arith, size)) in
    ap (λ y. lt y (get_or (map f (x ∷ xs)) k d)) next ∙ ap (λ y. lt (f (get_or (x ∷ xs) (k + 1) x)) y) this ∙ up k x low (omega (arith, size))

pub sorted_texts : (texts : List Label) (old new : List (Bor (String Global))) (left : List (String Global)) → texts_of old ++ map string_bytes left ≡ texts
    → left ≡ [] → IsPermutation old new
    → IsSortedBy (λ (x y : Bor (String Global)). is_lt (string_cmp x.now y.now)) new → AreSorted texts (texts_of new)
sorted_texts texts old new left all none moved sorted =
    let whole : texts_of old ≡ texts = sym (append-nil (texts_of old)) ∙ ap (λ more. texts_of old ++ map string_bytes more) (sym none) ∙ all in
    let in_order : IsSortedBy (λ text other. is_lt (slice_cmp nat_cmp text other)) (texts_of new) = sorted_map text_of
    (λ text other. is_lt (slice_cmp nat_cmp text other)) new sorted in
    record {
      long = length-map new text_of ∙ length_permutation old new moved ∙ sym (length-map old text_of) ∙ ap length whole;
      has = λ text member. Contains-permutation (texts_of old) (texts_of new) text (IsPermutation-map text_of old new moved)
          (subst (λ xs. Contains xs text) (sym whole) member);
      rise = λ k later up within. before-is (slice_index_or (texts_of new) later []) (slice_index_or (texts_of new) k [])
          ∙ sorted_far (λ text other. is_lt (slice_cmp nat_cmp text other)) (ranks_by nat_list_cmp_total (λ text. text))
          (texts_of new) in_order k later [] up within;
    }

-- ---- the rank of one label
pub rank_from : (label : String Global) (sorted : List (Bor (String Global))) (place : ℕ) → place ≤ length sorted
    → IsPartitionPoint (λ (y : Bor (String Global)). is_lt (string_cmp y.now label) ≡ true)
    (λ (y : Bor (String Global)). is_lt (string_cmp y.now label) ≡ false) sorted place
    → IsRank (texts_of sorted) (string_bytes label) place
rank_from label [] place within parted = record { within = within; below = λ k h. absurd (omega arith); above = λ k h w. absurd (omega arith) }
rank_from label (first ∷ sorted) place within parted =
    let size = length-map (first ∷ sorted) text_of in
    record {
      within = omega (arith, size);
      below = λ k h. tested k true (omega arith) (parted.0 k first (omega arith) h);
      above = λ k h w. tested k false (omega (arith, size)) (parted.1 k first h (omega (arith, size)));
    }
  where
    tested : (k : ℕ) (b : Bool) → k < length (first ∷ sorted) → is_lt (string_cmp (get_or (first ∷ sorted) k first).now label) ≡ b
        → is_before_text (slice_index_or (texts_of (first ∷ sorted)) k []) (string_bytes label) ≡ b
    tested k b inside test =
        ap (λ text. is_before_text text (string_bytes label)) (get_or-map text_of (first ∷ sorted) k first [] inside)
        ∙ before-is (text_of (get_or (first ∷ sorted) k first)) (string_bytes label) ∙ test

-- what comes before a label comes first among the sorted
pub parted_by : (texts : List Label) (sorted : List (Bor (String Global))) (label : String Global) → AreSorted texts (texts_of sorted)
    → IsPartitionedBy (λ (y : Bor (String Global)). is_lt (string_cmp y.now label)) sorted
parted_by texts sorted label are_sorted k later default up within is =
    let size = length-map sorted text_of in
    let first = get_or-map text_of sorted k default [] (omega arith) in
    let last = get_or-map text_of sorted later default [] within in
    sym (before-is (text_of (get_or sorted k default)) (string_bytes label))
    ∙ before-lower (text_of (get_or sorted k default)) (text_of (get_or sorted later default)) (string_bytes label)
    (subst (λ text. is_before_text (text_of (get_or sorted later default)) text ≡ false) first
    (subst (λ text. is_before_text text (slice_index_or (texts_of sorted) k []) ≡ false) last (are_sorted.rise k later up (omega (arith, size, within)))))
    (before-is (text_of (get_or sorted later default)) (string_bytes label) ∙ is)

-- ---- the ranks of all
apart_from_each : (label : String Global) (labels : List (String Global)) → AllByRecursion (λ other. string_eq label other ≡ false) labels
    → AllByRecursion (λ text. bytes_eq (string_bytes label) text ≡ false) (map string_bytes labels)
apart_from_each label [] apart = tt
apart_from_each label (other ∷ labels) apart = (apart.0, apart_from_each label labels apart.1)

pub distinct_texts : (labels : List (String Global)) → IsDistinct string_eq labels → IsDistinct bytes_eq (map string_bytes labels)
unfolding IsDistinct
distinct_texts [] distinct = tt
distinct_texts (label ∷ labels) distinct = (apart_from_each label labels distinct.0, distinct_texts labels distinct.1)

pub label_at-text : (labels : List (String Global)) (label_no : ℕ) → label_at labels label_no ≡ slice_index_or (map string_bytes labels) label_no []
label_at-text [] label_no = refl
label_at-text (label ∷ labels) zero = refl
label_at-text (label ∷ labels) (suc label_no) = label_at-text labels label_no

pub ranks_more : (texts sorted yielded : List Label) (rest : List Label) (label : Label) (ranks : List ℕ) (rank : ℕ) → yielded ++ label ∷ rest ≡ texts
    → length ranks ≡ length yielded
    → ((label_no : ℕ) → label_no < length ranks → IsRank sorted (slice_index_or texts label_no []) (slice_index ranks label_no)) → IsRank sorted label rank
    → (label_no : ℕ) → label_no < length ranks + 1 → IsRank sorted (slice_index_or texts label_no []) (slice_index (ranks ++ rank ∷ []) label_no)
ranks_more texts sorted yielded rest label ranks rank all long each here =
    let at : slice_index_or texts (length ranks) [] ≡ label =
    subst (λ n. slice_index_or texts n [] ≡ label) (sym long)
    (subst (λ xs. slice_index_or xs (length yielded) [] ≡ label) all (get_or-append_seam yielded label rest [])) in
    at_each_more (λ label_no rank. IsRank sorted (slice_index_or texts label_no []) rank) ranks (length ranks) rank refl each
    (subst (λ text. IsRank sorted text rank) (sym at) here)

-- ranks of texts, which are apart
module _ (texts sorted : List Label) (ranks : List ℕ) (distinct : IsDistinct bytes_eq texts) (are_sorted : AreSorted texts sorted)
    (long : length ranks ≡ length texts)
    (each : (label_no : ℕ) → label_no < length ranks → IsRank sorted (slice_index_or texts label_no []) (slice_index ranks label_no)) where
  -- where the text stands among the sorted ones: not before its rank
  stands : (label_no : ℕ) → label_no < length texts
      → (k : ℕ) × (k < length sorted) × (slice_index_or sorted k [] ≡ slice_index_or texts label_no []) × (slice_index ranks label_no ≤ k)
  stands label_no within =
      let found = at_from_Contains sorted (slice_index_or texts label_no [])
      (are_sorted.has (slice_index_or texts label_no []) (Contains-get_or texts label_no [] within)) in
      (found.0, found.1, found.2 [], go found.0 (found.2 []) (cases_lt found.0 (slice_index ranks label_no)))
    where
      go : (k : ℕ) → slice_index_or sorted k [] ≡ slice_index_or texts label_no [] → (k < slice_index ranks label_no) ⊎ (slice_index ranks label_no ≤ k)
          → slice_index ranks label_no ≤ k
      go k same (inr up) = up
      go k same (inl less) =
          let before = (each label_no (omega (arith, long))).below k less in
          absurd (true≢false (sym (subst (λ text. is_before_text text (slice_index_or texts label_no []) ≡ true) same before) ∙ before-not_itself
          (slice_index_or texts label_no [])))

  -- a text that comes before has the lower rank
  rises : (label_no other : ℕ) → label_no < length texts → other < length texts
      → is_before_text (slice_index_or texts label_no []) (slice_index_or texts other []) ≡ true → slice_index ranks label_no < slice_index ranks other
  rises label_no other within other_within before =
      let at = stands label_no within in
      go at.0 at.1 at.2 at.3 (cases_lt at.0 (slice_index ranks other))
    where
      go : (k : ℕ) → k < length sorted → slice_index_or sorted k [] ≡ slice_index_or texts label_no [] → slice_index ranks label_no ≤ k
          → (k < slice_index ranks other) ⊎ (slice_index ranks other ≤ k) → slice_index ranks label_no < slice_index ranks other
      go k inside same up (inl less) = omega arith
      go k inside same up (inr past) =
          let not_before = (each other (omega (arith, long))).above k past inside in
          absurd (true≢false (sym before ∙ subst (λ text. is_before_text text (slice_index_or texts other []) ≡ false) same not_before))

  one_text : (label_no other : ℕ) → label_no < length texts → other < length texts → slice_index_or texts label_no [] ≡ slice_index_or texts other []
      → label_no ≡ other
  one_text label_no other within other_within same =
      one_number texts (slice_index_or texts label_no []) label_no other distinct (slice_get-get_or texts label_no [] within)
      (slice_get-get_or texts other [] other_within ∙ ap Some (sym same))

  below : (label_no : ℕ) → label_no < length texts → slice_index ranks label_no < length texts
  below label_no within = let at = stands label_no within in omega (arith, at.1, at.3, are_sorted.long)

  -- the one, the other, or neither comes first
  compared : (label_no other : ℕ) → label_no < length texts → other < length texts
      → (slice_index ranks label_no < slice_index ranks other) ⊎ ((slice_index ranks other < slice_index ranks label_no) ⊎ (label_no ≡ other))
  compared label_no other within other_within = go (is_before_text (slice_index_or texts label_no []) (slice_index_or texts other []))
      (is_before_text (slice_index_or texts other []) (slice_index_or texts label_no [])) refl refl
    where
      go : (first last : Bool) → is_before_text (slice_index_or texts label_no []) (slice_index_or texts other []) ≡ first
          → is_before_text (slice_index_or texts other []) (slice_index_or texts label_no []) ≡ last
          → (slice_index ranks label_no < slice_index ranks other) ⊎ ((slice_index ranks other < slice_index ranks label_no) ⊎ (label_no ≡ other))
      go true last is is_last = inl (rises label_no other within other_within is)
      go false true is is_last = inr (inl (rises other label_no other_within within is_last))
      go false false is is_last = inr
          (inr (one_text label_no other within other_within (before-neither (slice_index_or texts label_no []) (slice_index_or texts other []) is is_last)))

  ranking : length texts ≤ 131072 → IsRanking ranks
  ranking few = record {
    few = omega (arith, long);
    below = λ label_no within. omega (arith, long, below label_no (omega (arith, long)));
    apart = λ label_no other within other_within same. elim (compared label_no other (omega (arith, long)) (omega (arith, long))) [
      | inl less ↦ absurd (omega (arith, less, same))
      | inr later ↦ elim later [ inl more ↦ absurd (omega (arith, more, same)) | inr one ↦ one ]
    ];
  }

  in_order : (label_no other : ℕ) → label_no < length texts → other < length texts → slice_index ranks label_no < slice_index ranks other
      → is_before_text (slice_index_or texts label_no []) (slice_index_or texts other []) ≡ true
  in_order label_no other within other_within less = go (is_before_text (slice_index_or texts label_no []) (slice_index_or texts other []))
      (is_before_text (slice_index_or texts other []) (slice_index_or texts label_no [])) refl refl
    where
      go : (first last : Bool) → is_before_text (slice_index_or texts label_no []) (slice_index_or texts other []) ≡ first
          → is_before_text (slice_index_or texts other []) (slice_index_or texts label_no []) ≡ last → first ≡ true
      go true last is is_last = refl
      go false true is is_last = let more = rises other label_no other_within within is_last in absurd (omega (arith, less, more))
      go false false is is_last =
          let one = one_text label_no other within other_within
          (before-neither (slice_index_or texts label_no []) (slice_index_or texts other []) is is_last) in
          absurd (omega (arith, less, ap (λ k. slice_index ranks k) one))

pub are_ranks : (labels : List (String Global)) (sorted : List Label) (ranks : List ℕ) → length labels ≤ 131072 → IsDistinct string_eq labels
    → AreSorted (map string_bytes labels) sorted → length ranks ≡ length labels
    → ((label_no : ℕ) → label_no < length ranks → IsRank sorted (slice_index_or (map string_bytes labels) label_no []) (slice_index ranks label_no))
    → AreRanks labels ranks
are_ranks labels sorted ranks few distinct are_sorted long each =
    let texts = map string_bytes labels in
    let size : length (map string_bytes labels) ≡ length labels = length-map labels string_bytes in
    let as_long : length ranks ≡ length (map string_bytes labels) = omega (arith, size, long) in
    record {
      long = long;
      ranking = ranking texts sorted ranks (distinct_texts labels distinct) are_sorted as_long each (omega (arith, size, few));
      rise = λ label_no other within other_within less.
          ap (λ text. is_before_text text (label_at labels other)) (label_at-text labels label_no)
          ∙ ap (is_before_text (slice_index_or texts label_no [])) (label_at-text labels other)
          ∙ in_order texts sorted ranks (distinct_texts labels distinct) are_sorted as_long each label_no other (omega (arith, size, within))
          (omega (arith, size, other_within)) less;
    }
