-- Labels by their places in the order of bytes.
use Rattle.std.specs.Prelude.{◌≡◌, ℕ, ◌<◌, ◌≤◌, List, [], length, map, true, false, Contains, String, string_bytes, slice_index, slice_index_or}
use Rattle.std.specs.Borrow.{Bor}
use Rattle.std.specs.declared.alloc.Global.{Global}
use Rattle.spectro_spec.specs.System.{Label}
use Rattle.spectro_spec.specs.LabelOrder.{is_before_text}
use Rattle.spectro_lts.specs.Numbered.{label_at}
use Rattle.spectro_lts.specs.Tables.{IsRanking}

abbrev pub texts_of : List (Bor (String Global)) → List Label
texts_of labels = map (λ (label : Bor (String Global)). string_bytes label.now) labels

-- the texts are there, and none comes before an earlier one in the order of bytes
pub record AreSorted (texts sorted : List Label) : Type 0 where
  pub long : length sorted ≡ length texts
  pub has : (text : Label) → Contains texts text → Contains sorted text
  pub rise : (k later : ℕ) → k ≤ later → later < length sorted → is_before_text (slice_index_or sorted later []) (slice_index_or sorted k []) ≡ false

-- the texts before the place come before this one, and the others do not
pub record IsRank (sorted : List Label) (text : Label) (place : ℕ) : Type 0 where
  pub within : place ≤ length sorted
  pub below : (k : ℕ) → k < place → is_before_text (slice_index_or sorted k []) text ≡ true
  pub above : (k : ℕ) → place ≤ k → k < length sorted → is_before_text (slice_index_or sorted k []) text ≡ false

-- each label has a rank of its own, and the ranks rise with the texts
pub record AreRanks (labels : List (String Global)) (ranks : List ℕ) : Type 0 where
  pub long : length ranks ≡ length labels
  pub ranking : IsRanking ranks
  pub rise : (label_no other : ℕ) → label_no < length labels → other < length labels → slice_index ranks label_no < slice_index ranks other
      → is_before_text (label_at labels label_no) (label_at labels other) ≡ true
