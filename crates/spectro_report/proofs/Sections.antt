-- Lines of names with what is said of each, one by one.
use Rattle.std.proofs.Common.{◌≡◌, ◌∙◌, ℕ, ◌+◌, ◌<◌, List, ◌++◌, get_or, length, map, take, drop, ap, sym, arith}
use Rattle.std.specs.Prelude.{slice_get, Some}
use Rattle.std.specs.List.{flat_map, zip}
use Rattle.std.specs.Option.{option_map}
use Rattle.std.proofs.lemmas.List.{length-map}
use Rattle.std.proofs.lemmas.Option.{slice_get_within, slice_get-map, slice_get-get_or, get_or_from_slice_get}
use Rattle.std.proofs.lemmas.Slice.Zip.{get_or-zip, length-zip}
use Rattle.spectro_io.proofs.Rows.{row-more, row-stopped}
use Rattle.spectro_spec.specs.Notion.{Notion}
use Rattle.spectro_energy.specs.declared.parts.Parts.{Parts}
use Rattle.spectro_notions.specs.Tables.{name_at, names_of}
use Rattle.spectro_report.specs.Texts.{equivalence_line, verdict_line}
use Rattle.spectro_report.specs.Verdicts.{Verdict, verdict_of}
use Rattle.spectro_report.specs.declared.verdict.Verdict as kept

-- the line of a name with its verdict
abbrev pub line_said : Parts → List ℕ × Verdict → List ℕ
line_said parts one = verdict_line parts one.0 one.1

-- the line of a name with its verdicts in both directions
abbrev pub line_answered : List ℕ × (Verdict × Verdict) → List ℕ
line_answered one = equivalence_line one.0 one.1.0 one.1.1

-- what stands in both lists at a place stands there side by side
beside-within : {A B : Type 0} (xs : List A) (ys : List B) (k : ℕ) (x : A) (y : B) → slice_get xs k ≡ Some x → slice_get ys k ≡ Some y
    → k < length (zip xs ys)
beside-within xs ys k x y here also = omega (arith, length-zip xs ys, slice_get_within xs k x here, slice_get_within ys k y also)

beside-at : {A B : Type 0} (xs : List A) (ys : List B) (k : ℕ) (x : A) (y : B) (d : A × B) → slice_get xs k ≡ Some x → slice_get ys k ≡ Some y
    → get_or (zip xs ys) k d ≡ (x, y)
beside-at xs ys k x y d here also =
    get_or-zip xs ys k d (slice_get_within xs k x here) (slice_get_within ys k y also)
    ∙ (λ i. (get_or_from_slice_get xs k x d.0 here i, get_or_from_slice_get ys k y d.1 also i))

pub beside : {A B : Type 0} (xs : List A) (ys : List B) (k : ℕ) (x : A) (y : B) → slice_get xs k ≡ Some x → slice_get ys k ≡ Some y
    → slice_get (zip xs ys) k ≡ Some (x, y)
beside xs ys k x y here also =
    slice_get-get_or (zip xs ys) k (x, y) (beside-within xs ys k x y here also) ∙ ap Some (beside-at xs ys k x y (x, y) here also)

module _ {Y : Type 0} (line : List ℕ × Y → List ℕ) (front : List ℕ) (names : List (List ℕ)) (others : List Y) (k : ℕ) (name : List ℕ) (other : Y)
    (here : slice_get names k ≡ Some name) (also : slice_get others k ≡ Some other) where
  -- one line more
  pub lines-more : (front ++ flat_map line (take k (zip names others))) ++ line (name, other) ≡ front ++ flat_map line (take (k + 1) (zip names others))
  lines-more =
      ap (λ one. (front ++ flat_map line (take k (zip names others))) ++ line one) (sym (beside-at names others k name other (name, other) here also))
      ∙ row-more line front (zip names others) k (name, other) (beside-within names others k name other here also)

  -- the lines up to a place, that of the place, and those behind it
  pub lines-stopped : front ++ flat_map line (zip names others)
      ≡ ((front ++ flat_map line (take k (zip names others))) ++ line (name, other)) ++ flat_map line (drop (k + 1) (zip names others))
  lines-stopped =
      row-stopped line front (zip names others) k (name, other) (beside-within names others k name other here also)
      ∙ ap (λ one. ((front ++ flat_map line (take k (zip names others))) ++ line one) ++ flat_map line (drop (k + 1) (zip names others)))
      (beside-at names others k name other (name, other) here also)

-- a name stands at its place among the names of a table
pub name-at : (table : List Notion) (k : ℕ) (name : List ℕ) → name_at table k ≡ Some name → slice_get (names_of table) k ≡ Some name
name-at table k name at = slice_get-map (λ (notion : Notion). notion.name) table k ∙ at

-- as many things as notions make as many lines
pub beside-long : {Y : Type 0} (table : List Notion) (others : List Y) → length others ≡ length table → length (zip (names_of table) others) ≡ length table
beside-long table others long = omega (arith, length-zip (names_of table) others, length-map table (λ (notion : Notion). notion.name), long)

pub pairs-long : {A B : Type 0} (xs : List A) (ys : List B) → length xs ≡ length ys → length (zip xs ys) ≡ length xs
pairs-long xs ys long = omega (arith, length-zip xs ys, long)

-- a verdict stands at its place, as it is kept
pub verdict-at : (verdicts : List kept.Verdict) (k : ℕ) (verdict : kept.Verdict) → k < length verdicts → verdict ≡ get_or verdicts k verdict
    → slice_get (map verdict_of verdicts) k ≡ Some (verdict_of verdict)
verdict-at verdicts k verdict below is =
    slice_get-map verdict_of verdicts k ∙ ap (option_map verdict_of) (slice_get-get_or verdicts k verdict below ∙ ap Some (sym is))
