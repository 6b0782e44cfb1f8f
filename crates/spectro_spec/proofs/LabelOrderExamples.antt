-- Worked values of the order of labels, which the checker computes.
use Rattle.std.proofs.Common.{◌≡◌, [], ◌∷◌, refl, true, false}
use Rattle.std.specs.Prelude.{codes}
use Rattle.spectro_spec.specs.LabelOrder.{is_before_text, labels_from}
use Rattle.spectro_spec.proofs.Samples.{a, b, c, mixed}

texts-in_order : is_before_text [] a ≡ true
texts-in_order = refl

texts-beginning_first : is_before_text a (codes "ab") ≡ true
texts-beginning_first = refl

texts-by_byte : is_before_text (codes "ab") b ≡ true
texts-by_byte = refl

texts-not_before_itself : is_before_text (codes "ab") (codes "ab") ≡ false
texts-not_before_itself = refl

texts-not_before_its_beginning : is_before_text (codes "ab") a ≡ false
texts-not_before_its_beginning = refl

labels_from-mixed : labels_from mixed.steps 0 ≡ a ∷ codes "ab" ∷ b ∷ []
labels_from-mixed = refl

labels_from-other_state : labels_from mixed.steps 1 ≡ b ∷ c ∷ []
labels_from-other_state = refl

labels_from-stopped : labels_from mixed.steps 3 ≡ []
labels_from-stopped = refl
