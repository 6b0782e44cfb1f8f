use Rattle.std.proofs.Common.{◌≡◌, ◌∙◌, true, false, refl, sym, ap, subst}
use Rattle.std.specs.List.{list_all}
use Rattle.spectro_notions.specs.Bounds.{bound_of}
use Rattle.spectro_notions.specs.Faults.{bad_number}
use Rattle.spectro_notions.specs.NotionLines.{HasForm, is_small}
use Rattle.spectro_notions.proofs.SixParts.{all_small-capped, all_capped-small}
use Rattle.spectro_notions.proofs.line.entry_in.Goals as goal

pub returns-in_default-bound_in : goal.returns-in_default-bound_in
returns-in_default-bound_in c =
    let fields = c.in-Some.ensures in
    let great : list_all is_small fields.parts ≡ false = sym (all_small-capped fields.parts) ∙ sym (ap (list_all is_small) fields.capped)
    ∙ c.in_default-bound_in.ensures in
    bad_number c.in-Some.fields.name.now fields.parts fields.form great refl

pub returns : goal.returns
returns c =
    let fields = c.in-Some.ensures in
    let bound = c.in-Some-bound_in.ensures in
    let small : list_all is_small fields.parts ≡ true = sym (all_small-capped fields.parts) ∙ sym (ap (list_all is_small) fields.capped) ∙ bound.1 in
    record {
      parts = fields.parts;
      form = subst (λ name. HasForm c.args.line.now name fields.parts) (sym c.in_ok-name.ensures.ok) fields.form;
      bound = ap bound_of (bound.0 ∙ fields.capped ∙ all_capped-small fields.parts small);
      small = small;
    }
