use Rattle.std.proofs.Common.{◌≡◌, ◌≤◌, ◌∙◌, ap, subst, length, arith}
use Rattle.std.specs.Prelude.{string_bytes}
use Rattle.spectro_weights.specs.Setting.{with_weight}
use Rattle.spectro_weights.specs.Entries.{weighing_of}
use Rattle.spectro_weights.proofs.Entries.{weighing_of-insert_entry, IsDistinct-weighing_of}
use Rattle.spectro_weights.proofs.Setting.{few-with_weight, IsWeighing-with_weight}
use Rattle.spectro_weights.proofs.weights.Weights.insert.Goals as goal

placed : (c : goal.In_ok-insert) → weighing_of c.insert.new.self.entries ≡ with_weight c.args.self.now (string_bytes c.args.label) c.args.weight
placed c =
    ap weighing_of c.in_ok-insert.ensures.entries ∙ weighing_of-insert_entry c.args.label c.args.weight c.self.inside.weights.entries
    ∙ ap (λ weighing. with_weight weighing (string_bytes c.args.label) c.args.weight) c.self.view_is

pub invariant_of-self-2 : goal.invariant_of-self-2
invariant_of-self-2 c =
    let label = string_bytes c.args.label in
    let light : c.args.weight ≤ 255 = omega (arith, c.ranges.weight.fits) in
    let few : length c.args.self.now ≤ 65536 = subst (λ weighing. length weighing ≤ 65536) c.self.view_is c.self.invariant.few in
    record {
      distinct = IsDistinct-weighing_of c.insert.new.self.entries c.in_ok-insert.ensures.unique;
      few = rw (placed c) (few-with_weight label c.args.weight c.args.self.now few c.requires.room);
      weights = rw (placed c, ← c.self.view_is)
          (IsWeighing-with_weight label c.args.weight light (weighing_of c.self.inside.weights.entries) c.self.invariant.weights);
    }

pub returns-clause-list : goal.returns-clause-list
returns-clause-list c = placed c
