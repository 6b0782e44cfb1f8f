-- A place that is there was there before, or is that of the mask.
use Rattle.std.proofs.Common.{◌∙◌, inl, inr, get_or, refl, arith}
use Rattle.std.proofs.lemmas.List.{length-set}
use Rattle.spectro_pairs.specs.declared.lattices.Place.{Place}
use Rattle.spectro_pairs.proofs.LatticePlaces.{placed-set}
use Rattle.spectro_pairs.proofs.lattices.Lattices.put.Goals as goal

pub index_mut-requires : goal.index_mut-requires
index_mut-requires c =
    omega (
      arith,
      c.requires.pairs c.loop-mask.mask c.loop-mask.auto.mask c.loop-mask-test.true,
      c.loop-mask.invariant.count,
      c.loop-mask.self.places.ok.0,
    )

pub loop-mask-init : goal.loop-mask-init
loop-mask-init c = record { tables = refl; count = refl; places = λ k place has. inl has }

pub loop-mask-preserved : goal.loop-mask-preserved
loop-mask-preserved c =
    let a = c.loop-mask.self in
    let n = get_or c.args.table.now c.loop-mask.mask 0 in
    let here : Place = record { table = c.args.no; mask = c.loop-mask.mask } in
    record {
      tables = c.loop-mask.invariant.tables;
      count = length-set a.places.items n here ∙ c.loop-mask.invariant.count;
      places = λ k place has. elim
          (placed-set a _ c.args.table.now c.args.no c.loop-mask.mask n refl refl c.loop-mask.auto.mask c.loop-mask-test.true k place has) [
            | inl old ↦ c.loop-mask.invariant.places k place old
            | inr new ↦ inr new
          ];
    }
