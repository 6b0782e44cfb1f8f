use Rattle.std.proofs.Common.{refl}
use Rattle.spectro_io.proofs.Shelved.{held-inserted, others-inserted}
use Rattle.spectro_io.proofs.memory.shelf.MemShelf.put.Goals as goal

pub returns-clause-ok : goal.returns-clause-ok
returns-clause-ok c =
    let s = c.self.inside in
    let entries = c.in_ok-insert.ensures.entries in
    let name = c.in_ok-name.ensures.ok in
    rw (← c.self.view_is) (record {
      held = held-inserted s.texts.entries _ c.in_ok-name.name c.in_ok-text.text _ _ entries name c.in_ok-text.ensures.items;
      others = λ other differ. others-inserted s.texts.entries _ c.in_ok-name.name c.in_ok-text.text _ other entries name differ;
      closed = refl;
      most = refl;
      plan = refl;
    })
