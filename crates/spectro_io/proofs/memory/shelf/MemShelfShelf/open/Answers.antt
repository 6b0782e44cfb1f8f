use Rattle.std.proofs.Common.{◌∙◌, sym}
use Rattle.spectro_io.proofs.Shelved.{opened-named, found-named}
use Rattle.spectro_io.proofs.memory.shelf.MemShelfShelf.open.Goals as goal

pub returns-clause-opened : goal.returns-clause-opened
returns-clause-opened c =
    let s = c.self.inside in
    let at = c.get_index_of-self-inside in
    rw (← c.self.view_is, c.is_some.ensures) (opened-named s.texts.entries c.args.name.now at.result at.ensures.found at.ensures.value)

pub returns-clause-found : goal.returns-clause-found
returns-clause-found c =
    let s = c.self.inside in
    rw (← c.self.view_is) (c.is_some.ensures ∙ c.get_index_of-self-inside.ensures.found ∙ sym (found-named s.texts.entries c.args.name.now))
