use Rattle.std.proofs.Common.{◌∙◌, ap, map}
use Rattle.spectro_notions.specs.Entries.{notion_in}
use Rattle.spectro_notions.specs.Tables.{has_name}
use Rattle.spectro_notions.proofs.Growing.{has_name-entries}
use Rattle.spectro_notions.proofs.draft.Draft.has_name.Goals as goal

pub returns : goal.returns
returns c =
    let name = c.args.name.now in
    c.has_name.ensures ∙ has_name-entries name c.deref.result.now ∙ ap (λ entries. has_name (map notion_in entries) name) c.deref.ensures.value
    ∙ ap (λ table. has_name table name) c.self.view_is
