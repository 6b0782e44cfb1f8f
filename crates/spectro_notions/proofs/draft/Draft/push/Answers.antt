use Rattle.std.proofs.Common.{◌≡◌, ◌∙◌, [], ◌∷◌, ◌++◌, map, sym, ap, subst}
use Rattle.spectro_notions.specs.Entries.{notion_in}
use Rattle.spectro_notions.specs.Tables.{AreNotions}
use Rattle.spectro_notions.proofs.Growing.{AreNotions-push, notions-push}
use Rattle.spectro_notions.proofs.draft.Draft.push.Goals as goal

pub invariant_of-self-2 : goal.invariant_of-self-2
invariant_of-self-2 c =
    let notion = notion_in c.args.entry in
    let pushed : map notion_in c.push.new.self.items ≡ c.args.self.now ++ notion ∷ [] = ap (map notion_in) c.in_ok-push.ensures.items
    ∙ notions-push c.self.inside.entries.items c.args.entry ∙ ap (λ table. table ++ notion ∷ []) c.self.view_is in
    subst AreNotions (sym pushed)
    (AreNotions-push c.args.self.now notion (subst AreNotions c.self.view_is c.self.invariant) c.requires.new c.requires.room)
