use Rattle.std.proofs.Common.{subst, sym, ◌<◌, length, ◌∙◌, false, set, true, List, Bool}
use Rattle.std.proofs.lemmas.List.{get_or_default}
use Rattle.spectro_solve.specs.Marks.{AreMarks}
use Rattle.spectro_solve.proofs.Marked.{one-more}
use Rattle.spectro_solve.proofs.marks.Marks.mark.Goals as goal

pub invariant_of-self-2 : goal.invariant_of-self-2
invariant_of-self-2 c = subst (AreMarks (set c.self.inside.flags.items c.args.k true)) (sym c.in_ok-push.ensures.items)
    (one-more c.self.inside.flags.items c.self.inside.numbers.items c.args.k c.self.invariant below
    (get_or_default c.self.inside.flags.items c.args.k false c.index.result.now below ∙ sym c.index.ensures ∙ c.if-index.false))
  where
    below : c.args.k < length c.self.inside.flags.items
    below = subst (λ (l : List Bool). c.args.k < length l) (sym c.self.view_is) c.requires
