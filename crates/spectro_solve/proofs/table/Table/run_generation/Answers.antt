use Rattle.std.proofs.Common.{ℕ, ◌∙◌, inl, inr, ◌+◌, false, length, sym, ap, subst, arith, Contains, List}
use Rattle.std.specs.Prelude.{◌↔◌}
use Rattle.std.specs.Vec.{vec_len}
use Rattle.std.proofs.lemmas.List.{length-replicate}
use Rattle.spectro_spec.proofs.Members.{Contains-none}
use Rattle.spectro_spec.specs.Price.{Price}
use Rattle.spectro_solve.specs.Changes.{Changes, AreChanges, ArePut, PrecedesSome}
use Rattle.spectro_solve.specs.Marks.{IsMarked, count_marked}
use Rattle.spectro_solve.specs.Tables.{Solved}
use Rattle.spectro_solve.proofs.Changing.{no-members, put-none, precedes-none, some-member}
use Rattle.spectro_solve.proofs.Marked.{marked-below, never-marked, written-back}
use Rattle.spectro_solve.proofs.Generating.{fresh-after, goes-on-changed, goes-on-still}
use Rattle.spectro_solve.proofs.table.Table.run_generation.Goals as goal

pub evaluate_marked-requires-clause-numbers : goal.evaluate_marked-requires-clause-numbers
evaluate_marked-requires-clause-numbers g c k listed =
    let below = marked-below c.sort.new.self k ((c.numbers.ensures.members k).0 listed) in
    omega (arith, below, ap {B = ℕ} length c.sort.ensures, c.requires.marks)

pub returns-then-is_empty-clause-next : goal.returns-then-is_empty-clause-next
returns-then-is_empty-clause-next g c system weighing starts source n before =
    let none = no-members c.in_ok-changes.changes.items (vec_len c.in_ok-changes.changes) (omega arith) (sym c.if-is_empty.ensures) in
    goes-on-still weighing system starts c.args.arena.now source n c.args.self.now _ c.args.marks.now c.clear.new.self c.numbers.result.now
    c.in_ok-changes.changes.items
    (record {
      numbered = λ k. subst (λ flags. Contains c.numbers.result.now k ↔ IsMarked flags k) c.sort.ensures (c.numbers.ensures.members k);
      many = c.numbers.ensures.count ∙ ap count_marked c.sort.ensures;
      found = subst (λ (rows : List (List Price)). AreChanges c.args.arena.now rows c.numbers.result.now c.in_ok-changes.changes.items)
          (ap (λ (table : Solved). table.rows) c.self.view_is) c.in_ok-changes.ensures.changes;
      put = subst (λ (table : Solved). ArePut c.in_ok-changes.changes.items table.rows c.self.inside.lists.items) c.self.view_is
          (subst (λ changes. ArePut changes c.self.inside.lists.items c.self.inside.lists.items) (sym none) (put-none c.self.inside.lists.items));
      marks = ap length c.clear.ensures ∙ length-replicate (length c.sort.new.self) false ∙ ap length c.sort.ensures ∙ c.requires.marks;
      marked = λ k. (
        (λ marked. absurd (never-marked c.clear.new.self (length c.sort.new.self) k c.clear.ensures marked)),
        λ found. absurd (precedes-none system c.args.arena.now.pairs k (subst (λ changes. PrecedesSome system c.args.arena.now.pairs changes k) none found)),
      );
      evaluations = omega (arith, ap (λ (table : Solved). table.evaluations) c.self.view_is, c.numbers.ensures.count, c.numbers-2.ensures.count);
    }) before (λ k list change. Contains-none _ (subst (λ changes. Changes changes k list) none change))
    (ap (λ (table : Solved). table.generations) c.self.view_is)

pub mark_predecessors-requires-clause-changes : goal.mark_predecessors-requires-clause-changes
mark_predecessors-requires-clause-changes g c k list change =
    let below = marked-below c.sort.new.self k ((c.numbers.ensures.members k).0
    (c.in_ok-changes.ensures.changes.within k list (subst (λ changes. Changes changes k list) c.deref.ensures.value change))) in
    omega (arith, below, ap {B = ℕ} length c.sort.ensures, c.requires.marks)

pub put_in-requires : goal.put_in-requires
put_in-requires g c k list change =
    let below = marked-below c.sort.new.self k ((c.numbers.ensures.members k).0 (c.in_ok-changes.ensures.changes.within k list change)) in
    let rows = ap (λ (table : Solved). length table.rows) c.self.view_is in
    omega (arith, below, ap {B = ℕ} length c.sort.ensures, c.requires.marks, c.requires.rows, rows, ap {B = ℕ} length c.deref_mut.ensures.value)

pub returns-clause-next : goal.returns-clause-next
returns-clause-next g c system weighing starts source n before =
    let some = some-member c.in_ok-changes.changes.items (vec_len c.in_ok-changes.changes) (omega arith) (sym c.if-is_empty.ensures) in
    let written = written-back c.put_in.new.lists c.self.inside.lists.items c.self.inside.lists.len
    (omega (arith, c.put_in.ensures.many, ap {B = ℕ} length c.deref_mut.ensures.value)) in
    goes-on-changed weighing system starts c.args.arena.now source n c.args.self.now _ c.args.marks.now c.mark_predecessors.new.marks c.numbers.result.now
    c.in_ok-changes.changes.items
    (record {
      numbered = λ k. subst (λ flags. Contains c.numbers.result.now k ↔ IsMarked flags k) c.sort.ensures (c.numbers.ensures.members k);
      many = c.numbers.ensures.count ∙ ap count_marked c.sort.ensures;
      found = subst (λ (rows : List (List Price)). AreChanges c.args.arena.now rows c.numbers.result.now c.in_ok-changes.changes.items)
          (ap (λ (table : Solved). table.rows) c.self.view_is) c.in_ok-changes.ensures.changes;
      put = subst (ArePut c.in_ok-changes.changes.items c.args.self.now.rows) (sym written)
          (subst (λ (rows : List (List Price)). ArePut c.in_ok-changes.changes.items rows c.put_in.new.lists)
          (c.deref_mut.ensures.value ∙ ap (λ (table : Solved). table.rows) c.self.view_is) c.put_in.ensures);
      marks = c.in_ok-mark_predecessors.ensures.len
          ∙ ap length c.clear.ensures ∙ length-replicate (length c.sort.new.self) false ∙ ap length c.sort.ensures ∙ c.requires.marks;
      marked = λ k. let more = c.in_ok-mark_predecessors.ensures.marked system weighing starts source k in (
        (λ marked. elim (more.0 marked) [
          | inl old ↦ absurd (never-marked c.clear.new.self (length c.sort.new.self) k c.clear.ensures old)
          | inr found ↦ subst (λ changes. PrecedesSome system c.args.arena.now.pairs changes k) c.deref.ensures.value found
        ]),
        λ found. more.1 (inr (subst (λ changes. PrecedesSome system c.args.arena.now.pairs changes k) (sym c.deref.ensures.value) found)),
      );
      evaluations = omega (arith, ap (λ (table : Solved). table.evaluations) c.self.view_is, c.numbers.ensures.count, c.numbers-2.ensures.count);
    }) before some.0.pair some.0.list some.1 (ap (λ (table : Solved). table.generations + 1) c.self.view_is)

pub returns-then-is_empty-clause-changed : goal.returns-then-is_empty-clause-changed
returns-then-is_empty-clause-changed g c system weighing starts source n before =
    let none = no-members c.in_ok-changes.changes.items (vec_len c.in_ok-changes.changes) (omega arith) (sym c.if-is_empty.ensures) in
    fresh-after weighing system starts c.args.arena.now source n c.args.self.now.rows c.args.marks.now c.numbers.result.now c.in_ok-changes.changes.items
    before.rows before.marks (λ k. subst (λ flags. Contains c.numbers.result.now k ↔ IsMarked flags k) c.sort.ensures (c.numbers.ensures.members k))
    (subst (λ (rows : List (List Price)). AreChanges c.args.arena.now rows c.numbers.result.now c.in_ok-changes.changes.items)
    (ap (λ (table : Solved). table.rows) c.self.view_is) c.in_ok-changes.ensures.changes) c.clear-2.new.self
    (λ k (list, change). absurd (Contains-none _ (subst (λ changes. Changes changes k list) none change)))

pub mark_changed-requires : goal.mark_changed-requires
mark_changed-requires g c k list change =
    let below = marked-below c.sort.new.self k ((c.numbers.ensures.members k).0
    (c.in_ok-changes.ensures.changes.within k list (subst (λ changes. Changes changes k list) c.deref-2.ensures.value change))) in
    omega (
      arith,
      below,
      ap {B = ℕ} length c.sort.ensures,
      c.requires.marks,
      c.requires.fresh,
      ap {B = ℕ} length c.clear-2.ensures,
      length-replicate (length c.args.fresh.now) false,
    )

pub returns-clause-changed : goal.returns-clause-changed
returns-clause-changed g c system weighing starts source n before =
    fresh-after weighing system starts c.args.arena.now source n c.args.self.now.rows c.args.marks.now c.numbers.result.now c.in_ok-changes.changes.items
    before.rows before.marks (λ k. subst (λ flags. Contains c.numbers.result.now k ↔ IsMarked flags k) c.sort.ensures (c.numbers.ensures.members k))
    (subst (λ (rows : List (List Price)). AreChanges c.args.arena.now rows c.numbers.result.now c.in_ok-changes.changes.items)
    (ap (λ (table : Solved). table.rows) c.self.view_is) c.in_ok-changes.ensures.changes) c.mark_changed.new.fresh
    (λ k (list, change). (c.in_ok-mark_changed.ensures.marked k).1 (inr (list, subst (λ changes. Changes changes k list) (sym c.deref-2.ensures.value) change)))
