-- The open row ends where the items do.
use Rattle.std.proofs.Common.{◌≡◌, ◌++◌, ◌∷◌, [], length, ap, ◌∙◌, arith}
use Rattle.spectro_rows.proofs.RowLists.{ends-closed, rows_of-closed}
use Rattle.spectro_rows.proofs.rows.Rows.close.Given.{Over}
use Rattle.spectro_rows.proofs.rows.Rows.close.Goals as goal

closed : (g : Over) (c : goal.In_ok-push g) → c.push.new.self.items ≡ c.self.inside.ends.items ++ length c.self.inside.items.items ∷ []
closed g c = c.in_ok-push.ensures.items
    ∙ ap (λ n. c.self.inside.ends.items ++ n ∷ [])
    (let count : c.len.result ≡ length c.self.inside.items.items = omega (arith, c.len.ensures, c.self.inside.items.ok) in count)

pub invariant_of-self-2 : goal.invariant_of-self-2
invariant_of-self-2 g c = rw (closed g c) (ends-closed 0 c.self.inside.ends.items c.self.inside.items.items c.self.invariant)

pub returns-clause-ok : goal.returns-clause-ok
returns-clause-ok g c = rows_of-closed c.self.inside.ends.items c.self.inside.items.items c.push.new.self.items _ c.self.view_is (closed g c)
