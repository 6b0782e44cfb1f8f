use Rattle.std.proofs.Common.{rules, sym, subst}
use Rattle.spectro_energy.specs.Energy.{price_of, IsLexicographic}
use Rattle.spectro_energy.proofs.Lexicographic.{slice_cmp-IsLexicographic}
use Rattle.spectro_energy.proofs.energy.Energy.lex.Goals as goal

pub returns : goal.returns
returns c = subst (λ order. IsLexicographic order (price_of c.args.self.parts) (price_of c.args.other.parts)) (sym c.cmp.ensures)
    (slice_cmp-IsLexicographic c.args.self.parts c.args.other.parts (search rules) (search rules))
