use Rattle.std.proofs.Common.{◌≡◌, [], ◌∷◌, take, flat_map}
use Rattle.spectro_spec.specs.System.{post}
use Rattle.spectro_lts.specs.Labels.{label_of}
use Rattle.spectro_lts.proofs.lts.Lts.post.Given as goal

abbrev pub invariant-loop-q : goal.invariant-loop-q
invariant-loop-q l = l.states.items ≡ flat_map (λ q. post l.self (q ∷ []) (label_of l.self.steps l.no)) (take l.q-index l.set)
