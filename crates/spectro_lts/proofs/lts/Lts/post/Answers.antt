use Rattle.std.proofs.Common.{◌≡◌, ◌∙◌, ◌+◌, ◌<◌, ◌++◌, All, ℕ, List, [], ◌∷◌, length, take, flat_map, slice_index, ap, sym, subst, arith, append-nil}
use Rattle.std.specs.List.Sorted.{IsStrictlyIncreasing}
use Rattle.std.proofs.lemmas.Grind.{flat_map-append}
use Rattle.std.proofs.lemmas.List.{take_more, take_all}
use Rattle.spectro_spec.specs.System.{IsWhole, rising, post}
use Rattle.spectro_spec.proofs.Successors.{post-by_member, post-rises, post-below}
use Rattle.spectro_lts.specs.Labels.{label_of}
use Rattle.spectro_lts.proofs.Numbering.{whole}
use Rattle.spectro_lts.proofs.lts.Lts.post.Goals as goal

-- the successors of one member more
one_more : (f : ℕ → List ℕ) (set : List ℕ) (k : ℕ) → k < length set → flat_map f (take (k + 1) set) ≡ flat_map f (take k set) ++ f (slice_index set k)
one_more f set k within = ap (flat_map f) (take_more set k 0 within) ∙ flat_map-append f (take k set) (slice_index set k ∷ [])
    ∙ ap (λ more. flat_map f (take k set) ++ more) (append-nil (f (slice_index set k)))

pub loop-q-preserved : goal.loop-q-preserved
loop-q-preserved c =
    let system = c.args.self.now in
    let label = label_of system.steps c.args.no in
    let set = c.args.set.now in
    let k = c.loop-q.q-index in
    c.in_ok-extend_from_slice.ensures.ok ∙ ap (λ states. states ++ c.successors.result.now) c.loop-q.invariant
    ∙ ap (λ targets. flat_map (λ q. post system (q ∷ []) label) (take k set) ++ targets) c.successors.ensures.value
    ∙ sym (one_more (λ q. post system (q ∷ []) label) set k (omega (arith, c.loop-q-test.true)))

pub returns : goal.returns
returns c =
    let inside = c.self.inside in
    let system = c.args.self.now in
    let label = label_of system.steps c.args.no in
    let all : take c.loop-q.q-index c.args.set.now ≡ c.args.set.now = take_all c.loop-q.q-index c.args.set.now c.loop-q-test.false in
    let value : c.of.result ≡ post system c.args.set.now label = c.of.ensures ∙ ap rising c.loop-q.invariant
    ∙ ap (λ qs. rising (flat_map (λ q. post system (q ∷ []) label) qs)) all ∙ post-by_member system c.args.set.now label in
    let is_whole = subst IsWhole c.self.view_is (whole inside.states inside.initial inside.labels.keys inside.steps.items c.self.invariant.numbered) in
    record {
      value = value;
      rises = subst (λ xs. IsStrictlyIncreasing xs) (sym value) (post-rises system c.args.set.now label);
      in_range = subst (λ xs. All (λ t. t < system.states) xs) (sym value) (post-below system c.args.set.now label is_whole);
    }
