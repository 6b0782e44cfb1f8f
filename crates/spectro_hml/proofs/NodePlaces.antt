-- The nodes of a sheet as they are kept, by their places.
use Rattle.std.proofs.Common.{◌≡◌, ◌∙◌, ℕ, ◌<◌, List, ◌∷◌, [], ◌++◌, length, map, get_or, Some, slice_get, sym, ap, subst, arith}
use Rattle.std.specs.Option.{option_map}
use Rattle.std.proofs.lemmas.List.{length-map, map_push}
use Rattle.std.proofs.lemmas.Option.{slice_get-map, slice_get-get_or}
use Rattle.spectro_hml.specs.Nodes.{node_kept}
use Rattle.spectro_hml.specs.Sheets.{SheetNode, IsNodeAt, IsSheet}
use Rattle.spectro_hml.specs.declared.sheet.Kept.{Kept}
use Rattle.spectro_hml.proofs.Unfoldings.{IsSheet-push}

-- what is read at a place is the node of that place
pub node_at : (kept : List Kept) (k : ℕ) (read node : Kept) → k < length (map node_kept kept) → read ≡ get_or kept k read → read ≡ node
    → slice_get (map node_kept kept) k ≡ Some (node_kept node)
node_at kept k read node within at is =
    let here : k < length kept = omega (arith, length-map kept node_kept) in
    slice_get-map node_kept kept k ∙ ap (option_map node_kept) (slice_get-get_or kept k read here ∙ ap Some (sym at ∙ is))

-- a node more, which may stand at the end
pub sheet_more : (kept before : List Kept) (node : Kept) (nodes : List SheetNode) (pushed : SheetNode)
    → kept ≡ before ++ node ∷ [] → map node_kept before ≡ nodes → node_kept node ≡ pushed → IsSheet nodes → IsNodeAt (length nodes) pushed
    → IsSheet (map node_kept kept)
sheet_more kept before node nodes pushed grown was is sheet may =
    let whole : map node_kept kept ≡ nodes ++ pushed ∷ [] = ap (map node_kept) grown ∙ map_push node_kept before node
    ∙ ap (λ nodes. nodes ++ node_kept node ∷ []) was ∙ ap (λ last. nodes ++ last ∷ []) is in
    subst IsSheet (sym whole) (IsSheet-push nodes pushed sheet may)
