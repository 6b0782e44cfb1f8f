use Rattle.std.proofs.Common.{◌≡◌, ◌≤◌, ◌∙◌, ◌++◌, ◌∷◌, [], map, length, length-append, append_assoc, slice_index, slice_index_or, sym, ap, subst, arith, rules, Bor, true, false}
use Rattle.std.specs.Prelude.{String, string_bytes}
use Rattle.std.specs.List.Sorted.{IsPartitionedBy, IsPartitionPoint}
use Rattle.std.specs.Ordering.{is_lt}
use Rattle.std.specs.String.{string_cmp}
use Rattle.std.specs.declared.alloc.Global.{Global}
use Rattle.std.proofs.lemmas.List.{length-map, map-append}
use Rattle.std.proofs.lemmas.List.Sorted.{IsPartitionPoint-from_clause}
use Rattle.spectro_lts.specs.Ranks.{texts_of, IsRank}
use Rattle.spectro_lts.proofs.Ranking.{text_of, parted_by, rank_from, ranks_more, are_ranks}
use Rattle.spectro_lts.proofs.ranks.ranks.Goals as goal

pub loop-label-preserved : goal.loop-label-preserved
loop-label-preserved c =
    let keys = c.args.labels.now.keys in
    let sorted = c.in_ok-sorted.sorted.items in
    let label = c.in-Some.label.now in
    let place = c.partition_point.result in
    let yielded = c.loop-label.yielded in
    let rest = c.next.new.self in
    let same = c.deref.ensures.value in
    let left : texts_of yielded ++ string_bytes label ∷ map string_bytes rest ≡ map string_bytes keys =
    ap (λ more. texts_of yielded ++ map string_bytes more) (sym c.in-Some.ensures.steps) ∙ c.loop-label.invariant.left in
    let parted = subst (λ xs. IsPartitionedBy (λ (y : Bor (String Global)). is_lt (string_cmp y.now label)) xs) (sym same)
    (parted_by (map string_bytes keys) sorted label c.in_ok-sorted.ensures) in
    let point = IsPartitionPoint-from_clause (λ (y : Bor (String Global)). is_lt (string_cmp y.now label)) _ _ c.partition_point.ensures.partitioned parted
    (λ a r q k. search rules) in
    let within : place ≤ length sorted = subst (λ xs. place ≤ length xs) same c.partition_point.ensures.bound in
    let rank : IsRank (texts_of sorted) (string_bytes label) place = rank_from label sorted place within
    (subst (λ xs. IsPartitionPoint (λ (y : Bor (String Global)). is_lt (string_cmp y.now label) ≡ true)
    (λ (y : Bor (String Global)). is_lt (string_cmp y.now label) ≡ false) xs place) same point) in
    let items : c.push.new.self.items ≡ c.loop-label.ranks.items ++ place ∷ [] = c.in_ok-push.ensures.items in
    let longer = length-append c.loop-label.ranks.items (place ∷ []) in
    record {
      left = ap (λ texts. texts ++ map string_bytes rest) (map-append text_of yielded (c.in-Some.label ∷ []))
          ∙ append_assoc (texts_of yielded) (string_bytes label ∷ []) (map string_bytes rest) ∙ left;
      long = omega (arith, longer, ap length items, c.loop-label.invariant.long, length-append yielded (c.in-Some.label ∷ []));
      each = λ label_no h. subst (λ xs. IsRank (texts_of sorted) (slice_index_or (map string_bytes keys) label_no []) (slice_index xs label_no)) (sym items)
          (ranks_more (map string_bytes keys) (texts_of sorted) (texts_of yielded) (map string_bytes rest)
          (string_bytes label) c.loop-label.ranks.items place left
          (c.loop-label.invariant.long
          ∙ sym (length-map yielded text_of)) c.loop-label.invariant.each rank label_no (omega (arith, h, ap length items, longer)));
    }

pub returns : goal.returns
returns c =
    let all = c.loop-label.invariant in
    let keys = c.args.labels.now.keys in
    let none = c.in-None.ensures.steps.0 in
    let long : length c.loop-label.ranks.items ≡ length keys = omega (
      arith,
      all.long,
      ap length all.left,
      ap length none,
      length-append (texts_of c.loop-label.yielded) (map string_bytes c.loop-label.label-iterator),
      length-map c.loop-label.yielded text_of,
      length-map c.loop-label.label-iterator (string_bytes {Z = Global}),
      length-map keys (string_bytes {Z = Global}),
    ) in
    are_ranks keys (texts_of c.in_ok-sorted.sorted.items) c.loop-label.ranks.items c.requires c.len.ensures.unique c.in_ok-sorted.ensures long all.each
