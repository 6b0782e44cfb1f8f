-- One growth of an exploration after another, and what is past the limit.
use Rattle.std.proofs.Common.{ℕ, ◌≤◌, ◌≡◌, List, [], ◌∷◌, ◌++◌, get_or, refl, sym, ap, ◌∙◌, subst, arith, append_assoc, append-nil}
use Rattle.spectro_game.specs.Pairs.{Pair, size}
use Rattle.spectro_game.specs.Reached.{StandsAt}
use Rattle.spectro_theory.specs.Reaching.{with_all, with_last, is_same_pair}
use Rattle.spectro_theory.proofs.PutLast.{stands-any, stands-with_last, with_all-append, with_all-grows, with_all-one, with_last-known}
use Rattle.spectro_theory.proofs.Reaching.{same_pair-equal, same_pair-itself}
use Rattle.spectro_theory.proofs.Sizes.{size-front}
use Rattle.spectro_pairs.specs.declared.error.ExploreError.{ExploreError}
use Rattle.spectro_pairs.specs.declared.error.ExploreError.TheVariants.{TooLarge, OutOfMemory}
use Rattle.spectro_pairs.specs.declared.exploration.Exploration.{Exploration}
use Rattle.spectro_pairs.specs.declared.known.Known.{Known}
use Rattle.spectro_pairs.specs.Interned.{Interned}
use Rattle.spectro_pairs.specs.Lattices.{AreLattices, submask}
use Rattle.spectro_pairs.specs.declared.lattices.Lattices.{Lattices}
use Rattle.spectro_pairs.specs.Limits.{IsPastLimit}
use Rattle.spectro_rows.specs.Rows.{RowList}
use Rattle.spectro_pairs.specs.Growth.{HasReached, HasStarted, IsPastWith, Name}
use Rattle.spectro_pairs.proofs.NamedRows.{name-append, name-grows}

-- ---- rows
-- the open row gets more numbers
abbrev pub opened : RowList ℕ → List ℕ → RowList ℕ
opened rows numbers = record rows { last = rows.last ++ numbers }

pub opened-none : (rows : RowList ℕ) → rows ≡ opened rows []
opened-none rows = ap (λ l. record rows { last = l }) (sym (append-nil rows.last))

opened-then : (a b c : RowList ℕ) (ms ns : List ℕ) → b ≡ opened a ms → c ≡ opened b ns → c ≡ opened a (ms ++ ns)
opened-then a b c ms ns first then =
    then ∙ ap (λ (rows : RowList ℕ). opened rows ns) first ∙ ap (λ l. record a { last = l }) (append_assoc a.last ms ns)

-- the open row was closed behind the others
abbrev pub closed : RowList ℕ → RowList ℕ
closed rows = record { rows = rows.rows ++ rows.last ∷ []; last = [] }

pub closed-opened : (a b c : RowList ℕ) (ns : List ℕ) → b ≡ opened a ns → a.last ≡ [] → c ≡ closed b → c ≡ record { rows = a.rows ++ ns ∷ []; last = [] }
closed-opened a b c ns is none closes = closes ∙ ap closed is ∙ ap (λ (l : List ℕ). closed (record a { last = l ++ ns })) none

-- ---- subsets that are kept
-- they are kept where there are more pairs
pub lattices-more : (lattices : Lattices) (xs ys : List Pair) (x : Pair) → ys ≡ with_last is_same_pair xs x → AreLattices xs lattices → AreLattices ys lattices
lattices-more lattices xs ys x grown kept k place has =
    let old = kept k place has in
    let grow = λ (i : ℕ) (y : Pair) (here : StandsAt xs i y). subst (λ l. StandsAt l i y) (sym grown)
    (stands-with_last is_same_pair same_pair-equal same_pair-itself xs x i y here) in
    record {
      x = old.x;
      here = grow k old.x old.here;
      table = old.table;
      kept = old.kept;
      small = old.small;
      entries = λ i some below. let entry = old.entries i some below in
          record { within = entry.within; there = grow (get_or old.table.items (submask place.mask i) 0) _ entry.there };
    }

-- ---- an exploration that reached pairs
pub has-none : (a : Exploration) → HasReached a a [] []
unfolding with_all
has-none a = record {
  states = refl;
  limit = refl;
  pairs = refl;
  numbers = [];
  followers = opened-none a.followers;
  named = refl;
  labels = opened-none a.labels;
  lattices = λ kept. kept;
}

pub has-one : (a : Exploration) (pairs : Interned) (followers : RowList ℕ) (k : ℕ) (x : Pair)
    → pairs ≡ record a.pairs { pairs = with_last is_same_pair a.pairs.pairs x }
    → StandsAt pairs.pairs k x → followers ≡ opened a.followers (k ∷ []) → HasReached a (record a { pairs = pairs; followers = followers }) (x ∷ []) []
has-one a pairs followers k x grown here pushed = record {
  states = ap (λ (p : Interned). p.states) grown;
  limit = ap (λ (p : Interned). p.limit) grown;
  pairs = ap (λ (p : Interned). p.pairs) grown ∙ sym (with_all-one is_same_pair a.pairs.pairs x);
  numbers = k ∷ [];
  followers = pushed;
  named = ap (λ o. o ∷ []) here;
  labels = opened-none a.labels;
  lattices = lattices-more a.lattices a.pairs.pairs pairs.pairs x (ap (λ (p : Interned). p.pairs) grown);
}

-- a pair that stands there
pub has-known : (a : Exploration) (followers : RowList ℕ) (k : ℕ) (x : Pair) → StandsAt a.pairs.pairs k x → followers ≡ opened a.followers (k ∷ [])
    → HasReached a (record a { followers = followers }) (x ∷ []) []
has-known a followers k x here pushed =
    has-one a a.pairs followers k x
    (λ i. record a.pairs {
      pairs = sym (with_last-known is_same_pair a.pairs.pairs x
          (stands-any is_same_pair same_pair-equal same_pair-itself x a.pairs.pairs k here)) i;
    })
    here pushed

pub has-then : (a b c : Exploration) (ys zs : List Pair) (ls ms : List ℕ) → HasReached a b ys ls → HasReached b c zs ms → HasReached a c (ys ++ zs) (ls ++ ms)
has-then a b c ys zs ls ms first then =
    let grown = with_all-grows is_same_pair zs b.pairs.pairs in
    let longer : c.pairs.pairs ≡ b.pairs.pairs ++ grown.0 = then.pairs ∙ grown.1 in
    record {
      states = then.states ∙ first.states;
      limit = then.limit ∙ first.limit;
      pairs = then.pairs ∙ ap (λ l. with_all is_same_pair l zs) first.pairs ∙ sym (with_all-append is_same_pair a.pairs.pairs ys zs);
      numbers = first.numbers ++ then.numbers;
      followers = opened-then a.followers b.followers c.followers first.numbers then.numbers first.followers then.followers;
      named =
          name-append c.pairs.pairs first.numbers then.numbers ys zs
          (subst (λ l. Name l first.numbers ys) (sym longer) (name-grows b.pairs.pairs grown.0 first.numbers ys first.named)) then.named;
      labels = opened-then a.labels b.labels c.labels ls ms first.labels then.labels;
      lattices = λ kept. then.lattices (first.lattices kept);
    }

-- what was done, and then what was done now, is what is done
pub has-next : (a b c : Exploration) (done now more : List Pair) (ls ms ns : List ℕ) → HasReached a b done ls → HasReached b c now ms → more ≡ done ++ now
    → ns ≡ ls ++ ms
    → HasReached a c more ns
has-next a b c done now more ls ms ns first then pairs labels =
    subst (λ l. HasReached a c l ns) (sym pairs) (subst (HasReached a c (done ++ now)) (sym labels) (has-then a b c done now ls ms first then))

-- no more was reached then
pub has-still : (a b c : Exploration) (ys : List Pair) (ls : List ℕ) → HasReached a b ys ls → HasReached b c [] [] → HasReached a c ys ls
has-still a b c ys ls first then = has-next a b c ys [] ys ls [] ls first then (sym (append-nil ys)) (sym (append-nil ls))

-- another set was numbered
pub has-numbered : (a b : Exploration) (pairs : Interned) (sets : List (List ℕ)) (ys : List Pair) (ls : List ℕ) → pairs ≡ record b.pairs { sets = sets }
    → HasReached a b ys ls → HasReached a (record b { pairs = pairs }) ys ls
has-numbered a b pairs sets ys ls numbered has = record {
  states = ap (λ (p : Interned). p.states) numbered ∙ has.states;
  limit = ap (λ (p : Interned). p.limit) numbered ∙ has.limit;
  pairs = ap (λ (p : Interned). p.pairs) numbered ∙ has.pairs;
  numbers = has.numbers;
  followers = has.followers;
  labels = has.labels;
  named = subst (λ l. Name l has.numbers ys) (sym (ap (λ (p : Interned). p.pairs) numbered)) has.named;
  lattices = λ kept. subst (λ l. AreLattices l b.lattices) (sym (ap (λ (p : Interned). p.pairs) numbered)) (has.lattices kept);
}

-- another number was put down
pub has-kept : (a b : Exploration) (posts : Known) (ys : List Pair) (ls : List ℕ) → HasReached a b ys ls → HasReached a (record b { posts = posts }) ys ls
has-kept a b posts ys ls has = record {
  states = has.states;
  limit = has.limit;
  pairs = has.pairs;
  numbers = has.numbers;
  followers = has.followers;
  named = has.named;
  labels = has.labels;
  lattices = has.lattices;
}

-- other subsets are kept
pub has-placed : (a b : Exploration) (lattices : Lattices) (ys : List Pair) (ls : List ℕ)
    → (AreLattices b.pairs.pairs b.lattices → AreLattices b.pairs.pairs lattices) → HasReached a b ys ls → HasReached a (record b { lattices = lattices }) ys ls
has-placed a b lattices ys ls more has = record {
  states = has.states;
  limit = has.limit;
  pairs = has.pairs;
  numbers = has.numbers;
  followers = has.followers;
  named = has.named;
  labels = has.labels;
  lattices = λ kept. more (has.lattices kept);
}

-- labels were put down
pub has-labelled : (a b : Exploration) (labels : RowList ℕ) (ys : List Pair) (ls ms : List ℕ) → labels ≡ opened b.labels ms → HasReached a b ys ls
    → HasReached a (record b { labels = labels }) ys (ls ++ ms)
has-labelled a b labels ys ls ms pushed has = record {
  states = has.states;
  limit = has.limit;
  pairs = has.pairs;
  numbers = has.numbers;
  followers = has.followers;
  named = has.named;
  labels = opened-then a.labels b.labels labels ls ms has.labels pushed;
  lattices = has.lattices;
}

-- ---- an exploration that reached starts
pub started-none : (a : Exploration) → HasStarted a a []
unfolding with_all
started-none a = record { states = refl; limit = refl; pairs = refl; followers = refl; labels = refl; lattices = λ kept. kept }

pub started-numbered : (a b : Exploration) (pairs : Interned) (sets : List (List ℕ)) (ys : List Pair) → pairs ≡ record b.pairs { sets = sets }
    → HasStarted a b ys
    → HasStarted a (record b { pairs = pairs }) ys
started-numbered a b pairs sets ys numbered has = record {
  states = ap (λ (p : Interned). p.states) numbered ∙ has.states;
  limit = ap (λ (p : Interned). p.limit) numbered ∙ has.limit;
  pairs = ap (λ (p : Interned). p.pairs) numbered ∙ has.pairs;
  followers = has.followers;
  labels = has.labels;
  lattices = λ kept. subst (λ l. AreLattices l b.lattices) (sym (ap (λ (p : Interned). p.pairs) numbered)) (has.lattices kept);
}

pub started-one : (a b : Exploration) (pairs : Interned) (ys : List Pair) (x : Pair)
    → pairs ≡ record b.pairs { pairs = with_last is_same_pair b.pairs.pairs x } → HasStarted a b ys
    → HasStarted a (record b { pairs = pairs }) (ys ++ x ∷ [])
started-one a b pairs ys x grown has = record {
  states = ap (λ (p : Interned). p.states) grown ∙ has.states;
  limit = ap (λ (p : Interned). p.limit) grown ∙ has.limit;
  pairs =
      ap (λ (p : Interned). p.pairs) grown ∙ sym (with_all-one is_same_pair b.pairs.pairs x) ∙ ap (λ l. with_all is_same_pair l (x ∷ [])) has.pairs
      ∙ sym (with_all-append is_same_pair a.pairs.pairs ys (x ∷ []));
  followers = has.followers;
  labels = has.labels;
  lattices = λ kept. lattices-more b.lattices b.pairs.pairs pairs.pairs x (ap (λ (p : Interned). p.pairs) grown) (has.lattices kept);
}

-- ---- past the limit
pub past-above : (e : ExploreError) (limit m n : ℕ) → m ≤ n → IsPastLimit e limit m → IsPastLimit e limit n
past-above (TooLarge k) limit m n below (above, at_most) = (above, omega arith)
past-above OutOfMemory limit m n below past = tt

-- what is past the limit before more pairs is so after them
pub past-more : (e : ExploreError) (a : Exploration) (ys zs : List Pair) → IsPastWith e a ys → IsPastWith e a (ys ++ zs)
past-more e a ys zs past =
    let grown = with_all-grows is_same_pair zs (with_all is_same_pair a.pairs.pairs ys) in
    let longer : with_all is_same_pair a.pairs.pairs
    (ys ++ zs) ≡ with_all is_same_pair a.pairs.pairs ys ++ grown.0 = with_all-append is_same_pair a.pairs.pairs ys zs ∙ grown.1 in
    let larger : size (with_all is_same_pair a.pairs.pairs ys) ≤ size (with_all is_same_pair a.pairs.pairs (ys ++ zs)) =
    subst (λ l. size (with_all is_same_pair a.pairs.pairs ys) ≤ size l) (sym longer) (size-front (with_all is_same_pair a.pairs.pairs ys) grown.0) in
    past-above e a.pairs.limit (size (with_all is_same_pair a.pairs.pairs ys)) (size (with_all is_same_pair a.pairs.pairs (ys ++ zs))) larger past

-- what is past it now is so after what was done
pub past-then : (e : ExploreError) (a b : Exploration) (ys zs : List Pair) → b.pairs.limit ≡ a.pairs.limit
    → b.pairs.pairs ≡ with_all is_same_pair a.pairs.pairs ys
    → IsPastWith e b zs → IsPastWith e a (ys ++ zs)
past-then e a b ys zs limit pairs past =
    subst (λ n. IsPastLimit e n (size (with_all is_same_pair a.pairs.pairs (ys ++ zs)))) limit
    (subst (λ l. IsPastLimit e b.pairs.limit (size l))
    (ap (λ l. with_all is_same_pair l zs) pairs ∙ sym (with_all-append is_same_pair a.pairs.pairs ys zs)) past)

-- so it is for the whole
pub past-whole : (e : ExploreError) (a b : Exploration) (done now rest whole : List Pair) → b.pairs.limit ≡ a.pairs.limit
    → b.pairs.pairs ≡ with_all is_same_pair a.pairs.pairs done
    → IsPastWith e b now → whole ≡ (done ++ now) ++ rest → IsPastWith e a whole
past-whole e a b done now rest whole limit pairs past is =
    subst (λ l. IsPastWith e a l) (sym is) (past-more e a (done ++ now) rest (past-then e a b done now limit pairs past))

-- one pair more
pub past-one : (e : ExploreError) (limit : ℕ) (xs : List Pair) (x y : Pair) → y ≡ x → IsPastLimit e limit (size (with_last is_same_pair xs y))
    → IsPastLimit e limit (size (with_all is_same_pair xs (x ∷ [])))
past-one e limit xs x y is past = subst (λ l. IsPastLimit e limit (size l)) (ap (with_last is_same_pair xs) is ∙ sym (with_all-one is_same_pair xs x)) past
