-- The entries of a shelf in memory, and what is left of the open one.
use Rattle.std.proofs.Common.{◌≡◌, ◌≢◌, ◌∙◌, ℕ, suc, zero, ◌+◌, Bool, true, false, cond, List, [], ◌∷◌, drop, sym, refl, ap}
use Rattle.std.specs.Prelude.{Option, None, Some, IfSome, is_some, String, Vec, string_bytes, slice_get}
use Rattle.std.specs.declared.alloc.Global.{Global}
use Rattle.std.specs.Map.{lookup, values_of}
use Rattle.std.specs.Option.{option_map, option_map_or}
use Rattle.std.specs.Str.{bytes_eq}
use Rattle.std.specs.String.{string_eq}
use Rattle.std.proofs.Math.Seq.{drop-drop}
use Rattle.std.proofs.lemmas.Bool.{false_from_ne_true}
use Rattle.std.proofs.lemmas.Option.{slice_get-map}
use Rattle.std.proofs.lemmas.Slice.Eq.{bytes_eq-Decides}
use Rattle.indexmap.specs.IndexMap.{insert_entry}
use Rattle.spectro_io.specs.Memory.{text_of}
use Rattle.spectro_io.specs.Shelves.{Opens}
use Rattle.spectro_io.specs.Entries.{Entry, named, text_at, left_of}

drop-nil : (count : ℕ) → drop {A = ℕ} count [] ≡ []
drop-nil zero = refl
drop-nil (suc count) = refl

-- reading on takes from the front of what is left
pub left_of-more : (entries : List Entry) (current : Option ℕ) (at count : ℕ) → left_of entries current (at + count) ≡ drop count (left_of entries current at)
left_of-more entries None at count = sym (drop-nil count)
left_of-more entries (Some place) at count = sym (drop-drop count at (text_at entries place))

-- the text under a name is that of the entry which is found under it
pub text_of-named : (entries : List Entry) (name : List ℕ)
    → text_of (named entries) name ≡ option_map (λ text. text.items) (lookup (λ key. bytes_eq name (string_bytes key)) entries)
text_of-named [] name = refl
text_of-named (entry ∷ entries) name =
    elim (bytes_eq name (string_bytes entry.0)) as
    (λ found. cond found (Some entry.1.items) (text_of (named entries) name) ≡ option_map (λ text. text.items)
    (cond found (Some entry.1) (lookup (λ key. bytes_eq name (string_bytes key)) entries))) [
      | true ↦ refl
      | false ↦ text_of-named entries name
    ]

-- a name is not two different ones
same_name : (name one other : List ℕ) → bytes_eq one other ≡ false → bytes_eq name one ≡ true → bytes_eq name other ≡ true → ⊥
same_name name one other differ first second =
    let a = (bytes_eq-Decides name one).0 first in
    let b = (bytes_eq-Decides name other).0 second in
    let same : bytes_eq one other ≡ true = (bytes_eq-Decides one other).1 (sym a ∙ b) in
    cc

-- two tests of a name that do not both pass can be made in any order
exchanged : {X : Type 0} (first second : Bool) (x y z : X) → (first ≡ true → second ≡ true → ⊥)
    → cond first x (cond second y z) ≡ cond second y (cond first x z)
exchanged true true x y z apart = absurd (apart refl refl)
exchanged true false x y z apart = refl
exchanged false true x y z apart = refl
exchanged false false x y z apart = refl

-- the second of two equal tests is not reached
repeated : {X : Type 0} (test : Bool) (x y z : X) → cond test x z ≡ cond test x (cond test y z)
repeated true x y z = refl
repeated false x y z = refl

-- the text under a name, of an entry that keeps its name and of those after it
inserted : (entry : Entry) (entries rest : List Entry) (key : String Global) (text : Vec ℕ Global) (name : List ℕ) (same : Bool)
    → bytes_eq (string_bytes key) (string_bytes entry.0) ≡ same
    → text_of (named rest) name ≡ cond (bytes_eq name (string_bytes key)) (Some text.items) (text_of (named entries) name)
    → text_of (named (cond same ((entry.0, text) ∷ entries) (entry ∷ rest))) name ≡ cond (bytes_eq name (string_bytes key)) (Some text.items)
    (text_of (named (entry ∷ entries)) name)
inserted entry entries rest key text name true same below =
    let bytes : string_bytes key ≡ string_bytes entry.0 = (bytes_eq-Decides (string_bytes key) (string_bytes entry.0)).0 same in
    rw bytes (repeated (bytes_eq name (string_bytes entry.0)) (Some text.items) (Some entry.1.items) (text_of (named entries) name))
inserted entry entries rest key text name false differ below =
    rw below (exchanged (bytes_eq name (string_bytes entry.0)) (bytes_eq name (string_bytes key)) (Some entry.1.items) (Some text.items)
    (text_of (named entries) name) (λ first second. same_name name (string_bytes key) (string_bytes entry.0) differ second first))

-- after an insertion the name holds the new text, and each other name what it held
pub text_of-inserted : (entries : List Entry) (key : String Global) (text : Vec ℕ Global) (name : List ℕ)
    → text_of (named (insert_entry string_eq entries key text)) name ≡ cond (bytes_eq name (string_bytes key)) (Some text.items) (text_of (named entries) name)
text_of-inserted [] key text name = refl
text_of-inserted (entry ∷ entries) key text name =
    inserted entry entries (insert_entry string_eq entries key text) key text name (bytes_eq (string_bytes key) (string_bytes entry.0)) refl
    (text_of-inserted entries key text name)

pub held-inserted : (entries after : List Entry) (key : String Global) (text : Vec ℕ Global) (name bytes : List ℕ)
    → after ≡ insert_entry string_eq entries key text → string_bytes key ≡ name → text.items ≡ bytes
    → text_of (named after) name ≡ Some bytes
held-inserted entries after key text name bytes is named_so holds =
    let found : bytes_eq name (string_bytes key) ≡ true = (bytes_eq-Decides name (string_bytes key)).1 (sym named_so) in
    rw (is, text_of-inserted entries key text name, found) (ap Some holds)

pub others-inserted : (entries after : List Entry) (key : String Global) (text : Vec ℕ Global) (name other : List ℕ)
    → after ≡ insert_entry string_eq entries key text → string_bytes key ≡ name → other ≢ name
    → text_of (named after) other ≡ text_of (named entries) other
others-inserted entries after key text name other is named_so differ =
    let passed : bytes_eq other (string_bytes key) ≡ false = false_from_ne_true _
    (λ same. differ ((bytes_eq-Decides other (string_bytes key)).0 same ∙ named_so)) in
    rw (is, text_of-inserted entries key text other, passed) refl

-- a name is found exactly where it holds a text
pub found-named : (entries : List Entry) (name : List ℕ)
    → is_some (text_of (named entries) name) ≡ is_some (lookup (λ key. bytes_eq name (string_bytes key)) entries)
found-named entries name = rw (text_of-named entries name) (some_mapped (lookup (λ key. bytes_eq name (string_bytes key)) entries))
  where
    some_mapped : (text : Option (Vec ℕ Global)) → is_some (option_map (λ text. text.items) text) ≡ is_some text
    some_mapped None = refl
    some_mapped (Some text) = refl

-- the entry at the place is the one that is found under the name
at_place : (held : Option (List ℕ)) (entry : Option Entry) → held ≡ option_map (λ text. text.items) (option_map (λ e. e.1) entry) → is_some entry ≡ true
    → (text : List ℕ) × (held ≡ Some text) × (drop 0 (option_map_or (λ e. e.1.items) entry []) ≡ text)
at_place held None is some = cc
at_place held (Some entry) is some = (entry.1.items, is, refl)

-- opening leaves the text that the name holds, and nothing where it holds none
pub opened-named : (entries : List Entry) (name : List ℕ) (place : Option ℕ)
    → is_some place ≡ is_some (lookup (λ key. bytes_eq name (string_bytes key)) entries)
    → IfSome place (λ i. slice_get (values_of entries) i ≡ lookup (λ key. bytes_eq name (string_bytes key)) entries)
    → Opens (Some (text_of (named entries))) name (is_some place) (Some (left_of entries place 0))
opened-named entries name None found value = (text_of-named entries name ∙ none_mapped _ (sym found), refl)
  where
    none_mapped : (text : Option (Vec ℕ Global)) → is_some text ≡ false → option_map (λ text. text.items) text ≡ None
    none_mapped None none = refl
    none_mapped (Some text) none = cc
opened-named entries name (Some place) found value =
    let at : option_map (λ entry. entry.1) (slice_get entries place) ≡ lookup (λ key. bytes_eq name (string_bytes key)) entries = sym
    (slice_get-map (λ entry. entry.1) entries place) ∙ value in
    let held = at_place (text_of (named entries) name) (slice_get entries place) (text_of-named entries name
    ∙ ap (option_map (λ text. text.items)) (sym at)) (some_at (slice_get entries place) (ap is_some at ∙ sym found)) in
    (held.0, held.1, ap Some held.2)
  where
    some_at : (entry : Option Entry) → is_some (option_map (λ entry. entry.1) entry) ≡ true → is_some entry ≡ true
    some_at None none = cc
    some_at (Some entry) some = refl
