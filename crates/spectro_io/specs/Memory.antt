-- What contracts see of the devices in memory.
use Rattle.std.specs.Prelude.{ℕ, ◌≡◌, ◌≢◌, List, [], ◌∷◌, None, Some, if◌then◌else◌}
use Rattle.std.specs.Str.{bytes_eq}
use Rattle.spectro_io.specs.Plans.{Plan}
use Rattle.spectro_io.specs.Shelves.{Texts}

pub record SourceState : Type 0 where
  -- the bytes that are left
  pub left : List ℕ
  -- the most bytes that one read gives
  pub most : ℕ
  pub plan : Plan

-- a text under its name
pub record Named : Type 0 where
  pub name : List ℕ
  pub text : List ℕ

pub record ShelfState : Type 0 where
  -- the texts under their names
  pub texts : List Named
  -- what is left of the open text, and nothing where none is open
  pub left : List ℕ
  -- the most bytes that one read gives
  pub most : ℕ
  -- `open` and `read` are counted together
  pub plan : Plan

pub record SinkState : Type 0 where
  -- the bytes that were written
  pub written : List ℕ
  -- how many bytes fit in all
  pub room : ℕ
  -- the most bytes that one write takes
  pub most : ℕ
  pub plan : Plan

-- the text that stands under the name
abbrev pub text_of : List Named → Texts
text_of [] name = None
text_of (entry ∷ entries) name = if bytes_eq name entry.name then Some entry.text else text_of entries name

-- the name holds these bytes, each other name what it held, nothing is open, and the rest is as before
pub record PutsText (old new : ShelfState) (name bytes : List ℕ) : Type 0 where
  pub held : text_of new.texts name ≡ Some bytes
  pub others : (other : List ℕ) → other ≢ name → text_of new.texts other ≡ text_of old.texts other
  pub closed : new.left ≡ []
  pub most : new.most ≡ old.most
  pub plan : new.plan ≡ old.plan
