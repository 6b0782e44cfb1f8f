-- How much of a text is read. In proofs it stays a name, since to count it out would take too long.
use Rattle.std.specs.Prelude.{ℕ}
use Rattle.spectro_io.specs.declared.read.TheConstants.{READ_LIMIT}

-- as many bytes of a text are read: one more than a text may have
unfoldable pub read_limit : ℕ
read_limit = READ_LIMIT
