-- Bytes that are held in place or in memory of their own. Only private clauses cite this.
use Rattle.std.specs.Prelude.{ℕ, List}
use Rattle.osm_elements.specs.declared.block.Bytes.{Bytes}
use Rattle.osm_elements.specs.declared.block.Bytes.TheVariants.{Short, Long}

-- the bytes, wherever they are
abbrev pub bytes_held : Bytes → List ℕ
bytes_held (Short bytes) = bytes
bytes_held (Long bytes) = bytes.items
