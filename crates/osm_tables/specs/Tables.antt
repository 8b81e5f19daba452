-- Tables: their order, and the code for a key.
use Rattle.std.specs.Prelude.{ℕ, List, [], ◌∷◌, Option, Some, None, ◌==◌, if◌then◌else◌, Contains, map, codes}
use Rattle.std.specs.List.Sorted.{IsStrictlyIncreasing}
use Rattle.osm_tables.specs.declared.Row.{Row}

-- the keys rise strictly from row to row
abbrev pub HasRisingKeys : List Row → Type 0
HasRisingKeys rows = IsStrictlyIncreasing (map (λ r. r.key) rows)

-- a row has this key and this code
abbrev pub HasRow : List Row → ℕ → ℕ → Type 0
HasRow rows key code = Contains rows (record { key = key; code = code })

-- the code for a key
abbrev pub code_of : List Row → ℕ → Option ℕ
code_of [] key = None
code_of (r ∷ rows) key = if r.key == key then Some r.code else code_of rows key

-- ---- the contents of the tables

-- keys and their codes, in order
abbrev pub table : List ℕ → List ℕ → List Row
table [] codes = []
table (key ∷ keys) [] = []
table (key ∷ keys) (code ∷ codes) = record { key = key; code = code } ∷ table keys codes

-- the letters that a node, a way or a relation may have; the code 0 is no field
abbrev pub node_fields : List Row
node_fields = table (codes "DTcdituvxy") (0 ∷ 1 ∷ 2 ∷ 3 ∷ 4 ∷ 5 ∷ 6 ∷ 7 ∷ 8 ∷ 9 ∷ [])

abbrev pub way_fields : List Row
way_fields = table (codes "NTcdituv") (10 ∷ 1 ∷ 2 ∷ 3 ∷ 4 ∷ 5 ∷ 6 ∷ 7 ∷ [])

abbrev pub relation_fields : List Row
relation_fields = table (codes "MTcdituv") (11 ∷ 1 ∷ 2 ∷ 3 ∷ 4 ∷ 5 ∷ 6 ∷ 7 ∷ [])

-- six kinds of problems, and then four of notes
abbrev pub problem_kinds : List Row
problem_kinds = table (1 ∷ 2 ∷ 3 ∷ 4 ∷ 5 ∷ 6 ∷ 7 ∷ 8 ∷ 9 ∷ 10 ∷ []) (1 ∷ 1 ∷ 1 ∷ 1 ∷ 1 ∷ 1 ∷ 2 ∷ 2 ∷ 2 ∷ 2 ∷ [])

-- the thirteen kinds of lines of a coastline report: 1 is a warning, 2 an error
abbrev pub coast_kinds : List Row
coast_kinds = table (1 ∷ 2 ∷ 3 ∷ 4 ∷ 5 ∷ 6 ∷ 7 ∷ 8 ∷ 9 ∷ 10 ∷ 11 ∷ 12 ∷ 13 ∷ []) (2 ∷ 1 ∷ 1 ∷ 1 ∷ 2 ∷ 2 ∷ 2 ∷ 2 ∷ 1 ∷ 1 ∷ 1 ∷ 1 ∷ 1 ∷ [])
