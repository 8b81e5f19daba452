-- Lines of a coastline report: their kinds, and how they are printed.
use Rattle.std.specs.Prelude.{◌≡◌, ◌==◌, ℕ, ℤ, Bool, List, Some, ◌++◌, if◌then◌else◌, unwrap_or, codes, decimal}
use Rattle.std.specs.Fmt.{signed_decimal}
use Rattle.osm_lattice.specs.declared.loc.Loc.{Loc}
use Rattle.osm_lattice.specs.declared.conflicts.Kind.TheVariants.{Crossing, Overlap}
use Rattle.osm_lattice.specs.Conflict.{conflict_of}
use Rattle.osm_tables.specs.Tables.{code_of, coast_kinds}
use Rattle.osm_notation.specs.Coordinates.{point_text}
use Rattle.osm_text.specs.Report.{segment_text, pair_text, shared_text, IsMeetingText}
use Rattle.osm_text.specs.declared.coast.CoastLine.{CoastLine}
use Rattle.osm_text.specs.declared.coast.CoastLine.TheVariants.{Missing, Short, Antarctica, Gap, Unclosed, Cut, LeftOut, Conflict, Repeated, WrongWay, Large, Vanished}

-- the key of a line's kind in the table
abbrev pub key_of : CoastLine → ℕ
key_of (Missing way node) = 1
key_of (Short way) = 2
key_of (Antarctica chain) = 3
key_of (Gap end_at start_at) = 4
key_of (Unclosed chain start_at end_at) = 5
key_of (Cut ring from to) = 13
key_of (LeftOut ring) = 6
key_of (Conflict Crossing s t) = 7
key_of (Conflict Overlap s t) = 8
key_of (Repeated seg times) = 9
key_of (WrongWay ring) = 10
key_of (Large points) = 11
key_of (Vanished at) = 12

-- a line is an error where the table has the code 2 beside its key, and otherwise a warning
abbrev pub is_error : CoastLine → Bool
is_error line = unwrap_or (code_of coast_kinds (key_of line)) 0 == 2

abbrev pub severity_text : CoastLine → List ℕ
severity_text line = if is_error line then codes "error " else codes "warning "

-- what a line is about
abbrev pub way_text : ℤ → List ℕ
way_text way = codes "way " ++ signed_decimal way ++ codes ": "

abbrev pub chain_text : ℤ → List ℕ
chain_text chain = codes "chain of way " ++ signed_decimal chain ++ codes " "

abbrev pub ring_text : ℤ → List ℕ
ring_text ring = codes "ring of way " ++ signed_decimal ring ++ codes " "

-- from one point to another
abbrev pub ends_text : Loc → Loc → List ℕ
ends_text from to = point_text from ++ codes " to " ++ point_text to

-- the locations of a ring between these two
abbrev pub cut_text : ℤ → Loc → Loc → List ℕ
cut_text ring from to = ring_text ring ++ (codes "was cut from " ++ ends_text from to)

-- the ring whose least node is rounded to this point
abbrev pub vanished_text : Loc → List ℕ
vanished_text at = codes "ring at " ++ point_text at ++ codes " vanished"

-- a conflict is of the kind that its segments have
abbrev pub HasItsKind : CoastLine → Type 0
HasItsKind (Missing way node) = Unit {0}
HasItsKind (Short way) = Unit {0}
HasItsKind (Antarctica chain) = Unit {0}
HasItsKind (Gap end_at start_at) = Unit {0}
HasItsKind (Unclosed chain start_at end_at) = Unit {0}
HasItsKind (Cut ring from to) = Unit {0}
HasItsKind (LeftOut ring) = Unit {0}
HasItsKind (Conflict kind s t) = conflict_of s t ≡ Some kind
HasItsKind (Repeated seg times) = Unit {0}
HasItsKind (WrongWay ring) = Unit {0}
HasItsKind (Large points) = Unit {0}
HasItsKind (Vanished at) = Unit {0}

-- what a line says
abbrev pub IsCoastText : CoastLine → List ℕ → Type 0
IsCoastText (Missing way node) text = text ≡ way_text way ++ (codes "missing node " ++ signed_decimal node)
IsCoastText (Short way) text = text ≡ way_text way ++ codes "short"
IsCoastText (Antarctica chain) text = text ≡ codes "antarctica closed on way " ++ signed_decimal chain
IsCoastText (Gap end_at start_at) text = text ≡ codes "gap closed from " ++ ends_text end_at start_at
IsCoastText (Unclosed chain start_at end_at) text = text ≡ chain_text chain ++ (codes "is not closed, from " ++ ends_text start_at end_at)
IsCoastText (Cut ring from to) text = text ≡ cut_text ring from to
IsCoastText (LeftOut ring) text = text ≡ ring_text ring ++ codes "is left out"
IsCoastText (Conflict Crossing s t) text =
    (point : List ℕ) × IsMeetingText s t point × (text ≡ codes "crossing " ++ point ++ pair_text s t)
IsCoastText (Conflict Overlap s t) text = text ≡ codes "overlap " ++ shared_text s t ++ pair_text s t
IsCoastText (Repeated seg times) text =
    text ≡ codes "segment " ++ segment_text seg ++ codes " stands " ++ decimal times ++ codes " times"
IsCoastText (WrongWay ring) text = text ≡ ring_text ring ++ codes "runs the wrong way"
IsCoastText (Large points) text = text ≡ codes "piece of " ++ decimal points ++ codes " points"
IsCoastText (Vanished at) text = text ≡ vanished_text at

-- a line as it is printed
abbrev pub IsCoastLine : CoastLine → List ℕ → Type 0
IsCoastLine line printed = (text : List ℕ) × IsCoastText line text × (printed ≡ severity_text line ++ text ++ codes "\n")

-- every line can be printed; a conflict, if it is of the kind that its segments have
abbrev pub CoastLineExists : Type 0
CoastLineExists = (line : CoastLine) → HasItsKind line → (printed : List ℕ) × IsCoastLine line printed

-- and in one way alone
abbrev pub CoastLineIsOne : Type 0
CoastLineIsOne =
    (line : CoastLine) → HasItsKind line → (a b : List ℕ) → IsCoastLine line a → IsCoastLine line b → a ≡ b
