-- Lines of an export's report: a problem or a note of a candidate.
use Rattle.std.specs.Prelude.{◌≡◌, ℕ, List, ◌++◌, codes, decimal}
use Rattle.std.specs.Fmt.{signed_decimal}
use Rattle.std.specs.Ordering.{ord_min, ord_max}
use Rattle.osm_elements.specs.declared.object.ObjectKind.{ObjectKind}
use Rattle.osm_elements.specs.declared.object.ObjectKind.TheVariants.{Node, Way, Relation}
use Rattle.osm_elements.specs.declared.object.ObjectRef.{ObjectRef}
use Rattle.osm_lattice.specs.declared.loc.Loc.{Loc}
use Rattle.osm_lattice.specs.declared.seg.Seg.{Seg}
use Rattle.osm_lattice.specs.declared.frac.Frac.{Frac}
use Rattle.osm_lattice.specs.declared.conflicts.Kind.TheVariants.{Crossing, Overlap}
use Rattle.osm_lattice.specs.Loc.{loc_cmp}
use Rattle.osm_lattice.specs.Frac.{rounded}
use Rattle.osm_lattice.specs.Meeting.{IsOnSegment}
use Rattle.osm_objects.specs.Problem.{IsOfItsKind}
use Rattle.osm_objects.specs.declared.problem.Problem.{Problem}
use Rattle.osm_objects.specs.declared.problem.Problem.TheVariants.{MissingWay, MissingNode, Nothing, Conflict, Odd}
use Rattle.osm_objects.specs.declared.problem.Note.{Note}
use Rattle.osm_objects.specs.declared.problem.Note.TheVariants.{NamedTwice, Repeated, InnerInOuter, OuterInInner}
use Rattle.osm_notation.specs.Coordinates.{xy_text, point_text}

abbrev pub kind_text : ObjectKind → List ℕ
kind_text Node = codes "node"
kind_text Way = codes "way"
kind_text Relation = codes "relation"

-- the candidate that a line is about
abbrev pub subject_text : ObjectRef → List ℕ
subject_text of = kind_text of.kind ++ codes " " ++ signed_decimal of.id ++ codes ": "

-- a stretch between two points
abbrev pub stretch_text : Loc → Loc → List ℕ
stretch_text from to = point_text from ++ codes "," ++ point_text to

-- a segment, its lower end first
abbrev pub segment_text : Seg → List ℕ
segment_text s = stretch_text s.a s.b

-- the two segments of a conflict
abbrev pub pair_text : Seg → Seg → List ℕ
pair_text s t = codes " of " ++ segment_text s ++ codes " and " ++ segment_text t

-- the stretch that two overlapping segments share
abbrev pub shared_text : Seg → Seg → List ℕ
shared_text s t = stretch_text (ord_max loc_cmp s.a t.a) (ord_min loc_cmp s.b t.b)

-- the point on both segments, its coordinates rounded
pub record IsMeetingText (s t : Seg) (text : List ℕ) : Type 0 where
  pub x : Frac
  pub y : Frac
  pub on_first : IsOnSegment s x y
  pub on_second : IsOnSegment t x y
  pub text_is : text ≡ xy_text (rounded x.num x.den) (rounded y.num y.den)

-- what a line says of a problem
abbrev pub IsProblemText : Problem → List ℕ → Type 0
IsProblemText (MissingWay id) text = text ≡ codes "missing way " ++ signed_decimal id
IsProblemText (MissingNode id) text = text ≡ codes "missing node " ++ signed_decimal id
IsProblemText Nothing text = text ≡ codes "nothing survives"
IsProblemText (Conflict Crossing s t) text =
    (point : List ℕ) × IsMeetingText s t point × (text ≡ codes "crossing " ++ point ++ pair_text s t)
IsProblemText (Conflict Overlap s t) text = text ≡ codes "overlap " ++ shared_text s t ++ pair_text s t
IsProblemText (Odd at) text = text ≡ codes "odd node " ++ point_text at

-- the line of a problem
abbrev pub IsProblemLine : ObjectRef → Problem → List ℕ → Type 0
IsProblemLine of problem line = (text : List ℕ) × IsProblemText problem text × (line ≡ subject_text of ++ text ++ codes "\n")

-- every problem has a line; a conflict, if it is of the kind that its segments have
abbrev pub ProblemLineExists : Type 0
ProblemLineExists = (of : ObjectRef) (problem : Problem) → IsOfItsKind problem → (line : List ℕ) × IsProblemLine of problem line

-- and one line alone
abbrev pub ProblemLineIsOne : Type 0
ProblemLineIsOne =
    (of : ObjectRef) (problem : Problem) → IsOfItsKind problem → (a b : List ℕ) →
    IsProblemLine of problem a → IsProblemLine of problem b → a ≡ b

-- what a line says of a note
abbrev pub note_text : Note → List ℕ
note_text (NamedTwice way) = codes "note way " ++ signed_decimal way ++ codes " named twice"
note_text (Repeated seg times) = codes "note segment " ++ segment_text seg ++ codes " stands " ++ decimal times ++ codes " times"
note_text (InnerInOuter way) = codes "note way " ++ signed_decimal way ++ codes " has role inner in an outer ring"
note_text (OuterInInner way) = codes "note way " ++ signed_decimal way ++ codes " has role outer in an inner ring"

-- the line of a note
abbrev pub note_line : ObjectRef → Note → List ℕ
note_line of note = subject_text of ++ note_text note ++ codes "\n"
