-- A candidate has an area exactly where it is sound.
use Rattle.std.proofs.Common.{◌≡◌, ◌↔◌, ◌∙◌, All, List, [], ◌∷◌, ◌++◌, map, refl, sym, ap, subst}
use Rattle.std.proofs.lemmas.List.Elements.{All-nil}
use Rattle.osm_lattice.specs.declared.seg.Seg.{Seg}
use Rattle.osm_lattice.specs.Seg.{seg_cmp}
use Rattle.osm_lattice.proofs.LatticeKit.{seg_total, seg_same}
use Rattle.osm_elements.specs.declared.object.Object.{Object}
use Rattle.osm_elements.specs.declared.object.ObjectRef.{ObjectRef}
use Rattle.lists.specs.Rising.{IsRising}
use Rattle.lists.proofs.ListsKit.{same_rising}
use Rattle.osm_objects.specs.declared.problem.Problem.{Problem}
use Rattle.osm_segments.specs.Counts.{AreOddNodes, AreSurvivors}
use Rattle.osm_segments.specs.Pairs.{conflicts_of}
use Rattle.osm_segments.proofs.SegmentsKit.{odd-nodes-one}
use Rattle.osm_segments.specs.Counts.{HasEvenNodes}
use Rattle.osm_sides.proofs.DirectedSides.{directed_is_sided}
use Rattle.osm_nest.specs.declared.polygon.Polygon.{Polygon}
use Rattle.osm_nest.specs.Laws.{NestedHaveKinds, RingsMayBeNested}
use Rattle.osm_nest.specs.Nested.{HasKinds}
use Rattle.osm_area.specs.declared.outcome.Outcome.{Outcome}
use Rattle.osm_area.specs.declared.outcome.Outcome.TheVariants as outcome
use Rattle.osm_area.specs.Area.{IsArea}
use Rattle.osm_area.specs.Missing.{missing}
use Rattle.osm_area.specs.Outcome.{AreasHaveKinds, HasAreaExactly, IsOutcome, polygons_in, problems_in}
use Rattle.osm_area.specs.Problems.{AreFaults, AreProblemsAmong, AreProblemsGiven, SurvivorsAre, conflict_problem, odd_problem}
use Rattle.osm_area.specs.Segments.{candidate_segments}
use Rattle.osm_area.specs.Sound.{IsSound, IsSoundGiven}

-- ---- lists told by counts
pub survivors-one : (segs a b : List Seg) → AreSurvivors segs a → AreSurvivors segs b → a ≡ b
survivors-one segs a b s t = same_rising seg_total seg_same a b s.rising t.rising (λ z. s.odd z ∙ sym (t.odd z))

-- ---- no problem
none-left : (a b : List Problem) → a ++ b ≡ [] → a ≡ []
none-left [] b q = refl
none-left (y ∷ a) b q = cc

none-right : (a b : List Problem) → a ++ b ≡ [] → b ≡ []
none-right [] b q = q
none-right (y ∷ a) b q = cc

none-mapped : {X : Type 0} (f : X → Problem) (xs : List X) → map f xs ≡ [] → xs ≡ []
none-mapped f [] q = refl
none-mapped f (y ∷ xs) q = cc

pub no-faults : (segs : List Seg) → AreFaults segs [] → (conflicts_of segs ≡ []) × HasEvenNodes segs
no-faults segs h =
    let pairs = map conflict_problem (conflicts_of segs) in
    let odd = map odd_problem h.odd_nodes in
    let none = none-mapped odd_problem h.odd_nodes (none-right pairs odd (sym h.whole)) in
    (none-mapped conflict_problem (conflicts_of segs) (none-left pairs odd (sym h.whole)), subst (AreOddNodes segs) none h.odd)

sound-among : (segs survivors : List Seg) → AreSurvivors segs survivors → AreProblemsAmong survivors [] → IsSoundGiven [] segs
sound-among segs [] are h = absurd (cc)
sound-among segs (s ∷ ss) are h =
    let none = no-faults (s ∷ ss) h in
    record { complete = refl; survivors = s ∷ ss; survive = are; some = λ e. cc; clear = none.0; even = none.1 }

pub no-problems : (missing : List ObjectRef) (segs : List Seg) → AreProblemsGiven missing segs [] → IsSoundGiven missing segs
no-problems [] segs h = sound-among segs h.0 h.1.0 h.1.1
no-problems (r ∷ missing) segs h = absurd (cc)

-- ---- what is sound has no problem
no-faults-of : (segs : List Seg) (list : List Problem) → conflicts_of segs ≡ [] → HasEvenNodes segs → AreFaults segs list → list ≡ []
no-faults-of segs list clear even h =
    let none = odd-nodes-one segs h.odd_nodes [] h.odd even in
    h.whole ∙ ap (λ (pairs : List Problem). pairs ++ map odd_problem h.odd_nodes) (ap (map conflict_problem) clear) ∙ ap (map odd_problem) none

none-among : (survivors : List Seg) (list : List Problem) → (survivors ≡ [] → ⊥) → conflicts_of survivors ≡ [] → HasEvenNodes survivors → AreProblemsAmong survivors list → list ≡ []
none-among [] list some clear even h = absurd (some refl)
none-among (s ∷ ss) list some clear even h = no-faults-of (s ∷ ss) list clear even h

sound-none : (missing : List ObjectRef) (segs : List Seg) (list : List Problem) → IsSoundGiven missing segs → AreProblemsGiven missing segs list → list ≡ []
sound-none [] segs list sound h =
    none-among sound.survivors list sound.some sound.clear sound.even
    (subst (λ survivors. AreProblemsAmong survivors list) (survivors-one segs h.0 sound.survivors h.1.0 sound.survive) h.1.1)
sound-none (r ∷ missing) segs list sound h = absurd (let none = sound.complete in cc)

exactly : (objects : List Object) (candidate : ObjectRef) (o : Outcome) → IsOutcome objects candidate o → (problems_in o ≡ []) ↔ IsSound objects candidate
exactly objects candidate (outcome.Area polygons notes) is =
    (λ none. no-problems (missing objects candidate) (candidate_segments objects candidate) is.0, λ sound. refl)
exactly objects candidate (outcome.Problems list notes) is = (
  λ none. absurd (is.1 none),
  λ sound. sound-none (missing objects candidate) (candidate_segments objects candidate) list sound is.0,
)

pub has-area-exactly : HasAreaExactly
has-area-exactly = exactly

-- ---- kinds, by the laws of the layer below
module _ (fit : RingsMayBeNested) (kinds : NestedHaveKinds) where
  area-kinds : (survivors : List Seg) (polygons : List Polygon) → IsRising seg_cmp survivors → conflicts_of survivors ≡ [] → HasEvenNodes survivors → IsArea survivors polygons → All HasKinds polygons
  area-kinds survivors polygons rising clear even area =
      let sided = directed_is_sided survivors area.edges rising clear even area.directed in
      kinds area.made.rings polygons (fit area.edges area.made.rings sided area.made.cut) area.made.nested

  sound-kinds : (missing : List ObjectRef) (segs : List Seg) (polygons : List Polygon) → IsSoundGiven missing segs → SurvivorsAre segs (λ survivors. IsArea survivors polygons) → All HasKinds polygons
  sound-kinds missing segs polygons sound are =
      area-kinds sound.survivors polygons sound.survive.rising sound.clear sound.even
      (subst (λ survivors. IsArea survivors polygons) (survivors-one segs are.0 sound.survivors are.1.0 sound.survive) are.1.1)

  kinds-in : (objects : List Object) (candidate : ObjectRef) (o : Outcome) → IsOutcome objects candidate o → All HasKinds (polygons_in o)
  kinds-in objects candidate (outcome.Area polygons notes) is =
      sound-kinds (missing objects candidate) (candidate_segments objects candidate) polygons (no-problems (missing objects candidate) (candidate_segments objects candidate) is.0) is.1
  kinds-in objects candidate (outcome.Problems list notes) is = All-nil HasKinds

  pub areas-have-kinds : AreasHaveKinds
  areas-have-kinds = kinds-in
