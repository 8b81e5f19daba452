-- A line is printed in one way, since segments that cross have one point in common.
use Rattle.std.proofs.Common.{List, Some, ap, sym, ℕ, ◌++◌, ◌∙◌, ◌≡◌}
use Rattle.std.specs.Prelude.{codes}
use Rattle.osm_lattice.specs.declared.conflicts.Kind.TheVariants.{Crossing, Overlap}
use Rattle.osm_lattice.specs.declared.frac.Frac.{Frac}
use Rattle.osm_lattice.specs.declared.seg.Seg.{Seg}
use Rattle.osm_lattice.specs.Conflict.{conflict_of}
use Rattle.osm_lattice.specs.ConflictPoints.{CrossingHasOnePoint, OnePoint}
use Rattle.osm_lattice.specs.Frac.{rounded}
use Rattle.osm_lattice.specs.Meeting.{CommonPoint}
use Rattle.osm_objects.specs.Problem.{IsOfItsKind}
use Rattle.osm_objects.specs.declared.problem.Problem.{Problem}
use Rattle.osm_objects.specs.declared.problem.Problem.TheVariants as problem
use Rattle.osm_notation.specs.Coordinates.{xy_text}
use Rattle.osm_text.specs.Coast.{CoastLineIsOne, HasItsKind, IsCoastText, severity_text}
use Rattle.osm_text.specs.Report.{IsMeetingText, IsProblemText, ProblemLineIsOne, pair_text, subject_text}
use Rattle.osm_text.specs.declared.coast.CoastLine.{CoastLine}
use Rattle.osm_text.specs.declared.coast.CoastLine.TheVariants as line

abbrev common : (s t : Seg) (text : List ℕ) → IsMeetingText s t text → CommonPoint s t
common s t text m = record { x = m.x; y = m.y; on_first = m.on_first; on_second = m.on_second }

module _ (one_point : CrossingHasOnePoint) where
  meeting_one : (s t : Seg) → conflict_of s t ≡ Some Crossing → (a b : List ℕ) → IsMeetingText s t a → IsMeetingText s t b → a ≡ b
  meeting_one s t k a b m n =
      let o : OnePoint s t = (one_point s t).0 k in
      let p = o.alone (common s t a m) in let q = o.alone (common s t b n) in
      let x : m.x ≡ n.x = p.0 ∙ sym q.0 in let y : m.y ≡ n.y = p.1 ∙ sym q.1 in
      m.text_is ∙ ap (λ (f : Frac). xy_text (rounded f.num f.den) (rounded m.y.num m.y.den)) x
      ∙ ap (λ (f : Frac). xy_text (rounded n.x.num n.x.den) (rounded f.num f.den)) y ∙ sym n.text_is

  problem_text_one : (p : Problem) → IsOfItsKind p → (a b : List ℕ) → IsProblemText p a → IsProblemText p b → a ≡ b
  problem_text_one (problem.MissingWay id) k a b s t = s ∙ sym t
  problem_text_one (problem.MissingNode id) k a b s t = s ∙ sym t
  problem_text_one problem.Nothing k a b s t = s ∙ sym t
  problem_text_one (problem.Conflict Crossing x y) k a b s t =
      s.2 ∙ ap (λ (l : List ℕ). codes "crossing " ++ l ++ pair_text x y) (meeting_one x y k s.0 t.0 s.1 t.1) ∙ sym t.2
  problem_text_one (problem.Conflict Overlap x y) k a b s t = s ∙ sym t
  problem_text_one (problem.Odd at) k a b s t = s ∙ sym t

  pub problem_line_one : ProblemLineIsOne
  problem_line_one of p k a b s t =
      s.2 ∙ ap (λ (l : List ℕ). subject_text of ++ l ++ codes "\n") (problem_text_one p k s.0 t.0 s.1 t.1) ∙ sym t.2

  coast_text_one : (l : CoastLine) → HasItsKind l → (a b : List ℕ) → IsCoastText l a → IsCoastText l b → a ≡ b
  coast_text_one (line.Missing way node) k a b s t = s ∙ sym t
  coast_text_one (line.Short way) k a b s t = s ∙ sym t
  coast_text_one (line.Antarctica chain) k a b s t = s ∙ sym t
  coast_text_one (line.Gap end_at start_at) k a b s t = s ∙ sym t
  coast_text_one (line.Unclosed chain start_at end_at) k a b s t = s ∙ sym t
  coast_text_one (line.Cut ring from to) k a b s t = s ∙ sym t
  coast_text_one (line.LeftOut ring) k a b s t = s ∙ sym t
  coast_text_one (line.Conflict Crossing x y) k a b s t =
      s.2 ∙ ap (λ (l : List ℕ). codes "crossing " ++ l ++ pair_text x y) (meeting_one x y k s.0 t.0 s.1 t.1) ∙ sym t.2
  coast_text_one (line.Conflict Overlap x y) k a b s t = s ∙ sym t
  coast_text_one (line.Repeated seg times) k a b s t = s ∙ sym t
  coast_text_one (line.WrongWay ring) k a b s t = s ∙ sym t
  coast_text_one (line.Large points) k a b s t = s ∙ sym t
  coast_text_one (line.Vanished at) k a b s t = s ∙ sym t

  pub coast_line_one : CoastLineIsOne
  coast_line_one l k a b s t =
      s.2 ∙ ap (λ (text : List ℕ). severity_text l ++ text ++ codes "\n") (coast_text_one l k s.0 t.0 s.1 t.1) ∙ sym t.2
