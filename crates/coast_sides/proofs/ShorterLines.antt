-- Rounds: each makes a line that conflicts with itself shorter, and so they end.
use Rattle.std.proofs.Common.{◌≡◌, ◌⊎◌, ⊎_elim, ℕ, zero, suc, ◌+◌, ◌-◌, ◌<◌, ◌≤◌, ◌&&◌, ◌||◌, Bool, true, false, if◌then◌else◌, Contains, List, [], ◌∷◌, ◌++◌, Some, drop, get_or, length, option_map, take, refl, sym, ap, ◌∙◌, arith}
use Rattle.std.specs.Prelude.{is_some, nat_le, nat_lt}
use Rattle.std.specs.List.{enumerate_from, list_any, slice_get}
use Rattle.std.proofs.lemmas.Bool.{and_from, cases_order, false≢true, le-leb, lt-ltb, or_left}
use Rattle.std.proofs.lemmas.List.{length-map}
use Rattle.std.proofs.lemmas.List.FromFn.{length-enumerate_from}
use Rattle.std.proofs.lemmas.Option.{get_or_from_slice_get, slice_get-get_or, slice_get-map, slice_get_read, slice_get_within}
use Rattle.osm_lattice.specs.Conflict.{conflict_of}
use Rattle.osm_lattice.specs.ConflictLaws.{ConflictIsSymmetric}
use Rattle.osm_lattice.specs.Seg.{segment_between}
use Rattle.osm_lattice.specs.declared.loc.Loc.{Loc}
use Rattle.osm_lattice.specs.declared.seg.Seg.{Seg}
use Rattle.coast_rings.proofs.RingsKit.{once_round_short}
use Rattle.coast_rings.specs.Line.{origin}
use Rattle.coast_sides.specs.CutSorting.{RoundsEnd}
use Rattle.coast_sides.specs.Rounds.{AreRounds, conflicts_itself}
use Rattle.coast_sides.specs.Segments.{segments_round, steps_round}
use Rattle.coast_sides.specs.Shortcuts.{cuts_out, do_conflict, is_among_fewer, is_cut_out, marked, remaining, shortened, steps_conflict}
use Rattle.coast_sides.specs.Sorting.{conflicts_with}
use Rattle.coast_sides.proofs.Conflicts.{unlike_itself}
use Rattle.coast_sides.proofs.RoundSteps.{zip_short}
use Rattle.coast_sides.proofs.SomeMember.{Gives, any_from, filter_map_from, some_passes}

-- ---- no more locations

left_short : (marks : List (Loc × Bool)) → length (remaining marks) ≤ length marks
left_short [] = omega arith
left_short ((p, true) ∷ marks) = let r = left_short marks in omega arith
left_short ((p, false) ∷ marks) = let r = left_short marks in omega arith

left_fewer : (marks : List (Loc × Bool)) (k : ℕ) (m : Loc × Bool) → slice_get marks k ≡ Some m → m.1 ≡ true → length (remaining marks) < length marks
left_fewer [] k m e t = absurd (cc e)
left_fewer ((p, true) ∷ marks) k m e t = let r = left_short marks in omega arith
left_fewer ((p, false) ∷ marks) zero m e t = let same : (p, false) ≡ m = cc e in absurd (false≢true (ap (λ (n : Loc × Bool). n.1) same ∙ t))
left_fewer ((p, false) ∷ marks) (suc k) m e t = let r = left_fewer marks k m e t in omega arith

-- ---- a location that is cut out

numbered_at : {X : Type 0} (n : ℕ) (xs : List X) (k : ℕ) (x : X) → slice_get xs k ≡ Some x → slice_get (enumerate_from n xs) k ≡ Some (n + k, x)
numbered_at n [] k x e = absurd (cc e)
numbered_at n (y ∷ xs) zero x e = let none : n ≡ n + 0 = omega arith in let same : y ≡ x = cc e in λ i. Some (none i, same i)
numbered_at n (y ∷ xs) (suc k) x e = let one : n + 1 + k ≡ n + suc k = omega arith in numbered_at (n + 1) xs k x e ∙ ap (λ m. Some (m, x)) one

pub numbered_get : {X : Type 0} (xs : List X) (k : ℕ) (x : X) → slice_get xs k ≡ Some x → slice_get (enumerate_from 0 xs) k ≡ Some (k, x)
numbered_get xs k x e = let none : 0 + k ≡ k = omega arith in numbered_at 0 xs k x e ∙ ap (λ m. Some (m, x)) none

at_place : {X : Type 0} (xs : List X) (k : ℕ) (x : X) → slice_get xs k ≡ Some x → Contains (enumerate_from 0 xs) (k, x)
at_place xs k x e = let at = numbered_get xs k x e in (k, slice_get_within (enumerate_from 0 xs) k (k, x) at, get_or_from_slice_get (enumerate_from 0 xs) k (k, x) (k, x) at)

-- some location of a line is cut out
pub record IsSomeCut (path : List Loc) : Type 0 where
  pub place : ℕ
  pub inside : place < length path
  pub cut : is_cut_out path place ≡ true

module _ (path : List Loc) where
  cut_by : (i j k : ℕ) (x y : Loc × Loc) → i < j → slice_get (steps_round path) i ≡ Some x → slice_get (steps_round path) j ≡ Some y → steps_conflict x y ≡ true → is_among_fewer (length path) i j k ≡ true → is_cut_out path k ≡ true
  cut_by i j k x y h e f conflict fewer =
      any_from (λ a. list_any (cuts_out (length path) k a) (enumerate_from 0 (steps_round path))) (enumerate_from 0 (steps_round path)) (i, x) (at_place (steps_round path) i x e)
      (any_from (cuts_out (length path) k (i, x)) (enumerate_from 0 (steps_round path)) (j, y) (at_place (steps_round path) j y f)
      (and_from (nat_lt i j) (steps_conflict x y && is_among_fewer (length path) i j k) (lt-ltb i j h) (and_from (steps_conflict x y) (is_among_fewer (length path) i j k) conflict fewer)))

  steps_inside : (i : ℕ) (x : Loc × Loc) → slice_get (steps_round path) i ≡ Some x → i < length path
  steps_inside i x e = let h = slice_get_within (steps_round path) i x e in let short = zip_short path (drop 1 path ++ take 1 path) in omega (arith, h, short)

  some_fewer : (i j : ℕ) (x y : Loc × Loc) → i < j → slice_get (steps_round path) i ≡ Some x → slice_get (steps_round path) j ≡ Some y → steps_conflict x y ≡ true → IsSomeCut path
  some_fewer i j x y h e f conflict = by (nat_le (j - i) (length path - (j - i))) refl
    where
      by : (b : Bool) → nat_le (j - i) (length path - (j - i)) ≡ b → IsSomeCut path
      by true t = record {
        place = j;
        inside = steps_inside j y f;
        cut = cut_by i j j x y h e f conflict (ap (λ b. if b then nat_lt i j && nat_le j j else nat_le j i || nat_lt j j) t ∙ and_from (nat_lt i j) (nat_le j j) (lt-ltb i j h) (le-leb j j (omega arith)));
      }
      by false t = record {
        place = i;
        inside = steps_inside i x e;
        cut = cut_by i j i x y h e f conflict (ap (λ b. if b then nat_lt i i && nat_le i j else nat_le i i || nat_lt j i) t ∙ or_left (nat_le i i) (nat_lt j i) (le-leb i i (omega arith)));
      }

  -- a step of the line along a segment
  record StepOf (s : Seg) : Type 0 where
    pub place : ℕ
    pub step : Loc × Loc
    pub at : slice_get (steps_round path) place ≡ Some step
    pub along : segment_between step.0 step.1 ≡ Some s

  step_of : (s : Seg) → Contains (segments_round path) s → StepOf s
  step_of s c = by (filter_map_from (λ (step : Loc × Loc). segment_between step.0 step.1) (steps_round path) s c)
    where
      by : Gives (λ (step : Loc × Loc). segment_between step.0 step.1) (steps_round path) s → StepOf s
      by g = record { place = g.member.0; step = g.item; at = slice_get_read (steps_round path) (length (steps_round path)) g.member.0 g.item refl g.member.1 (sym g.member.2); along = g.gives }

  pub some_cut : ConflictIsSymmetric → conflicts_itself path ≡ true → IsSomeCut path
  some_cut symmetric e =
      let p = some_passes (conflicts_with (segments_round path)) (segments_round path) e in
      let q = some_passes (λ t. is_some (conflict_of p.item t)) (segments_round path) p.passes in
      by p.item q.item (step_of p.item p.member) (step_of q.item q.member) q.passes
    where
      by : (s t : Seg) → StepOf s → StepOf t → is_some (conflict_of s t) ≡ true → IsSomeCut path
      by s t a b c = ⊎_elim
          (λ (same : a.place ≡ b.place). absurd (one same))
          (λ (apart : (a.place < b.place) ⊎ (b.place < a.place)). ⊎_elim
          (λ (h : a.place < b.place). some_fewer a.place b.place a.step b.step h a.at b.at ((λ i. do_conflict (a.along i) (b.along i)) ∙ c))
          (λ (h : b.place < a.place). some_fewer b.place a.place b.step a.step h b.at a.at ((λ i. do_conflict (b.along i) (a.along i)) ∙ (ap is_some (symmetric t s) ∙ c)))
          apart)
          (cases_order a.place b.place)
        where
          one : a.place ≡ b.place → ⊥
          one same =
              let steps : Some a.step ≡ Some b.step = sym a.at ∙ (ap (slice_get (steps_round path)) same ∙ b.at) in
              let step : a.step ≡ b.step = cc steps in
              let segs : Some s ≡ Some t = sym a.along ∙ (ap (λ (x : Loc × Loc). segment_between x.0 x.1) step ∙ b.along) in
              let seg : s ≡ t = cc segs in
              unlike_itself s (ap (λ u. is_some (conflict_of s u)) seg ∙ c)

  pub shorter : ConflictIsSymmetric → conflicts_itself path ≡ true → length (shortened path) < length path
  shorter symmetric e = by (some_cut symmetric e)
    where
      by : IsSomeCut path → length (shortened path) < length path
      by r =
          let loc = get_or path r.place origin in
          let at : slice_get (marked path) r.place ≡ Some (loc, is_cut_out path r.place) = slice_get-map (λ (p : ℕ × Loc). (p.1, is_cut_out path p.0)) (enumerate_from 0 path) r.place ∙ ap (option_map (λ (p : ℕ × Loc). (p.1, is_cut_out path p.0))) (numbered_get path r.place loc (slice_get-get_or path r.place origin r.inside)) in
          let fewer = left_fewer (marked path) r.place (loc, is_cut_out path r.place) at r.cut in
          let long : length (marked path) ≡ length path = length-map (enumerate_from 0 path) (λ (p : ℕ × Loc). (p.1, is_cut_out path p.0)) ∙ length-enumerate_from 0 path in
          let short = once_round_short (remaining (marked path)) in
          omega arith

-- ---- rounds end

-- rounds of a line, no more than it has locations
abbrev End : List Loc → Type 0
End path = (rounds : List (List Loc)) × (last : List Loc) × AreRounds path rounds last × (length rounds ≤ length path)

ends_by : ConflictIsSymmetric → (path : List Loc) (b : Bool) → conflicts_itself path ≡ b → (conflicts_itself path ≡ true → End (shortened path)) → End path
ends_by symmetric path false e more = ([], path, (e, refl), omega arith)
ends_by symmetric path true e more = let r = more e in let fewer = shorter path symmetric e in let some = r.3 in (path ∷ r.0, r.1, (e, refl, r.2), omega arith)

ends_within : ConflictIsSymmetric → (n : ℕ) (path : List Loc) → length path ≤ n → End path
ends_within symmetric zero path h = ends_by symmetric path (conflicts_itself path) refl (λ e. let fewer = shorter path symmetric e in absurd (omega arith))
ends_within symmetric (suc n) path h = ends_by symmetric path (conflicts_itself path) refl (λ e. let fewer = shorter path symmetric e in ends_within symmetric n (shortened path) (omega arith))

pub all_end : ConflictIsSymmetric → RoundsEnd
all_end symmetric path = ends_within symmetric (length path) path (omega arith)
