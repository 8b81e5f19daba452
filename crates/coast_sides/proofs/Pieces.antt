-- Sums over the pieces of a side.
use Rattle.std.proofs.Common.{◌≡◌, ℕ, suc, ◌+◌, ◌*◌, Bool, true, List, [], ◌∷◌, All, refl, ap, ◌∙◌, arith}
use Rattle.std.specs.declared.cmp.Ordering.{Ordering}
use Rattle.std.specs.declared.cmp.Ordering.TheVariants.{Less, Equal, Greater}
use Rattle.std.specs.List.{cons_option, sum_by}
use Rattle.std.proofs.lemmas.List.Sums.{sum_by-cons}
use Rattle.osm_lattice.specs.declared.loc.Loc.{Loc}
use Rattle.osm_lattice.specs.declared.seg.Seg.{Seg}
use Rattle.osm_lattice.specs.Loc.{loc_cmp}
use Rattle.osm_lattice.specs.Seg.{segment_between, segment_by}
use Rattle.osm_lattice.proofs.LatticeKit.{seg_from_ends}
use Rattle.lists.specs.Rising.{IsRising, count_of}
use Rattle.coast_rings.specs.Line.{last_location}
use Rattle.coast_rings.proofs.RingsKit.{last_cons}
use Rattle.coast_sides.specs.Water.{pieces}
use Rattle.coast_sides.proofs.EvenRings.{ends_at, one}

-- a piece is the segment from one node to the next
piece_sum : (g : Seg → ℕ) (h : Loc → Loc → ℕ) → ((s : Seg) → g s ≡ h s.a s.b) → (a b : Loc) (ss : List Seg) → loc_cmp a b ≡ Less → sum_by g (cons_option (segment_between a b) ss) ≡ h a b + sum_by g ss
unfolding segment_between
piece_sum g h is a b ss less = by (loc_cmp a b) (loc_cmp b a) refl refl less
  where
    made : (forth back : Ordering) (e : loc_cmp a b ≡ Less) (d : loc_cmp b a ≡ back) → sum_by g (cons_option (segment_by a b Less back e d) ss) ≡ h a b + sum_by g ss
    made forth back e d = let s : Seg = record { a = a; b = b; rising = e } in sum_by-cons g s ss ∙ ap (λ n. n + sum_by g ss) (is s)

    by : (forth back : Ordering) (e : loc_cmp a b ≡ forth) (d : loc_cmp b a ≡ back) → forth ≡ Less → sum_by g (cons_option (segment_by a b forth back e d) ss) ≡ h a b + sum_by g ss
    by Less back e d t = made Less back e d
    by Equal back e d t = absurd (cc)
    by Greater back e d t = absurd (cc)

piece_at : (g : Seg → ℕ) (a b : Loc) (ss : List Seg) (less : loc_cmp a b ≡ Less) → sum_by g (cons_option (segment_between a b) ss) ≡ g (record { a = a; b = b; rising = less }) + sum_by g ss
unfolding segment_between
piece_at g a b ss less = by (loc_cmp a b) (loc_cmp b a) refl refl less
  where
    by : (forth back : Ordering) (e : loc_cmp a b ≡ forth) (d : loc_cmp b a ≡ back) (t : forth ≡ Less) → sum_by g (cons_option (segment_by a b forth back e d) ss) ≡ g (record { a = a; b = b; rising = less }) + sum_by g ss
    by Less back e d t = let s : Seg = record { a = a; b = b; rising = e } in sum_by-cons g s ss ∙ ap (λ n. n + sum_by g ss) (ap g (seg_from_ends s (record { a = a; b = b; rising = less }) refl refl))
    by Equal back e d t = absurd (cc)
    by Greater back e d t = absurd (cc)

rising_next : (a b : Loc) (r : List Loc) → IsRising loc_cmp (a ∷ (b ∷ r)) → loc_cmp a b ≡ Less
rising_next a b r up = up 0 1 a (omega arith) (omega arith)

rising_rest : (a : Loc) (r : List Loc) → IsRising loc_cmp (a ∷ r) → IsRising loc_cmp r
rising_rest a r up i j d h l = up (suc i) (suc j) d (omega arith) (omega arith)

-- ---- ends

pub piece_ends : (p : Loc) (a : Loc) (r : List Loc) → IsRising loc_cmp (a ∷ r) → sum_by (ends_at p) (pieces (a ∷ r)) + one p a + one p (last_location (a ∷ r)) ≡ 2 * count_of loc_cmp p (a ∷ r)
piece_ends p a [] up = let c = sum_by-cons (one p) a [] in omega arith
piece_ends p a (b ∷ r) up =
    let rest = piece_ends p b r (rising_rest a (b ∷ r) up) in
    let here = piece_sum (ends_at p) (λ c d. one p c + one p d) (λ s. refl) a b (pieces (b ∷ r)) (rising_next a b r up) in
    let last = ap (one p) (last_cons a b r) in
    let c = sum_by-cons (one p) a (b ∷ r) in
    omega arith

-- ---- a value that falls along the side

pub fall : (g : Seg → ℕ) (v : Loc → ℕ) → (on : Loc → Bool) → ((s : Seg) → on s.a ≡ true → on s.b ≡ true → g s + v s.b ≡ v s.a) → (a : Loc) (r : List Loc) → All (λ n. on n ≡ true) (a ∷ r) → IsRising loc_cmp (a ∷ r) → sum_by g (pieces (a ∷ r)) + v (last_location (a ∷ r)) ≡ v a
fall g v on falls a [] within up = omega arith
fall g v on falls a (b ∷ r) within up =
    let rest = fall g v on falls b r (λ k d h. within (suc k) d (omega arith)) (rising_rest a (b ∷ r) up) in
    let less = rising_next a b r up in
    let s : Seg = record { a = a; b = b; rising = less } in
    let one_piece = falls s (within 0 a (omega arith)) (within 1 a (omega arith)) in
    let here = first_piece less in
    let last = ap v (last_cons a b r) in
    omega arith
  where
    first_piece : (less : loc_cmp a b ≡ Less) → sum_by g (pieces (a ∷ (b ∷ r))) ≡ g (record { a = a; b = b; rising = less }) + sum_by g (pieces (b ∷ r))
    first_piece less = piece_at g a b (pieces (b ∷ r)) less
