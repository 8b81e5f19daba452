-- The clockwise order by signs: the same as that of directions, and what a sector holds.
use Rattle.std.proofs.Common.{◌≡◌, Bool, true, false, not, ◌&&◌, eqb, eqb-true, ℤ, pos, ◌-ℤ◌, refl, sym, ap, ◌∙◌}
use Rattle.std.specs.Ordering.{is_lt, int_cmp, nat_cmp, ordering_then}
use Rattle.plane.specs.Sector.{in_sector, sector_by}
use Rattle.plane.specs.Sign.{Sign, is_null, is_plus, negated, sign}
use Rattle.plane.specs.Vector.{IsNonZero, Vector, cross, dot}
use Rattle.plane.proofs.SignKit.{agree, all, all-out, all2, all2-out, all4, all4-out, imp, imp-out, same_bool, same_bool-true, sign-reversed, times}
use Rattle.plane.proofs.PlaneKit.{cross-negated, dot-swap}
use Rattle.plane_lists.proofs.WindingKit.{crossed, crossed-at, dot-at}
use Rattle.plane_lists.proofs.NestingKit.{is_some, some-signs}
use Rattle.osm_geom.specs.declared.dir.Dir.{Dir}
use Rattle.osm_geom.specs.Dir as dir
use Rattle.osm_geom.specs.Dir.{clockwise_cmp, rank_of, turn_by, vector_along}
use Rattle.osm_lattice.specs.OrderLaws.{ordering_of}
use Rattle.osm_lattice.proofs.LatticeKit.{int_cmp-is}
use Rattle.osm_geom.specs.InPlane.OneDirection.{HaveOneDirection}
use Rattle.osm_geom.proofs.EdgesKit.{along-cross, along-dot}
use Rattle.osm_rings.specs.Clockwise.{earlier, is_met_before}
use Rattle.lists.proofs.ListsKit.{sum_none}

-- the order goes by directions alone
pub met-along : (u v w c d e : Vector) → HaveOneDirection u c → HaveOneDirection v d → HaveOneDirection w e → is_met_before u v w ≡ is_met_before c d e
met-along u v w c d e hu hv hw = rw (along-dot u v c d hu hv, along-cross u v c d hu hv, along-dot u w c e hu hw, along-cross u w c e hu hw, along-cross v w d e hv hw) refl

-- ---- the same as in Rust's words
abbrev ranked_2 : Sign → Sign → Sign → Sign → Sign → Bool
ranked_2 ax ay bx by k =
    same_bool (earlier ax ay bx by k)
    (is_lt (ordering_then (nat_cmp (rank_of (turn_by (ordering_of (negated ay)) (ordering_of (negated ax)))) (rank_of (turn_by (ordering_of (negated by)) (ordering_of (negated bx))))) (ordering_of (negated k))))

ranked_computes : all4 (λ ax ay bx by. all (ranked_2 ax ay bx by)) ≡ true
ranked_computes = refl

below-zero : (z : ℤ) → int_cmp z (pos 0) ≡ ordering_of (negated (sign z))
below-zero z = int_cmp-is z (pos 0) ∙ ap ordering_of (sign-reversed z (pos 0 -ℤ z) (sum_none z))

pub met-before-is : (d a b : Dir) → is_lt (clockwise_cmp d a b) ≡ is_met_before (vector_along d) (vector_along a) (vector_along b)
unfolding dir.cross dir.dot
met-before-is d a b =
    let u = vector_along d in let v = vector_along a in let w = vector_along b in
    let c = same_bool-true _ _ (all-out (ranked_2 (sign (dot u v)) (sign (cross u v)) (sign (dot u w)) (sign (cross u w))) (all4-out (λ ax ay bx by. all (ranked_2 ax ay bx by)) ranked_computes (sign (dot u v)) (sign (cross u v)) (sign (dot u w)) (sign (cross u w))) (sign (cross v w))) in
    rw (below-zero (cross u v), below-zero (dot u v), below-zero (cross u w), below-zero (dot u w), below-zero (cross v w)) (sym c)

-- ---- the sector from a direction that isn't met before another one back to d holds that other one
abbrev held_2 : Sign → Sign → Sign → Sign → Sign → Sign → Bool
held_2 ax ay bx by k g =
    imp (is_some ax ay) λ _. imp (is_some bx by) λ _.
    imp (crossed ax ay bx by k) λ _. imp (agree (times ax bx) (times ay by) g) λ _.
    imp (not (is_null k && is_plus g)) λ _.
    imp (not (earlier bx by ax ay (negated k))) λ _.
    eqb (sector_by g (negated k) bx (negated by) ay) 1

held_computes : all4 (λ ax ay bx by. all2 (held_2 ax ay bx by)) ≡ true
held_computes = refl

-- a and b do not point the same departure
abbrev pub apart : Vector → Vector → Bool
apart a b = not (is_null (sign (cross a b)) && is_plus (sign (dot a b)))

pub sector-holds : (d a b : Vector) → IsNonZero d → IsNonZero a → IsNonZero b → apart a b ≡ true → is_met_before d b a ≡ false → in_sector b d a ≡ 1
sector-holds d a b pd pa pb n h =
    let ax = sign (dot d a) in let ay = sign (cross d a) in let bx = sign (dot d b) in let by = sign (cross d b) in let k = sign (cross a b) in let g = sign (dot a b) in
    let back : is_met_before d b a ≡ earlier bx by ax ay (negated k) = ap (λ s. earlier bx by ax ay s) (cross-negated a b) in
    let first : not (earlier bx by ax ay (negated k)) ≡ true = ap not (sym back ∙ h) in
    let c = all2-out (held_2 ax ay bx by) (all4-out (λ ax ay bx by. all2 (held_2 ax ay bx by)) held_computes ax ay bx by) k g in
    let r = eqb-true _ _ (imp-out _ _ (imp-out _ _ (imp-out _ _ (imp-out _ _ (imp-out _ _ (imp-out _ _ c (some-signs d a pd pa)) (some-signs d b pd pb)) (crossed-at d a b pd)) (dot-at d a b pd)) n) first) in
    ap (λ s. sector_by s (sign (cross b a)) (sign (dot b d)) (sign (cross b d)) ay) (ap sign (dot-swap a b))
    ∙ (ap (λ s. sector_by g s (sign (dot b d)) (sign (cross b d)) ay) (cross-negated a b)
    ∙ (ap (λ s. sector_by g (negated k) s (sign (cross b d)) ay) (ap sign (dot-swap d b))
    ∙ (ap (λ s. sector_by g (negated k) bx s ay) (cross-negated d b) ∙ r)))
