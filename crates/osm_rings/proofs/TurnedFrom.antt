-- The clockwise order from another direction.
use Rattle.std.proofs.Common.{◌≡◌, Bool, true, false, refl}
use Rattle.plane.specs.Sign.{Sign, sign}
use Rattle.plane.specs.Vector.{IsNonZero, Vector, cross, dot}
use Rattle.plane.proofs.SignKit.{agree, all, all-out, all2, all2-out, all4, all4-out, imp, imp-out, same_bool, same_bool-true, times}
use Rattle.plane_lists.proofs.WindingKit.{crossed, crossed-at, dot-at}
use Rattle.plane_lists.proofs.NestingKit.{is_some, some-signs}
use Rattle.osm_rings.specs.Clockwise.{earlier, is_met_before}

-- what is met after the new first direction comes before the rest: by whether either of two is, and whether the one was before the other
abbrev pub turned : Bool → Bool → Bool → Bool
turned true false before = true
turned false true before = false
turned true true before = before
turned false false before = before

abbrev turned_4 : Sign → Sign → Sign → Sign → Sign → Sign → Sign → Sign → Sign → Sign → Sign → Bool
turned_4 bx by ux uy k e vx vy l f m =
    imp (crossed ux uy vx vy m) λ _.
    imp (crossed e k f l m) λ _.
    same_bool (earlier e k f l m) (turned (earlier bx by ux uy k) (earlier bx by vx vy l) (earlier ux uy vx vy m))

abbrev turned_3 : Sign → Sign → Sign → Sign → Sign → Sign → Sign → Sign → Sign → Sign → Bool
turned_3 bx by ux uy k e vx vy l f =
    imp (crossed bx by vx vy l) λ _.
    imp (agree (times bx vx) (times by vy) f) λ _.
    imp (is_some f l) λ _.
    all (turned_4 bx by ux uy k e vx vy l f)

abbrev turned_2 : Sign → Sign → Sign → Sign → Sign → Sign → Bool
turned_2 bx by ux uy k e =
    imp (crossed bx by ux uy k) λ _.
    imp (agree (times bx ux) (times by uy) e) λ _.
    imp (is_some e k) λ _.
    all4 (turned_3 bx by ux uy k e)

abbrev turned_1 : Sign → Sign → Sign → Sign → Bool
turned_1 bx by ux uy = all2 (turned_2 bx by ux uy)

turned_computes : all4 turned_1 ≡ true
turned_computes = refl

pub met-turned : (d b u v : Vector) → IsNonZero d → IsNonZero b → IsNonZero u → IsNonZero v → is_met_before b u v ≡ turned (is_met_before d b u) (is_met_before d b v) (is_met_before d u v)
met-turned d b u v pd pb pu pv =
    let bx = sign (dot d b) in let by = sign (cross d b) in let ux = sign (dot d u) in let uy = sign (cross d u) in let vx = sign (dot d v) in let vy = sign (cross d v) in
    let k = sign (cross b u) in let e = sign (dot b u) in let l = sign (cross b v) in let f = sign (dot b v) in let m = sign (cross u v) in
    let two = all2-out (turned_2 bx by ux uy) (all4-out turned_1 turned_computes bx by ux uy) k e in
    let three = all4-out (turned_3 bx by ux uy k e) (imp-out _ _ (imp-out _ _ (imp-out _ _ two (crossed-at d b u pd)) (dot-at d b u pd)) (some-signs b u pb pu)) vx vy l f in
    let four = all-out (turned_4 bx by ux uy k e vx vy l f) (imp-out _ _ (imp-out _ _ (imp-out _ _ three (crossed-at d b v pd)) (dot-at d b v pd)) (some-signs b v pb pv)) m in
    same_bool-true _ _ (imp-out _ _ (imp-out _ _ four (crossed-at d u v pd)) (crossed-at b u v pb))
