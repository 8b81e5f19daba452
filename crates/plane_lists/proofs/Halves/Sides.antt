-- A line and an edge's part, as a point sees them.
use Rattle.std.proofs.Common.{Bool, ap, arith, eqb, eqb-true, false, inl, inr, not, refl, subst, sym, true, ℕ, ◌||◌, ◌∙◌, ◌≡◌, ◌⊎◌}
use lib.IntN.{◌-ℤ◌}
use Rattle.plane.specs.Edge.{Edge}
use Rattle.plane.specs.RayCrossing.{IsOff, down_by, is_off, off_by, up_by}
use Rattle.plane.specs.Sign.{Minus, Null, Plus, Sign, is_minus, is_null, is_plus, sign}
use Rattle.plane.specs.Vector.{IsNonZero, Vector, cross, dot, from_to}
use Rattle.plane.proofs.PlaneKit.{cross2, crossings_seen, frame-agree, frame-dot-agree, from_to2, lift2, off-turned}
use Rattle.plane.proofs.SignKit.{lift, same, ◌⊞◌, ◌⊟◌, agree, agree-sum, all, all-out, all2, all2-out, all4, all4-out, imp, imp-out, same_bool, same_bool-true, times, null-not-plus, minus-not-plus, neither-plus}
use Rattle.plane_lists.specs.Halves.Half.{IsPart, IsPartEnd}
use Rattle.plane_lists.specs.Halves.Line.{Line, has_part, side}
use Rattle.plane_lists.proofs.Halves.Means.{IsMean, mean-back, mean-first, mean-second, meeting-is-mean, meeting-is-mean-back}

-- ---- how far v is to the left of p, across the line
abbrev pub rise : Line → Vector → Vector → Sign
rise l p v = sign (cross l.along (from_to p v))

pub side-sum : (l : Line) (p v : Vector) → agree (side l p) (rise l p v) (side l v) ≡ true
side-sum l p v =
    let u' = lift2 l.along in let p' = lift2 p in let v' = lift2 v in let c' = lift l.level in
    agree-sum (cross l.along p -ℤ l.level) (cross l.along (from_to p v)) (cross l.along v -ℤ l.level)
    (same ((cross2 u' p' ⊟ c') ⊞ cross2 u' (from_to2 p' v')) (cross2 u' v' ⊟ c') (omega arith))

abbrev below_1 : Sign → Sign → Sign → Bool
below_1 p x v = imp (not (is_minus p)) λ _. imp (not (is_plus v)) λ _. imp (agree p x v) λ _. not (is_plus x)

abbrev above_1 : Sign → Sign → Sign → Bool
above_1 p x v = imp (is_minus p) λ _. imp (not (is_minus v)) λ _. imp (agree p x v) λ _. is_plus x

-- what is not on the kept side is not left of a point of the closed kept side
pub not-above : (l : Line) (p v : Vector) → not (is_minus (side l p)) ≡ true → not (is_plus (side l v)) ≡ true → not (is_plus (rise l p v)) ≡ true
not-above l p v h k =
    imp-out _ _ (imp-out _ _ (imp-out _ _ (all-out (below_1 (side l p) (rise l p v)) (all2-out (λ a b. all (below_1 a b)) refl (side l p) (rise l p v)) (side l v)) h) k) (side-sum l p v)

-- what is on the closed kept side is left of a point of the other side
pub is-above : (l : Line) (p v : Vector) → is_minus (side l p) ≡ true → not (is_minus (side l v)) ≡ true → is_plus (rise l p v) ≡ true
is-above l p v h k =
    imp-out _ _ (imp-out _ _ (imp-out _ _ (all-out (above_1 (side l p) (rise l p v)) (all2-out (λ a b. all (above_1 a b)) refl (side l p) (rise l p v)) (side l v)) h) k) (side-sum l p v)

-- ---- crossings of the ray along the line
pub record Flat (g : Sign → Sign → Sign → ℕ) : Type 0 where
  pub from : all4 (λ s r t c. imp (same_bool (is_plus s) (is_plus r)) λ _. eqb (g s t c) (g r t c)) ≡ true
  pub to : all4 (λ s t r c. imp (same_bool (is_plus t) (is_plus r)) λ _. eqb (g s t c) (g s r c)) ≡ true
  pub level : all2 (λ s t. all λ c. imp (same_bool (is_plus s) (is_plus t)) λ _. eqb (g s t c) 0) ≡ true

pub up_flat : Flat up_by
up_flat = record { from = refl; to = refl; level = refl }

pub down_flat : Flat down_by
down_flat = record { from = refl; to = refl; level = refl }

pub flat-from : (g : Sign → Sign → Sign → ℕ) → Flat g → (s r t c : Sign) → same_bool (is_plus s) (is_plus r) ≡ true → g s t c ≡ g r t c
flat-from g f s r t c h = eqb-true _ _ (imp-out _ _ (all4-out (λ s r t c. imp (same_bool (is_plus s) (is_plus r)) λ _. eqb (g s t c) (g r t c)) f.from s r t c) h)

pub flat-to : (g : Sign → Sign → Sign → ℕ) → Flat g → (s t r c : Sign) → same_bool (is_plus t) (is_plus r) ≡ true → g s t c ≡ g s r c
flat-to g f s t r c h = eqb-true _ _ (imp-out _ _ (all4-out (λ s t r c. imp (same_bool (is_plus t) (is_plus r)) λ _. eqb (g s t c) (g s r c)) f.to s t r c) h)

pub flat-level : (g : Sign → Sign → Sign → ℕ) → Flat g → (s t c : Sign) → same_bool (is_plus s) (is_plus t) ≡ true → g s t c ≡ 0
flat-level g f s t c h = eqb-true _ _ (imp-out _ _ (all-out (λ c. imp (same_bool (is_plus s) (is_plus t)) λ _. eqb (g s t c) 0) (all2-out (λ s t. all λ c. imp (same_bool (is_plus s) (is_plus t)) λ _. eqb (g s t c) 0) f.level s t) c) h)

pub both-false : (a b : Bool) → not a ≡ true → not b ≡ true → same_bool a b ≡ true
both-false false false h k = refl
both-false true b h k = absurd (cc h)
both-false false true h k = absurd (cc k)

pub both-true : (a b : Bool) → a ≡ true → b ≡ true → same_bool a b ≡ true
both-true true true h k = refl
both-true false b h k = absurd (cc h)
both-true true false h k = absurd (cc k)

-- ---- off an edge that lies on one side
abbrev level_2 : Sign → Sign → Sign → Sign → Sign → Bool
level_2 a c x y s =
    imp (agree (times Plus c) (times y a) (times x a)) λ _.
    imp (agree (times x y) (times a a) (times Plus s)) λ _.
    off_by c s

abbrev level_1 : Sign → Sign → Bool
level_1 a c = imp (not (is_null a)) λ _. all λ x. all2 (level_2 a c x)

pub off-level : (u a b : Vector) → IsNonZero u → (s : Sign) → not (is_null s) ≡ true → sign (cross u a) ≡ s → sign (cross u b) ≡ s → IsOff a b
off-level u a b d s n ha hb =
    let f = frame-agree u a b d in let g = frame-dot-agree u a b d in
    let c = imp-out _ _ (all2-out level_1 refl s (sign (cross a b))) n in
    let e = all2-out (level_2 s (sign (cross a b)) (sign (dot u a))) (all-out (λ x. all2 (level_2 s (sign (cross a b)) x)) c (sign (dot u a))) (sign (dot u b)) (sign (dot a b)) in
    imp-out _ _ (imp-out _ _ e (rw (ha, hb) at f)) (rw (ha, hb) at g)

-- ---- off a part as off its edge: a on the kept side, b on the other, z between them on the line. x, y, w: where they are along the line
abbrev cut_3 : Sign → Sign → Sign → Sign → Sign → Sign → Sign → Sign → Bool
cut_3 a b z c x y w sb =
    imp (agree (times x y) (times a b) (times Plus sb)) λ _. all λ sz.
    imp (agree (times x w) (times a z) (times Plus sz)) λ _.
    same_bool (off_by c sz) (off_by c sb)

abbrev cut_2 : Sign → Sign → Sign → Sign → Sign → Sign → Sign → Bool
cut_2 a b z c x y w =
    imp (agree (times Plus c) (times y a) (times x b)) λ _.
    imp (agree (times Plus c) (times w a) (times x z)) λ _.
    all (cut_3 a b z c x y w)

abbrev cut_1 : Sign → Sign → Sign → Sign → Bool
cut_1 p a b z =
    imp (not (is_minus p)) λ _.
    imp (agree p a Plus) λ _.
    imp (agree p b Minus) λ _.
    imp (agree p z Null) λ _.
    all4 (cut_2 a b z)

cut_computes : all4 cut_1 ≡ true
cut_computes = refl

off-cut : (l : Line) (p a b z : Vector) → IsNonZero l.along → not (is_minus (side l p)) ≡ true → side l a ≡ Plus → side l b ≡ Minus → side l z ≡ Null → IsMean a b z →
    off_by (sign (cross (from_to p a) (from_to p z))) (sign (dot (from_to p a) (from_to p z))) ≡ off_by (sign (cross (from_to p a) (from_to p b))) (sign (dot (from_to p a) (from_to p b)))
off-cut l p a b z d hp ha hb hz i =
    let u = l.along in let a' = from_to p a in let b' = from_to p b in let z' = from_to p z in
    let A = rise l p a in let B = rise l p b in let Z = rise l p z in let C = sign (cross a' b') in
    let e = mean-first a b z i p in
    let g0 = all4-out cut_1 cut_computes (side l p) A B Z in
    let s1 = subst (λ s. agree (side l p) A s ≡ true) ha (side-sum l p a) in
    let s2 = subst (λ s. agree (side l p) B s ≡ true) hb (side-sum l p b) in
    let s3 = subst (λ s. agree (side l p) Z s ≡ true) hz (side-sum l p z) in
    let g1 = all4-out (cut_2 A B Z) (imp-out _ _ (imp-out _ _ (imp-out _ _ (imp-out _ _ g0 hp) s1) s2) s3) C (sign (dot u a')) (sign (dot u b')) (sign (dot u z')) in
    let f1 = frame-agree u a' b' d in
    let f2 = subst (λ c. agree (times Plus c) (times (sign (dot u z')) A) (times (sign (dot u a')) Z) ≡ true) e (frame-agree u a' z' d) in
    let g2 = all-out (cut_3 A B Z C (sign (dot u a')) (sign (dot u b')) (sign (dot u z'))) (imp-out _ _ (imp-out _ _ g1 f1) f2) (sign (dot a' b')) in
    let g3 = all-out (λ sz. imp (agree (times (sign (dot u a')) (sign (dot u z'))) (times A Z) (times Plus sz)) λ _. same_bool (off_by C sz) (off_by C (sign (dot a' b')))) (imp-out _ _ g2 (frame-dot-agree u a' b' d)) (sign (dot a' z')) in
    ap (λ c. off_by c (sign (dot a' z'))) e ∙ same_bool-true _ _ (imp-out _ _ g3 (frame-dot-agree u a' z' d))

-- ---- the three kinds of part
pub record IsWholePart (l : Line) (e t : Edge) : Type 0 where
  pub from : t.from ≡ e.from
  pub to : t.to ≡ e.to
  pub from_kept : not (is_minus (side l e.from)) ≡ true
  pub to_kept : not (is_minus (side l e.to)) ≡ true
  pub some : has_part l e ≡ true

pub record IsCutFrom (l : Line) (e t : Edge) : Type 0 where
  pub to : t.to ≡ e.to
  pub beyond : side l e.from ≡ Minus
  pub kept : side l e.to ≡ Plus
  pub on : side l t.from ≡ Null
  pub mean : IsMean e.from e.to t.from

pub record IsCutTo (l : Line) (e t : Edge) : Type 0 where
  pub from : t.from ≡ e.from
  pub kept : side l e.from ≡ Plus
  pub beyond : side l e.to ≡ Minus
  pub on : side l t.to ≡ Null
  pub mean : IsMean e.from e.to t.to

whole-by : (l : Line) (e t : Edge) (a b : Sign) → side l e.from ≡ a → side l e.to ≡ b → not (is_minus a) ≡ true → not (is_minus b) ≡ true → (is_plus a || is_plus b) ≡ true → t.from ≡ e.from → t.to ≡ e.to → IsWholePart l e t
whole-by l e t a b ha hb na nb s hf ht = record {
  from = hf;
  to = ht;
  from_kept = ap (λ x. not (is_minus x)) ha ∙ na;
  to_kept = ap (λ x. not (is_minus x)) hb ∙ nb;
  some = ap (λ x. is_plus x || is_plus (side l e.to)) ha ∙ ap (λ x. is_plus a || is_plus x) hb ∙ s;
}

kinds-by : (l : Line) (e t : Edge) (a b : Sign) → side l e.from ≡ a → side l e.to ≡ b → IsPartEnd l e e.from t.from a → IsPartEnd l e e.to t.to b → (is_plus a || is_plus b) ≡ true →
    IsWholePart l e t ⊎ (IsCutFrom l e t ⊎ IsCutTo l e t)
kinds-by l e t Minus Minus ha hb pf pt s = absurd (cc s)
kinds-by l e t Minus Null ha hb pf pt s = absurd (cc s)
kinds-by l e t Null Minus ha hb pf pt s = absurd (cc s)
kinds-by l e t Null Null ha hb pf pt s = absurd (cc s)
kinds-by l e t Minus Plus ha hb pf pt s = inr (inl (record { to = pt; beyond = ha; kept = hb; on = pf.0; mean = meeting-is-mean-back l.along e.from e.to t.from l.level ha hb pf.0 pf.1 }))
kinds-by l e t Plus Minus ha hb pf pt s = inr (inr (record { from = pf; kept = ha; beyond = hb; on = pt.0; mean = meeting-is-mean l.along e.from e.to t.to l.level ha hb pt.0 pt.1 }))
kinds-by l e t Plus Null ha hb pf pt s = inl (whole-by l e t Plus Null ha hb refl refl refl pf pt)
kinds-by l e t Null Plus ha hb pf pt s = inl (whole-by l e t Null Plus ha hb refl refl refl pf pt)
kinds-by l e t Plus Plus ha hb pf pt s = inl (whole-by l e t Plus Plus ha hb refl refl refl pf pt)

pub kinds : (l : Line) (e t : Edge) → IsPart l e t → has_part l e ≡ true → IsWholePart l e t ⊎ (IsCutFrom l e t ⊎ IsCutTo l e t)
kinds l e t p s = kinds-by l e t (side l e.from) (side l e.to) refl refl p.from p.to s

-- ---- from a point of the closed kept side the ray along the line crosses a part as it crosses its edge
module _ (g : Sign → Sign → Sign → ℕ) (f : Flat g) (l : Line) (p : Vector) (hp : not (is_minus (side l p)) ≡ true) (e t : Edge) where
  abbrev seen : Vector → Vector
  seen = from_to p

  crossings-kind : IsWholePart l e t ⊎ (IsCutFrom l e t ⊎ IsCutTo l e t) → crossings_seen g l.along (from_to p) t ≡ crossings_seen g l.along (from_to p) e
  crossings-kind (inl w) =
      ap (λ v. g (sign (cross l.along (seen v))) (sign (cross l.along (seen t.to))) (sign (cross (seen v) (seen t.to)))) w.from
      ∙ ap (λ v. g (sign (cross l.along (seen e.from))) (sign (cross l.along (seen v))) (sign (cross (seen e.from) (seen v)))) w.to
  crossings-kind (inr (inl w)) =
      ap (λ v. g (rise l p t.from) (sign (cross l.along (seen v))) (sign (cross (seen t.from) (seen v)))) w.to
      ∙ flat-from g f (rise l p t.from) (rise l p e.from) (rise l p e.to) (sign (cross (seen t.from) (seen e.to)))
      (both-false _ _ (not-above l p t.from hp (null-not-plus _ w.on)) (not-above l p e.from hp (minus-not-plus _ w.beyond)))
      ∙ ap (g (rise l p e.from) (rise l p e.to)) (mean-second e.from e.to t.from w.mean p)
  crossings-kind (inr (inr w)) =
      ap (λ v. g (sign (cross l.along (seen v))) (rise l p t.to) (sign (cross (seen v) (seen t.to)))) w.from
      ∙ flat-to g f (rise l p e.from) (rise l p t.to) (rise l p e.to) (sign (cross (seen e.from) (seen t.to)))
      (both-false _ _ (not-above l p t.to hp (null-not-plus _ w.on)) (not-above l p e.to hp (minus-not-plus _ w.beyond)))
      ∙ ap (g (rise l p e.from) (rise l p e.to)) (mean-first e.from e.to t.to w.mean p)

  pub part-crossings : IsPart l e t → has_part l e ≡ true → crossings_seen g l.along (from_to p) t ≡ crossings_seen g l.along (from_to p) e
  part-crossings i s = crossings-kind (kinds l e t i s)

  pub no-part : has_part l e ≡ false → (not (is_plus (side l e.from)) ≡ true) × (not (is_plus (side l e.to)) ≡ true)
  no-part h = neither-plus (side l e.from) (side l e.to) h

  pub not-crossed : has_part l e ≡ false → crossings_seen g l.along (from_to p) e ≡ 0
  not-crossed h =
      let n = no-part h in
      flat-level g f (rise l p e.from) (rise l p e.to) (sign (cross (seen e.from) (seen e.to))) (both-false _ _ (not-above l p e.from hp n.0) (not-above l p e.to hp n.1))

-- ---- a point of the closed kept side is off a part as it is off its edge
module _ (l : Line) (d : IsNonZero l.along) (p : Vector) (hp : not (is_minus (side l p)) ≡ true) (e t : Edge) where
  off-kind : IsWholePart l e t ⊎ (IsCutFrom l e t ⊎ IsCutTo l e t) → is_off p t ≡ is_off p e
  off-kind (inl w) =
      ap (λ v. off_by (sign (cross (from_to p v) (from_to p t.to))) (sign (dot (from_to p v) (from_to p t.to)))) w.from
      ∙ ap (λ v. off_by (sign (cross (from_to p e.from) (from_to p v))) (sign (dot (from_to p e.from) (from_to p v)))) w.to
  off-kind (inr (inl w)) =
      ap (λ v. off_by (sign (cross (from_to p t.from) (from_to p v))) (sign (dot (from_to p t.from) (from_to p v)))) w.to
      ∙ sym (off-turned (from_to p t.from) (from_to p e.to))
      ∙ off-cut l p e.to e.from t.from d hp w.kept w.beyond w.on (mean-back e.from e.to t.from w.mean)
      ∙ off-turned (from_to p e.from) (from_to p e.to)
  off-kind (inr (inr w)) =
      ap (λ v. off_by (sign (cross (from_to p v) (from_to p t.to))) (sign (dot (from_to p v) (from_to p t.to)))) w.from
      ∙ off-cut l p e.from e.to t.to d hp w.kept w.beyond w.on w.mean

  pub part-off : IsPart l e t → has_part l e ≡ true → is_off p t ≡ is_off p e
  part-off i s = off-kind (kinds l e t i s)

-- ---- the ends of a part
pub part-ends : (l : Line) (e t : Edge) → IsWholePart l e t ⊎ (IsCutFrom l e t ⊎ IsCutTo l e t) → (not (is_minus (side l t.from)) ≡ true) × (not (is_minus (side l t.to)) ≡ true) × (has_part l t ≡ true)
part-ends l e t (inl w) = (
  ap (λ v. not (is_minus (side l v))) w.from ∙ w.from_kept,
  ap (λ v. not (is_minus (side l v))) w.to ∙ w.to_kept,
  ap (λ v. is_plus (side l v) || is_plus (side l t.to)) w.from ∙ ap (λ v. is_plus (side l e.from) || is_plus (side l v)) w.to ∙ w.some,
)
part-ends l e t (inr (inl w)) =
    let k = ap (side l) w.to ∙ w.kept in (
      ap (λ s. not (is_minus s)) w.on,
      ap (λ s. not (is_minus s)) k,
      ap (λ s. is_plus s || is_plus (side l t.to)) w.on ∙ ap is_plus k,
    )
part-ends l e t (inr (inr w)) =
    let k = ap (side l) w.from ∙ w.kept in (
      ap (λ s. not (is_minus s)) k,
      ap (λ s. not (is_minus s)) w.on,
      ap (λ s. is_plus s || is_plus (side l t.to)) k,
    )
