-- Lines, parts and edges on the line, multiplied by a positive number.
use Rattle.std.proofs.Common.{Bool, List, [], ap, arith, cond, false, map, refl, subst, sym, true, ◌||◌, ◌∙◌, ◌∷◌, ◌≡◌}
use Rattle.std.specs.List.{filter}
use lib.IntN.{ℤ, ◌*ℤ◌, ◌-ℤ◌}
use Rattle.plane.specs.Edge.{Edge}
use Rattle.plane.specs.Scale.{scaled_edge, scaled_point}
use Rattle.plane.specs.Sign.{Minus, Null, Plus, Sign, is_plus, sign}
use Rattle.plane.specs.Vector.{Vector, cross}
use Rattle.plane_lists.specs.Lists.ScaledEdges.{scaled_edges}
use Rattle.plane_lists.specs.Halves.Half.{Cutting, IsCut, IsPart, IsPartEnd, parts, wholes}
use Rattle.plane_lists.specs.Halves.Line.{Line, has_part, scaled_line, side}
use Rattle.plane.proofs.SignKit.{lift, same, ◌⊟◌, ◌⊠◌, plus-times}
use Rattle.plane.proofs.PlaneKit.{cross2, lift2, orient-scaled}
use Rattle.lists.proofs.ListsKit.{in-map-out, map-map}
use Rattle.plane_lists.proofs.Halves.Counts.{AreOn}

abbrev pub scaled_cutting : ℤ → Cutting → Cutting
scaled_cutting k c = record { whole = scaled_edge k c.whole; part = scaled_edge k c.part }

module _ (k : ℤ) (hk : sign k ≡ Plus) (l : Line) where
  abbrev m : Line
  m = scaled_line k l

  side-is : (v : Vector) → cross l.along (scaled_point k v) -ℤ k *ℤ l.level ≡ k *ℤ (cross l.along v -ℤ l.level)
  side-is v =
      let k' = lift k in let u' = lift2 l.along in let v' = lift2 v in let c' = lift l.level in
      same ((u'.x2 ⊠ (k' ⊠ v'.y2) ⊟ u'.y2 ⊠ (k' ⊠ v'.x2)) ⊟ k' ⊠ c') (k' ⊠ (cross2 u' v' ⊟ c')) (omega arith)

  pub side-scaled : (v : Vector) → side m (scaled_point k v) ≡ side l v
  side-scaled v = ap sign (side-is v) ∙ plus-times k (cross l.along v -ℤ l.level) hk

  pub has_part-scaled : (e : Edge) → has_part m (scaled_edge k e) ≡ has_part l e
  has_part-scaled e = ap (λ s. is_plus s || is_plus (side m (scaled_point k e.to))) (side-scaled e.from) ∙ ap (λ s. is_plus (side l e.from) || is_plus s) (side-scaled e.to)

  end-scaled : (e : Edge) (v w : Vector) (s : Sign) → IsPartEnd l e v w s → IsPartEnd m (scaled_edge k e) (scaled_point k v) (scaled_point k w) s
  end-scaled e v w Minus h = (side-scaled w ∙ h.0, orient-scaled k hk e.from e.to w ∙ h.1)
  end-scaled e v w Null h = ap (scaled_point k) h
  end-scaled e v w Plus h = ap (scaled_point k) h

  pub part-scaled : (e t : Edge) → IsPart l e t → IsPart m (scaled_edge k e) (scaled_edge k t)
  part-scaled e t p = record {
    from = subst (IsPartEnd m (scaled_edge k e) (scaled_point k e.from) (scaled_point k t.from)) (sym (side-scaled e.from)) (end-scaled e e.from t.from (side l e.from) p.from);
    to = subst (IsPartEnd m (scaled_edge k e) (scaled_point k e.to) (scaled_point k t.to)) (sym (side-scaled e.to)) (end-scaled e e.to t.to (side l e.to) p.to);
  }

  abbrev pub scaled_cuttings : List Cutting → List Cutting
  scaled_cuttings cs = map (scaled_cutting k) cs

  pub wholes-scaled : (cs : List Cutting) → wholes (scaled_cuttings cs) ≡ scaled_edges k (wholes cs)
  wholes-scaled cs = map-map (λ (c : Cutting). c.whole) (scaled_cutting k) cs ∙ sym (map-map (scaled_edge k) (λ (c : Cutting). c.whole) cs)

  parts-step : (b d : Bool) (c : Cutting) (xs ys : List Cutting) → b ≡ d → map (λ (c : Cutting). c.part) xs ≡ scaled_edges k (map (λ (c : Cutting). c.part) ys) →
      map (λ (c : Cutting). c.part) (cond b (scaled_cutting k c ∷ xs) xs) ≡ scaled_edges k (map (λ (c : Cutting). c.part) (cond d (c ∷ ys) ys))
  parts-step true true c xs ys h e = ap (λ l. scaled_edge k c.part ∷ l) e
  parts-step false false c xs ys h e = e
  parts-step true false c xs ys h e = absurd (cc h)
  parts-step false true c xs ys h e = absurd (cc h)

  pub parts-scaled : (cs : List Cutting) → parts m (scaled_cuttings cs) ≡ scaled_edges k (parts l cs)
  parts-scaled [] = refl
  parts-scaled (c ∷ cs) =
      parts-step (has_part m (scaled_edge k c.whole)) (has_part l c.whole) c (filter (λ (c : Cutting). has_part m c.whole) (scaled_cuttings cs)) (filter (λ (c : Cutting). has_part l c.whole) cs) (has_part-scaled c.whole) (parts-scaled cs)

  pub cut-scaled : (cs : List Cutting) → IsCut l cs → IsCut m (scaled_cuttings cs)
  cut-scaled cs cut = λ c i h.
      let r = in-map-out (scaled_cutting k) cs c i in
      let h' : has_part l r.0.whole ≡ true = sym (has_part-scaled r.0.whole) ∙ subst (λ x. has_part m x.whole ≡ true) r.2 h in
      subst (λ (x : Cutting). IsPart m x.whole x.part) (sym r.2) (part-scaled r.0.whole r.0.part (cut r.0 r.1 h'))

  pub on-scaled : (es : List Edge) → AreOn l es → AreOn m (scaled_edges k es)
  on-scaled es on = λ e i.
      let r = in-map-out (scaled_edge k) es e i in
      subst (λ (x : Edge). (side m x.from ≡ Null) × (side m x.to ≡ Null)) (sym r.2) (side-scaled r.0.from ∙ (on r.0 r.1).0, side-scaled r.0.to ∙ (on r.0 r.1).1)
