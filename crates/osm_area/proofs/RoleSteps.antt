-- One more edge or ring.
use Rattle.std.proofs.Common.{◌≡◌, ◌∙◌, ℕ, ◌+◌, ◌<◌, Bool, true, false, ◌||◌, List, [], ◌∷◌, ◌++◌, take, length, get_or, append-nil, refl, sym, ap}
use Rattle.std.specs.List.{list_any}
use Rattle.std.specs.Ordering.{is_eq}
use Rattle.std.proofs.lemmas.List.{take_more, map-append}
use Rattle.std.proofs.lemmas.List.Folds.{list_any-append}
use Rattle.std.proofs.lemmas.Grind.{flat_map-append}
use Rattle.osm_geom.specs.declared.edge.Carrier.{Carrier}
use Rattle.osm_geom.specs.declared.edge.Carrier.TheVariants.{OfSeg}
use Rattle.osm_geom.specs.declared.edge.Edge.{Edge}
use Rattle.osm_lattice.specs.declared.seg.Seg.{Seg}
use Rattle.osm_lattice.specs.Seg.{seg_cmp}
use Rattle.osm_nest.specs.declared.polygon.Polygon.{Polygon}
use Rattle.osm_area.specs.RoleKinds.{has_segment}
use Rattle.osm_area.specs.Roles.{carries, is_in_rings, inners, outers}

-- ---- segments of rings

or-false : (b : Bool) → (b || false) ≡ b
or-false true = refl
or-false false = refl

or-assoc : (a b c : Bool) → ((a || b) || c) ≡ (a || (b || c))
or-assoc true b c = refl
or-assoc false b c = refl

-- one more segment
pub one-segment : (segs : List Seg) (t s : Seg) (new : List Seg) (carrier : Carrier) → new ≡ segs ++ t ∷ [] → carrier ≡ OfSeg t → has_segment new s ≡ (has_segment segs s || carries s carrier)
one-segment segs t s new carrier made is =
    ap (λ xs. has_segment xs s) made
    ∙ (list_any-append (λ u. is_eq (seg_cmp u s)) segs (t ∷ [])
    ∙ (ap (λ b. has_segment segs s || b) (or-false (is_eq (seg_cmp t s)))
    ∙ ap (λ k. has_segment segs s || carries s k) (sym is)))

-- one more element of a list, as it was lent
pub any_step : {X : Type 0} (p : X → Bool) (xs lent : List X) (i : ℕ) (x : X) (initial old new : Bool) → lent ≡ xs → i < length lent → x ≡ get_or lent i x → old ≡ (initial || list_any p (take i xs)) → new ≡ (old || p x)
    → new ≡ (initial || list_any p (take (i + 1) xs))
any_step p xs lent i x initial old new same h is inv after =
    let taken : take (i + 1) lent ≡ take i lent ++ x ∷ [] = take_more lent i x h ∙ ap (λ y. take i lent ++ y ∷ []) (sym is) in
    after
    ∙ (ap (λ b. b || p x) inv
    ∙ (or-assoc initial (list_any p (take i xs)) (p x)
    ∙ (ap (λ ys. initial || (list_any p (take i ys) || p x)) (sym same)
    ∙ (ap (λ b. initial || (list_any p (take i lent) || b)) (sym (or-false (p x)))
    ∙ (ap (λ b. initial || b) (sym (list_any-append p (take i lent) (x ∷ [])))
    ∙ (ap (λ ys. initial || list_any p ys) (sym taken)
    ∙ ap (λ ys. initial || list_any p (take (i + 1) ys)) same))))))

pub outer_step : (polygons : List Polygon) (i : ℕ) (p : Polygon) (s : Seg) (old new : Bool) → i < length polygons → p ≡ get_or polygons i p → old ≡ is_in_rings (outers (take i polygons)) s
    → new ≡ (old || list_any (λ (e : Edge). carries s e.carrier) p.outer) → new ≡ is_in_rings (outers (take (i + 1) polygons)) s
outer_step polygons i p s old new h is inv after =
    let test : List Edge → Bool = list_any (λ (e : Edge). carries s e.carrier) in
    let taken : take (i + 1) polygons ≡ take i polygons ++ p ∷ [] = take_more polygons i p h ∙ ap (λ y. take i polygons ++ y ∷ []) (sym is) in
    after
    ∙ (ap (λ b. b || test p.outer) inv
    ∙ (ap (λ b. list_any test (outers (take i polygons)) || b) (sym (or-false (test p.outer)))
    ∙ (sym (list_any-append test (outers (take i polygons)) (p.outer ∷ []))
    ∙ (ap (list_any test) (sym (map-append (λ (p : Polygon). p.outer) (take i polygons) (p ∷ [])))
    ∙ ap (λ ps. is_in_rings (outers ps) s) (sym taken)))))

pub inner_step : (polygons : List Polygon) (i : ℕ) (p : Polygon) (s : Seg) (old new : Bool) → i < length polygons → p ≡ get_or polygons i p → old ≡ is_in_rings (inners (take i polygons)) s
    → new ≡ (old || is_in_rings p.inners s) → new ≡ is_in_rings (inners (take (i + 1) polygons)) s
inner_step polygons i p s old new h is inv after =
    let test : List Edge → Bool = list_any (λ (e : Edge). carries s e.carrier) in
    let taken : take (i + 1) polygons ≡ take i polygons ++ p ∷ [] = take_more polygons i p h ∙ ap (λ y. take i polygons ++ y ∷ []) (sym is) in
    after
    ∙ (ap (λ b. b || list_any test p.inners) inv
    ∙ (sym (list_any-append test (inners (take i polygons)) p.inners)
    ∙ (ap (λ rs. list_any test (inners (take i polygons) ++ rs)) (sym (append-nil p.inners))
    ∙ (ap (list_any test) (sym (flat_map-append (λ (p : Polygon). p.inners) (take i polygons) (p ∷ [])))
    ∙ ap (λ ps. is_in_rings (inners ps) s) (sym taken)))))

-- ---- polygons gone through

pub outers_any : (polygons : List Polygon) (s : Seg) → list_any (λ (p : Polygon). list_any (λ (e : Edge). carries s e.carrier) p.outer) polygons ≡ is_in_rings (outers polygons) s
outers_any [] s = refl
outers_any (p ∷ ps) s = ap (λ b. list_any (λ (e : Edge). carries s e.carrier) p.outer || b) (outers_any ps s)

pub inners_any : (polygons : List Polygon) (s : Seg) → list_any (λ (p : Polygon). is_in_rings p.inners s) polygons ≡ is_in_rings (inners polygons) s
inners_any [] s = refl
inners_any (p ∷ ps) s =
    ap (λ b. is_in_rings p.inners s || b) (inners_any ps s)
    ∙ sym (list_any-append (list_any (λ (e : Edge). carries s e.carrier)) p.inners (inners ps))
