-- What is found: the hits of each candidate, all of them, that there are some, and that they are one.
use Rattle.std.proofs.Common.{Bool, true, false, cond, get_or, length, take, ℕ, ◌+◌, ◌<◌, List, [], ◌∷◌, ◌++◌, map, ◌%◌, ◌==◌, ◌≡◌, ◌∙◌, ◌⊎◌, ⊎_elim, refl, sym, ap, subst, inl, inr, nat_lt}
use Rattle.std.specs.List.{flat_map}
use Rattle.std.proofs.lemmas.List.{flat_map_more}
use Rattle.lists.proofs.ListsKit.{map-same, taken_more}
use Rattle.osm_lattice.specs.declared.loc.Loc.{Loc}
use Rattle.osm_lattice.specs.declared.seg.Seg.{Seg}
use Rattle.osm_lattice.specs.Seg.{edge_of}
use Rattle.plane_lists.specs.Lists.EdgeList.{IsEvenAtPoints}
use Rattle.osm_elements.specs.declared.object.Object.{Object}
use Rattle.osm_elements.specs.declared.object.ObjectRef.{ObjectRef}
use Rattle.osm_objects.specs.Candidates.{candidates}
use Rattle.osm_objects.specs.declared.problem.Problem.{Problem}
use Rattle.osm_segments.specs.Counts.{AreSurvivors}
use Rattle.osm_area.specs.Outcome.{HasAreaExactly, OutcomeExists, problems_in}
use Rattle.osm_area.specs.Segments.{candidate_segments}
use Rattle.osm_area.specs.Sound.{IsSound}
use Rattle.osm_area.specs.declared.outcome.Outcome.{Outcome}
use Rattle.osm_area.proofs.SoundAreas.{survivors-one}
use Rattle.area_locate.specs.declared.found.Found.{Found}
use Rattle.area_locate.specs.declared.found.Hit.{Hit}
use Rattle.area_locate.specs.Areas.{Area, AreAreas, HaveFurther, HaveHits, IsAreaIn, all_hits, found_as, hits_by, hits_of}
use Rattle.area_locate.specs.Envelopes.{lacks}
use Rattle.area_locate.specs.Hits.{AreFoundAmong, AreHits, IsHit, IsIn, IsOn}
use Rattle.area_locate.specs.Laws.{FoundExists, FoundIsOne}
use Rattle.osm_sides.specs.PointPlaces.{on_count, place_among, place_by_parity}
use Rattle.osm_sides.specs.SideTests.{left_count}
use Rattle.osm_sides.proofs.SidesKit.{even_points}
use Rattle.area_locate.proofs.OutsideSides.{outside_apart}
use Rattle.area_locate.proofs.Places.{apart_place, in_where, off_where, on_where, out_where}

module _ (objects : List Object) (p : Loc) where
  -- ---- one candidate
  unsound : (c : ObjectRef) → (IsSound objects c → ⊥) → (on : Bool) → IsHit objects c p on → ⊥
  unsound c none true hit = none hit.0
  unsound c none false hit = none hit.0

  module _ (c : ObjectRef) (sound : IsSound objects c) (survivors : List Seg) (are : AreSurvivors (candidate_segments objects c) survivors) where
    same_survivors : (others : List Seg) → AreSurvivors (candidate_segments objects c) others → others ≡ survivors
    same_survivors others too = survivors-one (candidate_segments objects c) others survivors too are

    neither : nat_lt 0 (on_count p survivors) ≡ false → (left_count p survivors % 2 == 1) ≡ false → (on : Bool) → IsHit objects c p on → ⊥
    neither off even true hit = off_where p survivors off (subst (IsOn p) (same_survivors hit.1.0 hit.1.1.0) hit.1.1.1)
    neither off even false hit = out_where p survivors even (subst (IsIn p) (same_survivors hit.1.0 hit.1.1.0) hit.1.1.1)

    -- the place among the survivors tells the hit
    told : (cs : List ObjectRef) (hits : List Hit) → AreHits objects p cs hits → AreHits objects p (c ∷ cs) (hits_by c (place_among p survivors) ++ hits)
    told cs hits rest = by (nat_lt 0 (on_count p survivors)) (left_count p survivors % 2 == 1) refl refl
      where
        by : (on odd : Bool) → nat_lt 0 (on_count p survivors) ≡ on → (left_count p survivors % 2 == 1) ≡ odd → AreHits objects p (c ∷ cs) (hits_by c (place_by_parity on odd) ++ hits)
        by true odd h k = inl (true, (sound, (survivors, (are, on_where p survivors h))), hits, rest, refl)
        by false true h k = inl (false, (sound, (survivors, (are, in_where p survivors h k))), hits, rest, refl)
        by false false h k = inr (neither h k, rest)

  -- ---- one area: what is outside of its envelope is apart from it
  hits_case : (c : ObjectRef) (area : Area) (is : IsAreaIn objects c area) (b : Bool) → lacks area.envelope p ≡ b → cond b [] (hits_by area.of (place_among p area.sides)) ≡ hits_by c (place_among p area.sides)
  hits_case c area is true out =
      let one : is.sound.survivors ≡ area.sides = survivors-one (candidate_segments objects c) is.sound.survivors area.sides is.sound.survive is.survive in
      let even = subst (λ (ss : List Seg). IsEvenAtPoints (map edge_of ss)) one (even_points is.sound.survivors is.sound.even) in
      ap (hits_by c) (sym (apart_place p area.sides (outside_apart p area.envelope area.sides is.within even out)))
  hits_case c area is false inside = ap (λ o. hits_by o (place_among p area.sides)) is.of

  -- ---- all areas
  hits_all : (cs : List ObjectRef) (areas : List Area) → AreAreas objects cs areas → AreHits objects p cs (flat_map (hits_of p) areas)
  hits_all [] areas are = ap (flat_map (hits_of p)) are
  hits_all (c ∷ cs) areas (inl one) =
      let area = one.0 in let is = one.1 in
      let first : hits_of p area ≡ hits_by c (place_among p area.sides) = hits_case c area is (lacks area.envelope p) refl in
      subst (AreHits objects p (c ∷ cs)) (ap (λ (hits : List Hit). hits ++ flat_map (hits_of p) one.2) (sym first) ∙ ap (flat_map (hits_of p)) (sym one.4))
      (told c is.sound area.sides is.survive cs (flat_map (hits_of p) one.2) (hits_all cs one.2 one.3))
  hits_all (c ∷ cs) areas (inr none) = inr (unsound c none.0, hits_all cs areas none.1)

  -- ---- there are hits
  module _ (exists : OutcomeExists) (exactly : HasAreaExactly) where
    is_sound : (c : ObjectRef) → IsSound objects c ⊎ (IsSound objects c → ⊥)
    is_sound c = by (problems_in o) refl
      where
        o : Outcome
        o = (exists objects c).0

        by : (problems : List Problem) → problems_in o ≡ problems → IsSound objects c ⊎ (IsSound objects c → ⊥)
        by [] e = inl ((exactly objects c o (exists objects c).1).0 e)
        by (x ∷ problems) e = inr (λ sound. let none = (exactly objects c o (exists objects c).1).1 sound in cc (sym e ∙ none))

    hits_exist : (cs : List ObjectRef) → (hits : List Hit) × AreHits objects p cs hits
    hits_exist [] = ([], refl)
    hits_exist (c ∷ cs) =
        let rest = hits_exist cs in
        ⊎_elim
        (λ (sound : IsSound objects c). (hits_by c (place_among p sound.survivors) ++ rest.0, told c sound sound.survivors sound.survive cs rest.0 rest.1))
        (λ none. (rest.0, inr (unsound c none, rest.1)))
        (is_sound c)

  -- ---- they are one
  one_way : (c : ObjectRef) (a b : Bool) → IsHit objects c p a → IsHit objects c p b → a ≡ b
  one_way c true true h k = refl
  one_way c false false h k = refl
  one_way c true false h k = absurd (k.1.1.1.0 (subst (IsOn p) (survivors-one (candidate_segments objects c) h.1.0 k.1.0 h.1.1.0 k.1.1.0) h.1.1.1))
  one_way c false true h k = absurd (h.1.1.1.0 (subst (IsOn p) (survivors-one (candidate_segments objects c) k.1.0 h.1.0 k.1.1.0 h.1.1.0) k.1.1.1))

  hits_one : (cs : List ObjectRef) (a b : List Hit) → AreHits objects p cs a → AreHits objects p cs b → a ≡ b
  hits_one [] a b h k = h ∙ sym k
  hits_one (c ∷ cs) a b (inl h) (inl k) =
      let way = one_way c h.0 k.0 h.1 k.1 in
      let rest = hits_one cs h.2 k.2 h.3 k.3 in
      h.4 ∙ ap (λ (on : Bool). record { of = c; on = on } ∷ h.2) way ∙ ap (λ (hits : List Hit). record { of = c; on = k.0 } ∷ hits) rest ∙ sym k.4
  hits_one (c ∷ cs) a b (inl h) (inr k) = absurd (k.0 h.0 h.1)
  hits_one (c ∷ cs) a b (inr h) (inl k) = absurd (h.0 k.0 k.1)
  hits_one (c ∷ cs) a b (inr h) (inr k) = hits_one cs a b h.1 k.1

-- ---- all points
module _ (objects : List Object) (cs : List ObjectRef) where
  pub all_found : (areas : List Area) → AreAreas objects cs areas → (points : List Loc) → AreFoundAmong objects cs points (map (found_as (all_hits areas)) points)
  all_found areas are [] = refl
  all_found areas are (p ∷ points) = (flat_map (hits_of p) areas, hits_all objects p cs areas are, map (found_as (all_hits areas)) points, all_found areas are points, refl)

  some_found : OutcomeExists → HasAreaExactly → (points : List Loc) → (found : List Found) × AreFoundAmong objects cs points found
  some_found exists exactly [] = ([], refl)
  some_found exists exactly (p ∷ points) =
      let hits = hits_exist objects p exists exactly cs in
      let rest = some_found exists exactly points in
      (record { at = p; hits = hits.0 } ∷ rest.0, (hits.0, hits.1, rest.0, rest.1, refl))

  one_found : (points : List Loc) (a b : List Found) → AreFoundAmong objects cs points a → AreFoundAmong objects cs points b → a ≡ b
  one_found [] a b h k = h ∙ sym k
  one_found (p ∷ points) a b h k =
      let hits = hits_one objects p cs h.0 k.0 h.1 k.1 in
      let rest = one_found points h.2 k.2 h.3 k.3 in
      h.4 ∙ ap (λ (hits : List Hit). record { at = p; hits = hits } ∷ h.2) hits ∙ ap (λ (found : List Found). record { at = p; hits = k.0 } ∷ found) rest ∙ sym k.4

pub found_is_one : FoundIsOne
found_is_one choice objects points a b h k = one_found objects (candidates choice objects) points a b h k

pub found_exists : OutcomeExists → HasAreaExactly → FoundExists
found_exists exists exactly choice objects points = some_found objects (candidates choice objects) exists exactly points

-- ---- one more candidate
pub with_area : (objects : List Object) (cs : List ObjectRef) (areas : List Area) (c : ObjectRef) (area : Area) → AreAreas objects cs areas → IsAreaIn objects c area → AreAreas objects (cs ++ c ∷ []) (areas ++ area ∷ [])
with_area objects [] areas c area are is = inl (area, is, [], refl, ap (λ (xs : List Area). xs ++ area ∷ []) are)
with_area objects (d ∷ cs) areas c area (inl one) is =
    inl (one.0, one.1, one.2 ++ area ∷ [], with_area objects cs one.2 c area one.3 is, ap (λ (xs : List Area). xs ++ area ∷ []) one.4)
with_area objects (d ∷ cs) areas c area (inr none) is = inr (none.0, with_area objects cs areas c area none.1 is)

pub without_area : (objects : List Object) (cs : List ObjectRef) (areas : List Area) (c : ObjectRef) → AreAreas objects cs areas → (IsSound objects c → ⊥) → AreAreas objects (cs ++ c ∷ []) areas
without_area objects [] areas c are lacking = inr (lacking, are)
without_area objects (d ∷ cs) areas c (inl one) lacking = inl (one.0, one.1, one.2, without_area objects cs one.2 c one.3 lacking, one.4)
without_area objects (d ∷ cs) areas c (inr none) lacking = inr (none.0, without_area objects cs areas c none.1 lacking)

pub next_area : (objects : List Object) (cs : List ObjectRef) (areas : List Area) (k : ℕ) (c : ObjectRef) → k < length cs → c ≡ get_or cs k c → AreAreas objects (take k cs) areas → (area : Area) → IsAreaIn objects c area → AreAreas objects (take (k + 1) cs) (areas ++ area ∷ [])
next_area objects cs areas k c l at are area is = subst (λ (xs : List ObjectRef). AreAreas objects xs (areas ++ area ∷ [])) (sym (taken_more cs k c l at)) (with_area objects (take k cs) areas c area are is)

pub next_none : (objects : List Object) (cs : List ObjectRef) (areas : List Area) (k : ℕ) (c : ObjectRef) → k < length cs → c ≡ get_or cs k c → AreAreas objects (take k cs) areas → (IsSound objects c → ⊥) → AreAreas objects (take (k + 1) cs) areas
next_none objects cs areas k c l at are none = subst (λ (xs : List ObjectRef). AreAreas objects xs areas) (sym (taken_more cs k c l at)) (without_area objects (take k cs) areas c are none)

pub next_hits : (objects : List Object) (cs : List ObjectRef) (points : List Loc) (k : ℕ) (c : ObjectRef) (old new : List (List Hit)) → k < length cs → c ≡ get_or cs k c → HaveHits objects (take k cs) points old →
    ((IsSound objects c → ⊥) × (new ≡ old)) ⊎ ((area : Area) × IsAreaIn objects c area × HaveFurther (λ p. hits_of p area) points old new) → HaveHits objects (take (k + 1) cs) points new
next_hits objects cs points k c old new l at had (inl none) = (had.0, next_none objects cs had.0 k c l at had.1 none.0, none.1 ∙ had.2)
next_hits objects cs points k c old new l at had (inr one) = (
  had.0 ++ one.0 ∷ [],
  next_area objects cs had.0 k c l at had.1 one.0 one.1,
  one.2 (all_hits had.0) had.2 ∙ map-same (λ p. all_hits had.0 p ++ hits_of p one.0) (all_hits (had.0 ++ one.0 ∷ [])) points (λ p. flat_map_more (hits_of p) [] had.0 one.0),
)
