-- The hits of one area more: those at the places of the points that lie in its rectangle.
use Rattle.std.proofs.Common.{AllPairs, Bool, Contains, List, [], ap, arith, cond, false, get_or, length, map, nat_eq, refl, set, subst, suc, sym, take, true, ℕ, ⊎_elim, ◌++◌, ◌+◌, ◌<◌, ◌∙◌, ◌∷◌, ◌≡◌, ◌≢◌}
use Rattle.std.proofs.lemmas.List.{append-nil, append_assoc, get_or-map, get_or-set_other, get_or-set_same, get_or_default, length-map, length-set, length-take-le, same_lists, take_more}
use Rattle.std.proofs.lemmas.List.Elements.{All-contains}
use Rattle.std.proofs.lemmas.List.Kept.{AllPairs-from_increasing}
use Rattle.lists.proofs.ListsKit.{clash, first_member, later_member, map-map, member_cases, no_member, some_member}
use Rattle.osm_lattice.specs.declared.loc.Loc.{Loc}
use Rattle.osm_sides.specs.declared.places.Place.{Place}
use Rattle.osm_sides.specs.PointPlaces.{place_among}
use Rattle.osm_elements.specs.declared.object.ObjectRef.{ObjectRef}
use Rattle.area_locate.specs.declared.found.Hit.{Hit}
use Rattle.area_locate.specs.Areas.{Area, HaveFurther, hits_by, hits_of}
use Rattle.area_locate.specs.Envelopes.{lacks}
use Rattle.area_locate.specs.Within.{AreAllWithin, IsPlaceWithin, hits_at}
use Rattle.area_locate.proofs.WithinPoints.{place_within}

eq_true : (i j : ℕ) → nat_eq i j ≡ true → i ≡ j
eq_true i j h = grind arith

eq_false : (i j : ℕ) → nat_eq i j ≡ false → j ≢ i
eq_false i j h e = grind arith

module _ (of : ObjectRef) where
  -- ---- place by place
  hits_push : (j : ℕ) (near : List ℕ) (places : List Place) (i : ℕ) (place : Place) → length near ≡ length places →
      hits_at of j (near ++ i ∷ []) (places ++ place ∷ []) ≡ hits_at of j near places ++ cond (nat_eq i j) (hits_by of place) []
  hits_push j [] [] i place e = append-nil (cond (nat_eq i j) (hits_by of place) [])
  hits_push j [] (q ∷ places) i place e = absurd (omega (arith, e))
  hits_push j (m ∷ near) [] i place e = absurd (omega (arith, e))
  hits_push j (m ∷ near) (q ∷ places) i place e =
      let first = cond (nat_eq m j) (hits_by of q) [] in
      ap (λ (hits : List Hit). first ++ hits) (hits_push j near places i place (omega (arith, e)))
      ∙ sym (append_assoc first (hits_at of j near places) (cond (nat_eq i j) (hits_by of place) []))

  module _ (old now : List (List Hit)) (near : List ℕ) (places : List Place) (k : ℕ) (new d : List Hit) (e : Place)
      (long : length now ≡ length old) (added : (j : ℕ) → j < length old → get_or now j [] ≡ get_or old j [] ++ hits_at of j (take k near) (take k places))
      (l : k < length near) (all : length places ≡ length near) (inside : get_or near k 0 < length now) (grown : new ≡ get_or now (get_or near k 0) d ++ hits_by of (get_or places k e)) where
    more : (j : ℕ) → hits_at of j (take (k + 1) near) (take (k + 1) places) ≡ hits_at of j (take k near) (take k places) ++ cond (nat_eq (get_or near k 0) j) (hits_by of (get_or places k e)) []
    more j =
        ap (λ (is : List ℕ). hits_at of j is (take (k + 1) places)) (take_more near k 0 l)
        ∙ ap (λ (ps : List Place). hits_at of j (take k near ++ get_or near k 0 ∷ []) ps) (take_more places k e (omega (arith, l, all)))
        ∙ hits_push j (take k near) (take k places) (get_or near k 0) (get_or places k e) (length-take-le k near (omega (arith, l)) ∙ sym (length-take-le k places (omega (arith, l, all))))

    pub one_more_place_added : (length (set now (get_or near k 0) new) ≡ length old)
        × ((j : ℕ) → j < length old → get_or (set now (get_or near k 0) new) j [] ≡ get_or old j [] ++ hits_at of j (take (k + 1) near) (take (k + 1) places))
    one_more_place_added = (length-set now (get_or near k 0) new ∙ long, λ j h. by j h (nat_eq (get_or near k 0) j) refl ∙ ap (λ (hits : List Hit). get_or old j [] ++ hits) (sym (more j)))
      where
        by : (j : ℕ) → j < length old → (b : Bool) → nat_eq (get_or near k 0) j ≡ b → get_or (set now (get_or near k 0) new) j []
            ≡ get_or old j [] ++ (hits_at of j (take k near) (take k places) ++ cond b (hits_by of (get_or places k e)) [])
        by j h true same =
            let there = eq_true (get_or near k 0) j same in
            ap (λ n. get_or (set now (get_or near k 0) new) n []) (sym there) ∙ get_or-set_same now (get_or near k 0) new [] inside ∙ grown
            ∙ ap (λ (hits : List Hit). hits ++ hits_by of (get_or places k e)) (get_or_default now (get_or near k 0) d [] inside ∙ ap (λ n. get_or now n []) there ∙ added j h)
            ∙ append_assoc (get_or old j []) (hits_at of j (take k near) (take k places)) (hits_by of (get_or places k e))
        by j h false other =
            get_or-set_other now (get_or near k 0) j new [] (eq_false (get_or near k 0) j other) ∙ added j h
            ∙ ap (λ (hits : List Hit). get_or old j [] ++ hits) (sym (append-nil (hits_at of j (take k near) (take k places))))

  -- ---- all places
  hits_out : (j : ℕ) (near : List ℕ) (places : List Place) → (Contains near j → ⊥) → hits_at of j near places ≡ []
  hits_out j [] places none = refl
  hits_out j (i ∷ near) [] none = refl
  hits_out j (i ∷ near) (place ∷ places) none = by (nat_eq i j) refl (hits_out j near places (λ some. none (later_member i j near some)))
    where
      by : (b : Bool) → nat_eq i j ≡ b → hits_at of j near places ≡ [] → cond b (hits_by of place) [] ++ hits_at of j near places ≡ []
      by true e rest = absurd (none (subst (Contains (i ∷ near)) (eq_true i j e) (first_member i near)))
      by false e rest = rest

  hits_in : (j : ℕ) (near : List ℕ) (g : ℕ → Place) → AllPairs (λ a b. a < b) near → Contains near j → hits_at of j near (map g near) ≡ hits_by of (g j)
  hits_in j [] g up some = absurd (no_member j some)
  hits_in j (i ∷ near) g up some = by (nat_eq i j) refl (hits_in j near g (λ a b d h l. up (suc a) (suc b) d (omega arith) (omega arith)))
    where
      by : (b : Bool) → nat_eq i j ≡ b → (Contains near j → hits_at of j near (map g near) ≡ hits_by of (g j)) → cond b (hits_by of (g i)) [] ++ hits_at of j near (map g near) ≡ hits_by of (g j)
      by true e rest =
          let same = eq_true i j e in
          let none : Contains near j → ⊥ = λ later. let above = up 0 (suc later.0) j (omega arith) (omega (arith, later.1)) in let at = later.2 in omega (arith, above, at, same) in
          ap (λ (hits : List Hit). hits_by of (g i) ++ hits) (hits_out j near (map g near) none) ∙ append-nil (hits_by of (g i)) ∙ ap (λ n. hits_by of (g n)) same
      by false e rest = rest (⊎_elim (λ (same : i ≡ j). absurd (eq_false i j e (sym same))) (λ (later : Contains near j). later) (member_cases i j near some))

-- ---- all points
module _ (area : Area) (points : List Loc) (near : List ℕ) (within : AreAllWithin area.envelope points near) (places : List Place) (there : List Loc)
    (at : (d : Loc) → there ≡ map (λ i. get_or points i d) near) (lie : places ≡ map (λ p. place_among p area.sides) there) where
  abbrev place_at : Loc → ℕ → Place
  place_at d i = place_among (get_or points i d) area.sides

  hits_there : (j : ℕ) (d : Loc) → j < length points → hits_at area.of j near places ≡ hits_of (get_or points j d) area
  hits_there j d h = ap (hits_at area.of j near) (lie ∙ ap (map (λ p. place_among p area.sides)) (at d) ∙ map-map (λ p. place_among p area.sides) (λ i. get_or points i d) near) ∙ by (lacks area.envelope (get_or points j d)) refl
    where
      by : (b : Bool) → lacks area.envelope (get_or points j d) ≡ b → hits_at area.of j near (map (place_at d) near) ≡ cond b [] (hits_by area.of (place_among (get_or points j d) area.sides))
      by true out = hits_out area.of j near (map (place_at d) near) (λ some. absurd (let inside = (All-contains (IsPlaceWithin area.envelope points) near j within.right some).within d in clash (lacks area.envelope (get_or points j d)) out inside))
      by false inside = hits_in area.of j near (place_at d) (AllPairs-from_increasing near within.rising) (within.whole j (place_within area.envelope points j d h inside))

  pub have_further : (old new : List (List Hit)) → length new ≡ length old → ((j : ℕ) → j < length old → get_or new j [] ≡ get_or old j [] ++ hits_at area.of j near places) → HaveFurther (λ p. hits_of p area) points old new
  have_further old new long added f was =
      let g : Loc → List Hit = λ p. f p ++ hits_of p area in
      let many : length old ≡ length points = ap length was ∙ length-map points f in
      same_lists new (map g points) (long ∙ many ∙ sym (length-map points g)) (λ k d h.
      let l : k < length points = omega (arith, h, long, many) in
      let e = (some_member points (omega (arith, l))).0 in
      get_or_default new k d [] h ∙ added k (omega (arith, h, long)) ∙ ap (λ (hits : List Hit). hits ++ hits_at area.of k near places) (ap (λ (hs : List (List Hit)). get_or hs k []) was ∙ get_or-map f points k e [] l)
      ∙ ap (λ (hits : List Hit). f (get_or points k e) ++ hits) (hits_there k e l) ∙ sym (get_or-map g points k e d l))
