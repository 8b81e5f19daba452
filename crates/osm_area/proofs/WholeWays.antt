-- Ways of which nothing is missing.
use Rattle.std.proofs.Common.{◌≡◌, ◌≢◌, ◌∙◌, ℕ, ◌+◌, ◌-◌, ◌<◌, List, [], ◌∷◌, ◌++◌, length, get_or, map, take, ℤ, Option, None, Some, append-nil, refl, sym, ap, arith}
use Rattle.std.specs.List.{filter_map, flat_map, cons_option}
use Rattle.std.specs.Option.{option_map_or}
use Rattle.std.proofs.lemmas.Grind.{flat_map-append}
use Rattle.std.proofs.lemmas.List.{length-append, map-append, nil_from_length, take_more}
use Rattle.std.proofs.lemmas.List.Folds.{length-flat_map-take}
use Rattle.osm_elements.specs.declared.object.Object.{Object}
use Rattle.osm_objects.specs.Objects.{WayParts, place_of, way_of}
use Rattle.osm_lattice.specs.declared.loc.Loc.{Loc}
use Rattle.osm_lattice.specs.declared.seg.Seg.{Seg}
use Rattle.osm_lattice.specs.Seg.{segment_between}
use Rattle.osm_area.specs.Segments.{segments_along, way_segments}
use Rattle.osm_area.specs.SegmentSteps.{step_from}

-- ---- the nodes of a way

-- the segments along a path, from the location before on, if there is one
abbrev pub segments_from : Option Loc → List Loc → List Seg
segments_from None path = segments_along path
segments_from (Some before) path = segments_along (before ∷ path)

-- one more location
pub one-step : (before : Option Loc) (at : Loc) (path : List Loc) → step_from before at ++ segments_from (Some at) path ≡ segments_from before (at ∷ path)
one-step None at path = refl
one-step (Some p) at path = by (segment_between p at)
  where
    by : (o : Option Seg) → cons_option o [] ++ segments_along (at ∷ path) ≡ cons_option o (segments_along (at ∷ path))
    by None = refl
    by (Some s) = refl

pub no-more : (before : Option Loc) → segments_from before [] ≡ []
no-more None = refl
no-more (Some p) = refl

pub segments_of_parts : (objects : List Object) (way : ℤ) (parts : WayParts) → way_of objects way ≡ Some parts
    → segments_along (filter_map (place_of objects) parts.refs) ≡ way_segments objects way
unfolding way_segments
segments_of_parts objects way parts e = ap (λ found. segments_along (option_map_or (λ (w : WayParts). filter_map (place_of objects) w.refs) found [])) (sym e)

-- ---- one more way

module _ {X Y : Type 0} (f : X → List Y) (xs : List X) (i : ℕ) (d x : X) (h : i < length xs) (e : x ≡ get_or xs i d) where
  pub pushed : (ys zs : List Y) → ys ≡ flat_map f (take i xs) → zs ≡ ys ++ f x → zs ≡ flat_map f (take (i + 1) xs)
  pushed ys zs inv more =
      more
      ∙ ((λ j. inv j ++ f (e j))
      ∙ (ap (λ last. flat_map f (take i xs) ++ last) (sym (append-nil (f (get_or xs i d))))
      ∙ (sym (flat_map-append f (take i xs) (get_or xs i d ∷ [])) ∙ ap (flat_map f) (sym (take_more xs i d h)))))

  -- where this list isn't empty, all together are not
  pub some_of : f x ≢ [] → flat_map f xs ≢ []
  some_of some none =
      let most = length-flat_map-take f xs i d h in
      let no : length (flat_map f xs) ≡ 0 = ap length none in
      some (ap f e ∙ nil_from_length (f (get_or xs i d)) (omega (arith, most, no)))

  -- one more count
  pub counted : (before after : List Y) (n : ℕ) (ks ls : List ℕ) → after ≡ before ++ f x → n ≡ length after - length before → ks ≡ map (λ (y : X). length (f y)) (take i xs) → ls ≡ ks ++ n ∷ [] → ls ≡ map (λ (y : X). length (f y)) (take (i + 1) xs)
  counted before after n ks ls more count inv pushed =
      let all = ap length more in
      let both = length-append before (f x) in
      let n_is : n ≡ length (f (get_or xs i d)) = (let m : n ≡ length (f x) = omega (arith, count, all, both) in m ∙ ap (λ y. length (f y)) e) in
      pushed
      ∙ ((λ j. inv j ++ n_is j ∷ [])
      ∙ (sym (map-append (λ (y : X). length (f y)) (take i xs) (get_or xs i d ∷ []))
      ∙ ap (map (λ (y : X). length (f y))) (sym (take_more xs i d h))))
