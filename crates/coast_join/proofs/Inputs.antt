-- One more coastline way.
use Rattle.std.proofs.Common.{◌⊎◌, inl, inr, ⊎_elim, Bool, true, false, if◌then◌else◌, nat_le, refl, subst, ◌≡◌, ℕ, ℤ, pos, ◌+◌, ◌<◌, List, [], ◌∷◌, ◌++◌, length, take, map, get_or, sym, ap, ◌∙◌}
use Rattle.std.specs.List.{AllByRecursion, IsDistinct, flat_map}
use Rattle.std.specs.Ordering.{int_eq}
use Rattle.std.proofs.lemmas.Map.Keys.{IsDistinct-cons, IsDistinct-head, IsDistinct-tail}
use Rattle.coast_join.specs.declared.way.CoastWay.{CoastWay}
use Rattle.lists.proofs.ListsKit.{map-map}
use Rattle.std.proofs.lemmas.List.{flat_map_more, take_more}
use Rattle.osm_elements.specs.declared.object.Object.{Object}
use Rattle.coast_join.specs.Chains.{WayPath, way_path_of}
use Rattle.coast_join.specs.Input.{is_empty, line_along, missing_node_ids, refs_of, way_paths_in}

pub flat_more : {A : Type 0} (f : ℤ → List A) (ways : List ℤ) (i : ℕ) (z : ℤ) (now new : List A) → i < length ways → z ≡ get_or ways i (pos 0) → now ≡ flat_map f (take i ways) → new ≡ now ++ f z → new ≡ flat_map f (take (i + 1) ways)
flat_more {A} f ways i z now new h e was is =
    let more : take (i + 1) ways ≡ take i ways ++ z ∷ [] = take_more ways i (pos 0) h ∙ ap (λ (w : ℤ). take i ways ++ w ∷ []) (sym e) in
    is ∙ (ap (λ (xs : List A). xs ++ f z) was ∙ (flat_map_more f [] (take i ways) z ∙ ap (flat_map f) (sym more)))

-- ---- the ids of the ways that take part differ

module _ (objects : List Object) where
  abbrev line_ids : List ℤ → List ℤ
  line_ids ways = map (λ (l : WayPath). l.id) (flat_map (way_paths_in objects) ways)

  -- a way's line, if it has one, has its id
  one_line : (way : ℤ) (rest : List WayPath) → (map (λ (l : WayPath). l.id) (way_paths_in objects way ++ rest) ≡ map (λ (l : WayPath). l.id) rest) ⊎ (map (λ (l : WayPath). l.id) (way_paths_in objects way ++ rest) ≡ way ∷ map (λ (l : WayPath). l.id) rest)
  one_line way rest = by (is_empty (missing_node_ids objects (refs_of objects way))) (nat_le 2 (length (line_along objects (refs_of objects way))))
    where
      lines : Bool → Bool → List WayPath
      lines a b = if a then (if b then record { id = way; path = line_along objects (refs_of objects way) } ∷ [] else []) else []

      by : (a b : Bool) → (map (λ (l : WayPath). l.id) ((if a then (if b then record { id = way; path = line_along objects (refs_of objects way) } ∷ [] else []) else []) ++ rest) ≡ map (λ (l : WayPath). l.id) rest) ⊎ (map (λ (l : WayPath). l.id) ((if a then (if b then record { id = way; path = line_along objects (refs_of objects way) } ∷ [] else []) else []) ++ rest) ≡ way ∷ map (λ (l : WayPath). l.id) rest)
      by false b = inl refl
      by true false = inl refl
      by true true = inr refl

  kept_apart : (x : ℤ) (ways : List ℤ) → AllByRecursion (λ y. int_eq x y ≡ false) ways → AllByRecursion (λ y. int_eq x y ≡ false) (line_ids ways)
  kept_apart x [] h = h
  kept_apart x (w ∷ ways) h =
      let P : List ℤ → Type 0 = AllByRecursion (λ y. int_eq x y ≡ false) in
      let rest = kept_apart x ways h.1 in
      ⊎_elim (λ e. subst P (sym e) rest) (λ e. subst P (sym e) (h.0, rest)) (one_line w (flat_map (way_paths_in objects) ways))

  pub lines_apart : (ways : List ℤ) → IsDistinct int_eq ways → IsDistinct int_eq (line_ids ways)
  lines_apart [] h = h
  lines_apart (w ∷ ways) h =
      let rest = lines_apart ways (IsDistinct-tail int_eq w ways h) in
      ⊎_elim (λ e. subst (IsDistinct int_eq) (sym e) rest) (λ e. subst (IsDistinct int_eq) (sym e) (IsDistinct-cons int_eq w (line_ids ways) (kept_apart w ways (IsDistinct-head int_eq w ways h)) rest)) (one_line w (flat_map (way_paths_in objects) ways))

  pub ways_apart : (ways : List CoastWay) (ids : List ℤ) → map way_path_of ways ≡ flat_map (way_paths_in objects) ids → IsDistinct int_eq ids → IsDistinct int_eq (map (λ (w : CoastWay). w.id) ways)
  ways_apart ways ids e h = subst (IsDistinct int_eq) (sym (ap (map (λ (l : WayPath). l.id)) e) ∙ map-map (λ (l : WayPath). l.id) way_path_of ways) (lines_apart ids h)
