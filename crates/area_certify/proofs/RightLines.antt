-- What the first candidates say of the first lines of a text, and one candidate more.
use Rattle.std.proofs.Common.{◌≡◌, ◌∙◌, refl, sym, ap, subst, ℕ, zero, suc, ◌+◌, List, [], ◌∷◌, ◌++◌, inl, inr, ⊎_elim, length, Some, slice_get, append_assoc, append-nil, length-append, arith, Option}
use Rattle.std.proofs.lemmas.Bool.{cases_lt}
use Rattle.std.proofs.lemmas.Option.{same_Some}
use Rattle.osm_elements.specs.declared.object.Object.{Object}
use Rattle.osm_elements.specs.declared.object.ObjectRef.{ObjectRef}
use Rattle.osm_objects.specs.Objects.{object_at}
use Rattle.osm_text.specs.Feature.{id_before, tags_text}
use Rattle.osm_text.specs.Paths.{paths_of}
use Rattle.osm_text.specs.Wkt.{multipolygon_wkt}
use Rattle.osm_area.specs.Sound.{IsSound}
use Rattle.osm_objects.specs.declared.area.UniqueId.{UniqueId}
use Rattle.area_certify.specs.Areas.{AreThoseWithAreas}
use Rattle.area_certify.specs.FirstWrong.{AreRight, EndsInNewline, IsFeature, IsRightLine}
use Rattle.osm_text.specs.Id.{feature_id}
use Rattle.osm_area.specs.Feature.{feature_tags}
use Rattle.area_certify.proofs.ChosenItems.{those_append}

-- ---- places

get_front : {X : Type 0} (xs ys : List X) (k : ℕ) (x : X) → slice_get xs k ≡ Some x → slice_get (xs ++ ys) k ≡ Some x
get_front [] ys k x is = absurd (cc)
get_front (y ∷ xs) ys zero x is = is
get_front (y ∷ xs) ys (suc k) x is = get_front xs ys k x is

pub get_middle : {X : Type 0} (xs ys : List X) (y : X) (k : ℕ) → length xs ≡ k → slice_get (xs ++ y ∷ ys) k ≡ Some y
get_middle [] ys y zero is = refl
get_middle [] ys y (suc k) is = absurd (omega arith)
get_middle (x ∷ xs) ys y zero is = absurd (omega arith)
get_middle (x ∷ xs) ys y (suc k) is = get_middle xs ys y k (omega arith)

module _ (ids : Option UniqueId) (objects : List Object) where
  -- ---- right lines

  more_areas : (areas later : List ObjectRef) (k : ℕ) (line : List ℕ) → IsRightLine ids objects areas k line → IsRightLine ids objects (areas ++ later) k line
  more_areas areas later k line right =
      record { candidate = right.candidate; place = get_front areas later k right.candidate right.place; ended = right.ended; feature = right.feature }

  pub right_in_more : (areas later : List ObjectRef) (lines : List (List ℕ)) (count : ℕ) → AreRight ids objects areas lines count →
      AreRight ids objects (areas ++ later) lines count
  right_in_more areas later lines count right k line lt got = more_areas areas later k line (right k line lt got)

  pub ends_in_newline : (counter : ℕ) (c : ObjectRef) (line : List ℕ) → IsFeature ids objects counter c line → EndsInNewline line
  ends_in_newline counter c line is =
      (id_before (feature_id ids counter c) ++ multipolygon_wkt (paths_of is.polygons) ++ tags_text (feature_tags (object_at objects c)), is.whole)

  -- the feature of the candidate at its place
  is_right : (areas later : List ObjectRef) (c : ObjectRef) (k : ℕ) (line : List ℕ) → length areas ≡ k → IsFeature ids objects (k + 1) c line →
      IsRightLine ids objects (areas ++ c ∷ later) k line
  is_right areas later c k line counted feature = record {
    candidate = c;
    place = get_middle areas later c k counted;
    ended = ends_in_newline
        (k + 1) c line feature;
    feature = feature;
  }

  pub its_feature : (areas later : List ObjectRef) (c : ObjectRef) (k : ℕ) (line : List ℕ) → length areas ≡ k →
      IsRightLine ids objects (areas ++ c ∷ later) k line → IsFeature ids objects (k + 1) c line
  its_feature areas later c k line counted right =
      let same : right.candidate ≡ c = same_Some right.candidate c (sym right.place ∙ get_middle areas later c k counted) in
      subst (λ (d : ObjectRef). IsFeature ids objects (k + 1) d line) same right.feature

  -- ---- the first lines

  -- So many lines of a text are the features of these candidates, those with an area, and the others are left.
  pub record IsSeen (first : List ObjectRef) (lines rest : List (List ℕ)) (count : ℕ) : Type 0 where
    pub areas : List ObjectRef
    pub those : AreThoseWithAreas objects first areas
    pub as_many : length areas ≡ count
    pub seen : List (List ℕ)
    pub parted : lines ≡ seen ++ rest
    pub counted : length seen ≡ count
    pub right : AreRight ids objects areas lines count

  pub none_seen : (lines : List (List ℕ)) → IsSeen [] lines lines 0
  none_seen lines = record { areas = []; those = refl; as_many = refl; seen = []; parted = refl; counted = refl; right = λ k line lt got. absurd (omega arith) }

  module _ (first : List ObjectRef) (c : ObjectRef) (lines rest : List (List ℕ)) (count : ℕ) where
    pub no_area_seen : IsSeen first lines rest count → (IsSound objects c → ⊥) → IsSeen (first ++ c ∷ []) lines rest count
    no_area_seen s none = record {
      areas = s.areas;
      those = subst (λ (areas : List ObjectRef). AreThoseWithAreas objects (first ++ c ∷ []) areas) (append-nil s.areas) (those_append (IsSound objects) first
          (c ∷ []) s.areas [] s.those (inr (none, refl)));
      as_many = s.as_many;
      seen = s.seen;
      parted = s.parted;
      counted = s.counted;
      right = s.right;
    }

    pub area_seen : (line : List ℕ) → IsSeen first lines (line ∷ rest) count → IsSound objects c → IsFeature ids objects (count + 1) c line →
        IsSeen (first ++ c ∷ []) lines rest (count + 1)
    area_seen line s sound feature = record {
      areas = s.areas ++ c ∷ [];
      those = those_append (IsSound objects) first (c ∷ []) s.areas (c ∷ []) s.those (inl (sound, [], refl, refl));
      as_many = let one = length-append s.areas (c ∷ []) in let many = s.as_many in omega arith;
      seen = s.seen ++ line ∷ [];
      parted = s.parted ∙ sym (append_assoc s.seen (line ∷ []) rest);
      counted = let one = length-append s.seen (line ∷ []) in let many = s.counted in omega arith;
      right = λ k other lt got.
          ⊎_elim (λ below. more_areas s.areas (c ∷ []) k other (s.right k other below got))
          (λ above. let here : k ≡ count = omega arith in
          let at : slice_get lines k ≡ Some line = ap (λ ls. slice_get ls k) s.parted ∙ get_middle s.seen rest line k (s.counted ∙ sym here) in
          let same : line ≡ other = same_Some line other (sym at ∙ got) in
          subst (λ l. IsRightLine ids objects (s.areas ++ c ∷ []) k l) same
          (subst (λ n. IsRightLine ids objects (s.areas ++ c ∷ []) n line) (sym here) (is_right s.areas [] c count line s.as_many feature)))
          (cases_lt k count);
    }
