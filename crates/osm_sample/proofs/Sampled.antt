-- Each object of the sample can be written, as a short line, and they stand by rising kinds and ids.
use Rattle.std.proofs.Common.{◌≡◌, ◌∙◌, refl, sym, ap, subst, ℕ, zero, suc, ◌+◌, ◌*◌, ◌<◌, ◌≤◌, ◌/◌, ◌%◌, ◌-ℤ◌, arith, true, ℤ, pos, neg_ℤ, List, [], ◌∷◌, ◌++◌, length, map, All}
use Rattle.std.specs.Prelude.{codes, nat_eq, nat_lt}
use Rattle.std.specs.List.{flat_map, list_all}
use Rattle.std.specs.Str.{IsUtf8, chars}
use Rattle.std.specs.Fmt.{signed_decimal}
use Rattle.std.proofs.lemmas.Bool.{and_parts, leb-true, ltb-true, true≢false}
use Rattle.std.proofs.lemmas.Str.{IsUtf8-from_ascii}
use Rattle.std.proofs.lemmas.Str.Ascii.{IsAscii-from_all}
use Rattle.std.proofs.lemmas.List.{length-append, length-map}
use Rattle.std.proofs.lemmas.List.Elements.{All-append, All-cons, All-map, All-nil, All-weaker}
use Rattle.osm_elements.specs.declared.object.Member.{Member}
use Rattle.osm_elements.specs.declared.object.Object.{Object}
use Rattle.osm_elements.specs.declared.object.Ref.{Ref}
use Rattle.osm_elements.specs.declared.object.Tag.{Tag}
use Rattle.osm_notation.specs.Written.{written}
use Rattle.opl_writer.specs.Writable.{AreTags, IsMemberInRange, IsRefInRange, IsTagOfTexts, IsWritable}
use Rattle.opl_writer.specs.Written.{member_text, members_field, object_line, place_fields, ref_text, refs_field, tags_field}
use Rattle.osm_sample.specs.Input.{sample_objects}
use Rattle.osm_sample.specs.Numbers.{numbers}
use Rattle.osm_sample.specs.Objects.{cell_nodes, cell_relation, cell_ways, cells_end, closed_refs, closed_way, coast_node_objects, coast_way, corner_node, forest, lower_left, lower_right, multipolygon, node_at, place_at, ref_to, square_nodes, tag_of, upper_node, way_member}
use Rattle.osm_sample.proofs.Counted.{all-of_flat_map, all-of_map, length-of_flat_map, length-of_map}
use Rattle.osm_sample.proofs.Rising.{RisesIn, rises-of_flat_map, rises-of_map, rises_both, rises_from}
use Rattle.osm_sample.proofs.Short.{short_field, short_id, short_place}

-- each line of the sample has fewer bytes
abbrev pub most_bytes : ℕ
most_bytes = 500_000

pub record IsFine (o : Object) : Type 0 where
  pub writable : IsWritable o
  pub short : length (object_line o) < most_bytes

-- ---- tags

abbrev AreShort : List Tag → Type 0
AreShort tags = AreTags tags × (length (tags_field tags) ≤ 100)

all_low : (bs : List ℕ) → list_all (λ b. nat_lt b 128) bs ≡ true → All (λ b. b < 128) bs
all_low [] e = All-nil (λ b. b < 128)
all_low (b ∷ bs) e =
    let parts = and_parts (nat_lt b 128) (list_all (λ c. nat_lt c 128) bs) e in All-cons (λ c. c < 128) b bs (ltb-true b 128 parts.0) (all_low bs parts.1)

-- a text of ASCII
is_text : (bs : List ℕ) → list_all (λ b. nat_lt b 128) bs ≡ true → IsUtf8 bs
is_text bs e = IsUtf8-from_ascii bs (IsAscii-from_all bs (all_low bs e))

no_tags : AreShort []
no_tags = ((All-nil IsTagOfTexts, tt), omega arith)

abbrev coast_tags : List Tag
coast_tags = tag_of (codes "natural") (codes "coastline") ∷ []

tags_of_coast : AreShort coast_tags
unfolding written chars
tags_of_coast = (
  (
    All-cons IsTagOfTexts (tag_of (codes "natural") (codes "coastline")) [] ((is_text (codes "natural") refl), (is_text (codes "coastline") refl)) (All-nil IsTagOfTexts),
    (tt, tt),
  ),
  leb-true (length (tags_field coast_tags)) 100 refl,
)

abbrev use_tags : List ℕ → List Tag
use_tags landuse = tag_of (codes "type") (codes "multipolygon") ∷ tag_of (codes "landuse") landuse ∷ []

tags_of_use : (landuse : List ℕ) → IsUtf8 landuse → length (tags_field (use_tags landuse)) ≤ 100 → AreShort (use_tags landuse)
tags_of_use landuse text short = (
  (
    All-cons IsTagOfTexts (tag_of (codes "type") (codes "multipolygon")) (tag_of (codes "landuse") landuse ∷ []) ((is_text (codes "type") refl), (is_text (codes "multipolygon") refl))
        (All-cons IsTagOfTexts (tag_of (codes "landuse") landuse) [] ((is_text (codes "landuse") refl), text) (All-nil IsTagOfTexts)),
    ((other_key, tt), (tt, tt)),
  ),
  short,
)
  where
    other_key : codes "landuse" ≡ codes "type" → ⊥
    other_key same = true≢false (ap (λ (xs : List ℕ). nat_eq (length xs) 7) same)

tags_of_grass : AreShort (use_tags (codes "grass"))
unfolding written chars
tags_of_grass = tags_of_use (codes "grass") (is_text (codes "grass") refl) (leb-true (length (tags_field (use_tags (codes "grass")))) 100 refl)

tags_of_forest : AreShort (use_tags (codes "forest"))
unfolding written chars
tags_of_forest = tags_of_use (codes "forest") (is_text (codes "forest") refl) (leb-true (length (tags_field (use_tags (codes "forest")))) 100 refl)

-- ---- nodes

node_is_fine : (id : ℕ) (x y : ℤ) → id < 1_000_000 → IsFine (node_at id x y)
node_is_fine id x y small = record {
  writable = (refl, (omega arith, no_tags.0));
  short =
      let number = short_id id small in
      let place = short_place (place_at x y) in
      let last = length-append (codes "n" ++ signed_decimal (pos id) ++ []) (place_fields (place_at x y)) in
      let first = length-append (codes "n" ++ signed_decimal (pos id)) [] in
      omega arith;
}

square_is_fine : (n k first low high : ℕ) → first < 900_000 → All IsFine (square_nodes n k first low high)
square_is_fine n k first low high small =
    let corner = λ (id right up : ℕ) (l : id < 1_000_000). node_is_fine id (pos (10_000 * (k % n) + right)) (pos (10_000 * (k / n) + up)) l in
    All-cons IsFine (corner_node n k first low low) (corner_node n k (first + 1) high low ∷ corner_node n k (first + 2) high high ∷ corner_node n k (first + 3) low high ∷ []) (corner first low low (omega arith))
    (All-cons IsFine (corner_node n k (first + 1) high low) (corner_node n k (first + 2) high high ∷ corner_node n k (first + 3) low high ∷ []) (corner (first + 1) high low (omega arith))
    (All-cons IsFine (corner_node n k (first + 2) high high) (corner_node n k (first + 3) low high ∷ []) (corner (first + 2) high high (omega arith))
    (All-cons IsFine (corner_node n k (first + 3) low high) [] (corner (first + 3) low high (omega arith)) (All-nil IsFine))))

cell_nodes_are_fine : (n k : ℕ) → k < 10_000 → All IsFine (cell_nodes n k)
cell_nodes_are_fine n k small =
    All-append IsFine (square_nodes n k (8 * k + 1) 0 8_000) (square_nodes n k (8 * k + 5) 2_000 6_000) (square_is_fine n k (8 * k + 1) 0 8_000 (omega arith)) (square_is_fine n k (8 * k + 5) 2_000 6_000 (omega arith))

-- ---- ways

ref_is_short : (id : ℕ) → id < 1_000_000 → length (ref_text (ref_to id)) ≤ 7
ref_is_short id small =
    let number = short_id id small in
    let last = length-append (codes "n" ++ signed_decimal (pos id)) [] in
    omega arith

module _ (first count : ℕ) (small : first + count ≤ 500_000) where
  each_ref : (P : Ref → Type 0) → ((id : ℕ) → id < 1_000_000 → P (ref_to id)) → All P (closed_refs first count)
  each_ref P each =
      All-append P (map (λ i. ref_to (first + i)) (numbers count)) (ref_to first ∷ []) (all-of_map P (λ i. ref_to (first + i)) count (λ i low. each (first + i) (omega arith)))
      (All-cons P (ref_to first) [] (each first (omega arith)) (All-nil P))

  refs_counted : length (closed_refs first count) ≡ count + 1
  refs_counted =
      length-append (map (λ i. ref_to (first + i)) (numbers count)) (ref_to first ∷ []) ∙ ap (λ (m : ℕ). m + 1) (length-of_map (λ i. ref_to (first + i)) count)

  way_is_fine : (id : ℕ) (tags : List Tag) → id < 1_000_000 → count ≤ 1_000 → AreShort tags → IsFine (closed_way id tags first count)
  way_is_fine id tags low few short = record {
    writable = (refl, (omega arith, short.0, each_ref IsRefInRange (λ i l. omega arith)));
    short =
        let refs = closed_refs first count in
        let field = short_field (codes "N") 7 (map ref_text refs) (All-map (λ (item : List ℕ). length item ≤ 7) ref_text refs (each_ref (λ (r : Ref). length (ref_text r) ≤ 7) ref_is_short)) in
        let many = length-map refs ref_text in
        let counted = refs_counted in
        let tag_bytes = short.1 in
        let number = short_id id low in
        let last = length-append (codes "w" ++ signed_decimal (pos id) ++ tags_field tags) (refs_field refs) in
        let first = length-append (codes "w" ++ signed_decimal (pos id)) (tags_field tags) in
        omega arith;
  }

cell_ways_are_fine : (k : ℕ) → k < 10_000 → All IsFine (cell_ways k)
cell_ways_are_fine k small =
    All-cons IsFine (closed_way (2 * k + 1) [] (8 * k + 1) 4) (closed_way (2 * k + 2) [] (8 * k + 5) 4 ∷ []) (way_is_fine (8 * k + 1) 4 (omega arith) (2 * k + 1) [] (omega arith) (omega arith) no_tags)
    (All-cons IsFine (closed_way (2 * k + 2) [] (8 * k + 5) 4) [] (way_is_fine (8 * k + 5) 4 (omega arith) (2 * k + 2) [] (omega arith) (omega arith) no_tags) (All-nil IsFine))

-- ---- relations

-- a member that can be written, in few bytes
record IsFineMember (m : Member) : Type 0 where
  in_range : IsMemberInRange m
  short : length (member_text m) ≤ 20

member_is_fine : (id : ℕ) (role : List ℕ) → id < 1_000_000 → IsUtf8 role → length (written role) ≤ 5 → IsFineMember (way_member id role)
member_is_fine id role small text short = record {
  in_range = (omega arith, text);
  short =
      let number = short_id id small in
      let last = length-append (codes "w" ++ signed_decimal (pos id) ++ codes "@") (written role) in
      let first = length-append (codes "w" ++ signed_decimal (pos id)) (codes "@") in
      omega arith;
}

outer_is_fine : (id : ℕ) → id < 1_000_000 → IsFineMember (way_member id (codes "outer"))
unfolding written chars
outer_is_fine id small = member_is_fine id (codes "outer") small (is_text (codes "outer") refl) (leb-true (length (written (codes "outer"))) 5 refl)

inner_is_fine : (id : ℕ) → id < 1_000_000 → IsFineMember (way_member id (codes "inner"))
unfolding written chars
inner_is_fine id small = member_is_fine id (codes "inner") small (is_text (codes "inner") refl) (leb-true (length (written (codes "inner"))) 5 refl)

empty_is_fine : (id : ℕ) → id < 1_000_000 → IsFineMember (way_member id [])
unfolding written chars
empty_is_fine id small = member_is_fine id [] small (is_text [] refl) (leb-true (length (written [])) 5 refl)

relation_is_fine : (id : ℕ) (landuse : List ℕ) (members : List Member) → id < 1_000_000 → AreShort (use_tags landuse) → All IsFineMember members → length members ≤ 20_000 → IsFine (multipolygon id landuse members)
relation_is_fine id landuse members low short fine few = record {
  writable = (refl, (omega arith, short.0, All-weaker IsFineMember IsMemberInRange (λ m f. f.in_range) members fine));
  short =
      let field = short_field (codes "M") 20 (map member_text members) (All-map (λ (item : List ℕ). length item ≤ 20) member_text members (All-weaker IsFineMember (λ (m : Member). length (member_text m) ≤ 20) (λ m f. f.short) members fine)) in
      let many = length-map members member_text in
      let tag_bytes = short.1 in
      let number = short_id id low in
      let last = length-append (codes "r" ++ signed_decimal (pos id) ++ tags_field (use_tags landuse)) (members_field members) in
      let first = length-append (codes "r" ++ signed_decimal (pos id)) (tags_field (use_tags landuse)) in
      omega arith;
}

cell_relation_is_fine : (k : ℕ) → k < 10_000 → IsFine (cell_relation k)
cell_relation_is_fine k small =
    relation_is_fine (k + 1) (codes "grass") (way_member (2 * k + 1) (codes "outer") ∷ way_member (2 * k + 2) (codes "inner") ∷ []) (omega arith) tags_of_grass
    (All-cons IsFineMember (way_member (2 * k + 1) (codes "outer")) (way_member (2 * k + 2) (codes "inner") ∷ []) (outer_is_fine (2 * k + 1) (omega arith))
    (All-cons IsFineMember (way_member (2 * k + 2) (codes "inner")) [] (inner_is_fine (2 * k + 2) (omega arith)) (All-nil IsFineMember)))
    (omega arith)

-- ---- all of them

module _ (n : ℕ) (few : n ≤ 100) (square : n * n ≤ 10_000) where
  coast_nodes_are_fine : All IsFine (coast_node_objects n)
  coast_nodes_are_fine =
      All-cons IsFine (lower_left n) (lower_right n ∷ map (upper_node n) (numbers (2 * n + 5))) (node_is_fine (cells_end n + 1) (neg_ℤ (pos 10_000)) (neg_ℤ (pos 10_000)) (omega arith))
      (All-cons IsFine (lower_right n) (map (upper_node n) (numbers (2 * n + 5))) (node_is_fine (cells_end n + 2) (pos (10_000 * n + 10_000)) (neg_ℤ (pos 10_000)) (omega arith))
      (all-of_map IsFine (upper_node n) (2 * n + 5)
      (λ s low. node_is_fine (cells_end n + 3 + s) (pos (10_000 * n + 10_000) -ℤ pos (5_000 * s)) (pos (10_000 * n + 10_000 + 5_000 * (s % 2))) (omega arith))))

  coast_way_is_fine : IsFine (coast_way n)
  coast_way_is_fine = way_is_fine (cells_end n + 1) (2 * n + 7) (omega arith) (2 * (n * n) + 1) coast_tags (omega arith) (omega arith) tags_of_coast

  forest_is_fine : IsFine (forest n)
  forest_is_fine =
      relation_is_fine (n * n + 1) (codes "forest") (map (λ i. way_member (i + 1) []) (numbers (2 * (n * n)))) (omega arith) tags_of_forest
      (all-of_map IsFineMember (λ i. way_member (i + 1) []) (2 * (n * n)) (λ i low. empty_is_fine (i + 1) (omega arith)))
      (let many = length-of_map (λ i. way_member (i + 1) []) (2 * (n * n)) in omega arith)

  abbrev nodes : List Object
  nodes = flat_map (cell_nodes n) (numbers (n * n))

  abbrev ways : List Object
  ways = flat_map cell_ways (numbers (n * n))

  abbrev relations : List Object
  relations = map cell_relation (numbers (n * n))

  pub all_are_fine : All IsFine (sample_objects n)
  all_are_fine =
      All-append IsFine (nodes ++ coast_node_objects n ++ ways ++ coast_way n ∷ [] ++ relations) (forest n ∷ [])
      (All-append IsFine (nodes ++ coast_node_objects n ++ ways ++ coast_way n ∷ []) relations
      (All-append IsFine (nodes ++ coast_node_objects n ++ ways) (coast_way n ∷ [])
      (All-append IsFine (nodes ++ coast_node_objects n) ways
      (All-append IsFine nodes (coast_node_objects n) (all-of_flat_map IsFine (cell_nodes n) (n * n) (λ k low. cell_nodes_are_fine n k (omega arith))) coast_nodes_are_fine)
      (all-of_flat_map IsFine cell_ways (n * n) (λ k low. cell_ways_are_fine k (omega arith))))
      (All-cons IsFine (coast_way n) [] coast_way_is_fine (All-nil IsFine)))
      (all-of_map IsFine cell_relation (n * n) (λ k low. cell_relation_is_fine k (omega arith))))
      (All-cons IsFine (forest n) [] forest_is_fine (All-nil IsFine))

  -- ---- how many there are

  pub objects_are_few : length (sample_objects n) ≤ 120_000
  objects_are_few =
      let a = length-of_flat_map (cell_nodes n) 8 (n * n) (λ k. omega arith) in
      let b = length-of_map (upper_node n) (2 * n + 5) in
      let c = length-of_flat_map cell_ways 2 (n * n) (λ k. omega arith) in
      let d = length-of_map cell_relation (n * n) in
      let e1 = length-append (nodes ++ coast_node_objects n ++ ways ++ coast_way n ∷ [] ++ relations) (forest n ∷ []) in
      let e2 = length-append (nodes ++ coast_node_objects n ++ ways ++ coast_way n ∷ []) relations in
      let e3 = length-append (nodes ++ coast_node_objects n ++ ways) (coast_way n ∷ []) in
      let e4 = length-append (nodes ++ coast_node_objects n) ways in
      let e5 = length-append nodes (coast_node_objects n) in
      omega arith

  -- ---- their order

  nodes_rise : (k : ℕ) → RisesIn (8 * k + 1) (8 * suc k + 1) (cell_nodes n k)
  nodes_rise k = (omega arith, (omega arith, (omega arith, (omega arith, (omega arith, (omega arith, (omega arith, (omega arith, omega arith))))))))

  coast_rises : RisesIn (8 * (n * n) + 1) (8 * (n * n) + 2 * n + 8) (coast_node_objects n)
  coast_rises = (
    omega arith,
    (
      omega arith,
      rises_from (cells_end n + 2 + 1) (cells_end n + 3 + 0) (8 * (n * n) + 2 * n + 8) (map (upper_node n) (numbers (2 * n + 5))) (omega arith)
          (subst (λ (high : ℕ). RisesIn (cells_end n + 3 + 0) high (map (upper_node n) (numbers (2 * n + 5)))) (omega arith)
          (rises-of_map (upper_node n) (λ s. cells_end n + 3 + s) (2 * n + 5) (λ s low. (omega arith, omega arith)))),
    ),
  )

  ways_rise : (k : ℕ) → RisesIn (1_000_000 + (2 * k + 1)) (1_000_000 + (2 * suc k + 1)) (cell_ways k)
  ways_rise k = (omega arith, (omega arith, omega arith))

  pub all_rise : RisesIn 1 3_000_000 (sample_objects n)
  all_rise =
      rises_both 1 (2_000_000 + (n * n + 1)) 3_000_000 (nodes ++ coast_node_objects n ++ ways ++ coast_way n ∷ [] ++ relations) (forest n ∷ [])
      (rises_both 1 (2_000_000 + 1) (2_000_000 + (n * n + 1)) (nodes ++ coast_node_objects n ++ ways ++ coast_way n ∷ []) relations
      (rises_both 1 (1_000_000 + (2 * (n * n) + 1)) (2_000_000 + 1) (nodes ++ coast_node_objects n ++ ways) (coast_way n ∷ [])
      (rises_both 1 (8 * (n * n) + 2 * n + 8) (1_000_000 + (2 * (n * n) + 1)) (nodes ++ coast_node_objects n) ways
      (rises_both 1 (8 * (n * n) + 1) (8 * (n * n) + 2 * n + 8) nodes (coast_node_objects n) (rises-of_flat_map (cell_nodes n) (λ k. 8 * k + 1) (n * n) (λ k low. nodes_rise k)) coast_rises)
      (rises_from (8 * (n * n) + 2 * n + 8) 1_000_001 (1_000_000 + (2 * (n * n) + 1)) ways (omega arith) (rises-of_flat_map cell_ways (λ k. 1_000_000 + (2 * k + 1)) (n * n) (λ k low. ways_rise k))))
      (omega arith, omega arith))
      (rises-of_map cell_relation (λ k. 2_000_000 + (k + 1)) (n * n) (λ k low. (omega arith, omega arith))))
      (omega arith, omega arith)
