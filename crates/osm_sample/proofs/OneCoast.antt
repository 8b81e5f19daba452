-- The sample has one coastline way.
use Rattle.std.proofs.Common.{Bool, List, [], ap, ap₂, cond, false, flat_map, filter, map, pos, refl, true, ℕ, ◌*◌, ◌++◌, ◌+◌, ◌∙◌, ◌∷◌, ◌≡◌}
use Rattle.std.proofs.lemmas.List.Elements.{filter-append}
use Rattle.osm_elements.specs.declared.object.Object.{Object}
use Rattle.osm_objects.specs.CoastWays.{is_coast_way}
use Rattle.osm_objects.specs.Object.{id_of}
use Rattle.osm_sample.specs.Input.{sample_objects}
use Rattle.osm_sample.specs.Laws.{SampleHasOneCoast}
use Rattle.osm_sample.specs.Numbers.{numbers}
use Rattle.osm_sample.specs.Objects.{cell_nodes, cell_relation, cell_ways, closed_way, coast_node_objects, coast_way, corner_node, forest, lower_left, lower_right, square_nodes, upper_node}

-- none of these is one
abbrev NoCoast : List Object → Type 0
NoCoast objects = filter is_coast_way objects ≡ []

no_coast_in_both : (xs ys : List Object) → NoCoast xs → NoCoast ys → NoCoast (xs ++ ys)
no_coast_in_both xs ys p q = filter-append is_coast_way xs ys ∙ ap₂ (λ (a b : List Object). a ++ b) p q

one_more : (o : Object) (xs : List Object) → is_coast_way o ≡ false → NoCoast xs → NoCoast (o ∷ xs)
one_more o xs h rest = ap (λ (b : Bool). cond b (o ∷ filter is_coast_way xs) (filter is_coast_way xs)) h ∙ rest

no_coast_in_flat : (f : ℕ → List Object) → ((k : ℕ) → NoCoast (f k)) → (ks : List ℕ) → NoCoast (flat_map f ks)
no_coast_in_flat f h [] = refl
no_coast_in_flat f h (k ∷ ks) = no_coast_in_both (f k) (flat_map f ks) (h k) (no_coast_in_flat f h ks)

no_coast_in_map : (f : ℕ → Object) → ((k : ℕ) → is_coast_way (f k) ≡ false) → (ks : List ℕ) → NoCoast (map f ks)
no_coast_in_map f h [] = refl
no_coast_in_map f h (k ∷ ks) = one_more (f k) (map f ks) (h k) (no_coast_in_map f h ks)

-- ---- one object

corner_is_none : (n k id right up : ℕ) → is_coast_way (corner_node n k id right up) ≡ false
unfolding is_coast_way
corner_is_none n k id right up = refl

upper_node_is_none : (n s : ℕ) → is_coast_way (upper_node n s) ≡ false
unfolding is_coast_way
upper_node_is_none n s = refl

lower_left_is_none : (n : ℕ) → is_coast_way (lower_left n) ≡ false
unfolding is_coast_way
lower_left_is_none n = refl

lower_right_is_none : (n : ℕ) → is_coast_way (lower_right n) ≡ false
unfolding is_coast_way
lower_right_is_none n = refl

plain_way_is_none : (id first count : ℕ) → is_coast_way (closed_way id [] first count) ≡ false
unfolding is_coast_way
plain_way_is_none id first count = refl

cell_relation_is_none : (k : ℕ) → is_coast_way (cell_relation k) ≡ false
unfolding is_coast_way
cell_relation_is_none k = refl

forest_is_none : (n : ℕ) → is_coast_way (forest n) ≡ false
unfolding is_coast_way
forest_is_none n = refl

coast_way_is_one : (n : ℕ) → is_coast_way (coast_way n) ≡ true
unfolding is_coast_way
coast_way_is_one n = refl

-- ---- the sample

no_coast_in_square : (n k first low high : ℕ) → NoCoast (square_nodes n k first low high)
no_coast_in_square n k first low high =
    one_more (corner_node n k first low low) (corner_node n k (first + 1) high low ∷ corner_node n k (first + 2) high high ∷ corner_node n k (first + 3) low high ∷ [])
    (corner_is_none n k first low low)
    (one_more (corner_node n k (first + 1) high low) (corner_node n k (first + 2) high high ∷ corner_node n k (first + 3) low high ∷ []) (corner_is_none n k (first + 1) high low)
    (one_more (corner_node n k (first + 2) high high) (corner_node n k (first + 3) low high ∷ []) (corner_is_none n k (first + 2) high high)
    (one_more (corner_node n k (first + 3) low high) [] (corner_is_none n k (first + 3) low high) refl)))

no_coast_in_cell_nodes : (n k : ℕ) → NoCoast (cell_nodes n k)
no_coast_in_cell_nodes n k =
    no_coast_in_both (square_nodes n k (8 * k + 1) 0 8_000) (square_nodes n k (8 * k + 5) 2_000 6_000)
    (no_coast_in_square n k (8 * k + 1) 0 8_000) (no_coast_in_square n k (8 * k + 5) 2_000 6_000)

no_coast_in_coast_nodes : (n : ℕ) → NoCoast (coast_node_objects n)
no_coast_in_coast_nodes n =
    one_more (lower_left n) (lower_right n ∷ map (upper_node n) (numbers (2 * n + 5))) (lower_left_is_none n)
    (one_more (lower_right n) (map (upper_node n) (numbers (2 * n + 5))) (lower_right_is_none n)
    (no_coast_in_map (upper_node n) (upper_node_is_none n) (numbers (2 * n + 5))))

no_coast_in_cell_ways : (k : ℕ) → NoCoast (cell_ways k)
no_coast_in_cell_ways k =
    one_more (closed_way (2 * k + 1) [] (8 * k + 1) 4) (closed_way (2 * k + 2) [] (8 * k + 5) 4 ∷ []) (plain_way_is_none (2 * k + 1) (8 * k + 1) 4)
    (one_more (closed_way (2 * k + 2) [] (8 * k + 5) 4) [] (plain_way_is_none (2 * k + 2) (8 * k + 5) 4) refl)

module _ (n : ℕ) where
  abbrev nodes : List Object
  nodes = flat_map (cell_nodes n) (numbers (n * n))

  abbrev ways : List Object
  ways = flat_map cell_ways (numbers (n * n))

  abbrev relations : List Object
  relations = map cell_relation (numbers (n * n))

  no_coast_in_front : NoCoast (nodes ++ coast_node_objects n ++ ways)
  no_coast_in_front =
      no_coast_in_both (nodes ++ coast_node_objects n) ways
      (no_coast_in_both nodes (coast_node_objects n) (no_coast_in_flat (cell_nodes n) (no_coast_in_cell_nodes n) (numbers (n * n))) (no_coast_in_coast_nodes n))
      (no_coast_in_flat cell_ways no_coast_in_cell_ways (numbers (n * n)))

  the_coast : filter is_coast_way (coast_way n ∷ []) ≡ coast_way n ∷ []
  the_coast = ap (λ (b : Bool). cond b (coast_way n ∷ []) []) (coast_way_is_one n)

  one_of_all : filter is_coast_way (sample_objects n) ≡ coast_way n ∷ []
  one_of_all =
      filter-append is_coast_way (nodes ++ coast_node_objects n ++ ways ++ coast_way n ∷ [] ++ relations) (forest n ∷ [])
      ∙ ap₂ (λ (a b : List Object). a ++ b) to_relations (one_more (forest n) [] (forest_is_none n) refl)
    where
      to_coast : filter is_coast_way (nodes ++ coast_node_objects n ++ ways ++ coast_way n ∷ []) ≡ coast_way n ∷ []
      to_coast = filter-append is_coast_way (nodes ++ coast_node_objects n ++ ways) (coast_way n ∷ []) ∙ ap₂ (λ (a b : List Object). a ++ b) no_coast_in_front the_coast

      to_relations : filter is_coast_way (nodes ++ coast_node_objects n ++ ways ++ coast_way n ∷ [] ++ relations) ≡ coast_way n ∷ []
      to_relations =
          filter-append is_coast_way (nodes ++ coast_node_objects n ++ ways ++ coast_way n ∷ []) relations
          ∙ ap₂ (λ (a b : List Object). a ++ b) to_coast (no_coast_in_map cell_relation cell_relation_is_none (numbers (n * n)))

pub one_coast : SampleHasOneCoast
one_coast n = ap (map id_of) (one_of_all n)
