-- No node of a way is missing exactly if each of its references has a location.
use Rattle.std.proofs.Common.{◌≡◌, ◌+◌, ◌<◌, ◌≤◌, Bool, false, ℤ, List, [], ◌∷◌, filter, length, map, nat_le, Option, Some, None, refl, sym, ap, ◌∙◌, arith}
use Rattle.std.specs.Prelude.{if◌then◌else◌, is_none}
use Rattle.std.specs.List.{filter_map}
use Rattle.std.specs.Ordering.{int_eq}
use Rattle.std.proofs.lemmas.Bool.Decides.{nat_tests}
use Rattle.std.proofs.lemmas.List.{length-map}
use Rattle.lists.specs.Once.{each_once}
use Rattle.osm_elements.specs.declared.object.Object.{Object}
use Rattle.osm_elements.specs.declared.object.Ref.{Ref}
use Rattle.osm_objects.specs.Objects.{place_of}
use Rattle.osm_lattice.specs.declared.loc.Loc.{Loc}
use Rattle.coast_join.specs.declared.way.Aside.TheVariants.{Missing, Short}
use Rattle.coast_join.specs.Input.{asides_by, is_empty, line_along, lines_by, missing_node_ids}

given_or_not : {X Y : Type 0} (f : X → Option Y) (xs : List X) → length (filter_map f xs) + length (filter (λ x. is_none (f x)) xs) ≡ length xs
given_or_not f [] = refl
given_or_not {X} {Y} f (x ∷ xs) = by (given_or_not f xs) (f x) refl
  where
    by : length (filter_map f xs) + length (filter (λ y. is_none (f y)) xs) ≡ length xs → (o : Option Y) → f x ≡ o →
        length (filter_map f (x ∷ xs)) + length (filter (λ y. is_none (f y)) (x ∷ xs)) ≡ length (x ∷ xs)
    by rest None e = rw e (omega arith)
    by rest (Some y) e = rw e (omega arith)

none_once : (ids : List ℤ) → length ids ≡ 0 → each_once int_eq ids ≡ []
none_once [] e = refl
none_once (id ∷ ids) e = absurd (omega arith)

some_once : (ids : List ℤ) → 0 < length ids → is_empty (each_once int_eq ids) ≡ false
some_once [] e = absurd (omega arith)
some_once (id ∷ ids) e = grind (arith, nat_tests)

module _ (objects : List Object) (refs : List Ref) where
  abbrev lacking : List Ref
  lacking = filter (λ r. is_none (place_of objects r)) refs

  nodes : length (map (λ (r : Ref). r.node) lacking) + length (filter_map (place_of objects) refs) ≡ length refs
  nodes = let all = given_or_not (place_of objects) refs in let long = length-map lacking (λ (r : Ref). r.node) in omega arith

  pub none_missing : length refs ≤ length (filter_map (place_of objects) refs) → missing_node_ids objects refs ≡ []
  none_missing h = let all = nodes in none_once (map (λ (r : Ref). r.node) lacking) (omega arith)

  pub some_missing : length (filter_map (place_of objects) refs) < length refs → is_empty (missing_node_ids objects refs) ≡ false
  some_missing h = let all = nodes in some_once (map (λ (r : Ref). r.node) lacking) (omega arith)

  module _ (way : ℤ) where
    -- some node is missing: the way doesn't take part
    pub no_line : length (filter_map (place_of objects) refs) < length refs → (line : List Loc) → lines_by way (missing_node_ids objects refs) line ≡ []
    no_line h line = ap (λ (b : Bool). if b then (if nat_le 2 (length line) then record { id = way; path = line } ∷ [] else []) else []) (some_missing h)

    pub all_missing : length (filter_map (place_of objects) refs) < length refs → (line : List Loc) → asides_by way (missing_node_ids objects refs) line ≡ map (Missing way) (missing_node_ids objects refs)
    all_missing h line = ap (λ (b : Bool). if b then (if nat_le 2 (length line) then [] else Short way ∷ []) else map (Missing way) (missing_node_ids objects refs)) (some_missing h)

    -- none is missing: its line takes part if it is long enough
    module _ (h : length refs ≤ length (filter_map (place_of objects) refs)) (path : List Loc) (is : path ≡ line_along objects refs) where
      pub whole_line : lines_by way [] path ≡ lines_by way (missing_node_ids objects refs) (line_along objects refs)
      whole_line = ap (λ (ids : List ℤ). lines_by way ids path) (sym (none_missing h)) ∙ ap (λ (line : List Loc). lines_by way (missing_node_ids objects refs) line) is

      pub short_line : asides_by way [] path ≡ asides_by way (missing_node_ids objects refs) (line_along objects refs)
      short_line = ap (λ (ids : List ℤ). asides_by way ids path) (sym (none_missing h)) ∙ ap (λ (line : List Loc). asides_by way (missing_node_ids objects refs) line) is
