-- A look-up among the nodes and the others is a look-up in the list of all objects.
use Rattle.std.proofs.Common.{◌≡◌, ◌∙◌, Bool, true, false, cond, List, [], ◌∷◌, refl, sym, ap, subst, ℤ, map, filter, Option, None, Some, option_map, int_eq, not, IsTrue}
use Rattle.std.specs.List.{AllByRecursion, find}
use Rattle.std.specs.Prelude.{Contains}
use Rattle.std.proofs.lemmas.List.Elements.{All-contains, All-from_recursion}
use Rattle.osm_elements.specs.declared.object.ObjectKind.{ObjectKind}
use Rattle.osm_elements.specs.declared.object.ObjectKind.TheVariants.{Node, Way, Relation}
use Rattle.osm_elements.specs.declared.object.ObjectRef.{ObjectRef}
use Rattle.osm_elements.specs.declared.object.Object.{Object}
use Rattle.osm_elements.specs.contracts.object.ObjectKindPartialEq.TheImpl as kind_eq
use Rattle.osm_objects.specs.declared.choice.Choice.{Choice}
use Rattle.osm_objects.specs.declared.held.Placed.{Placed}
use Rattle.osm_objects.specs.declared.plain.PlainNode.{PlainNode}
use Rattle.osm_objects.specs.Object.{is_live, id_of, ref_of, same_kind, is_at}
use Rattle.osm_objects.specs.Objects.{object_at, AreApart}
use Rattle.osm_objects.specs.Candidates.{is_candidate, may_have_area, candidates}
use Rattle.osm_objects.specs.CoastWays.{is_coast_way, coast_ways}
use Rattle.osm_objects.specs.Held.{object_from, others_from}
use Rattle.osm_objects.specs.Others.{object_held, ref_held, is_held_at}
use Rattle.osm_objects.specs.Plain.{node_from, nodes_from}
use Rattle.osm_objects.specs.Merged.{merged}
use Rattle.osm_objects.proofs.StoreLemmas.{id-from, object_at-from, objects_from}
use Rattle.osm_objects.proofs.FoundLemmas.{AllFound, all_found, all_live, same_ref}
use Rattle.osm_objects.proofs.MergedLemmas.{found_among_others, plain_of_all, others_of_all, all_merged, filter-merged, items_of}

pub items-from : (others : List Placed) → items_of (others_from others) ≡ objects_from others
items-from [] = refl
items-from (p ∷ others) = ap (λ (zs : List Object). object_held p ∷ zs) (items-from others)

-- ---- the nodes

abbrev has_id : ℤ → PlainNode → Bool
has_id id n = int_eq id n.id

nodes-found : (id : ℤ) (nodes : List PlainNode) → find (is_at (record { kind = Node; id = id })) (nodes_from nodes) ≡ option_map node_from (find (has_id id) nodes)
nodes-found id [] = refl
nodes-found id (n ∷ nodes) = by (int_eq id n.id) (nodes-found id nodes)
  where
    by : (b : Bool) → find (is_at (record { kind = Node; id = id })) (nodes_from nodes) ≡ option_map node_from (find (has_id id) nodes)
        → cond b (Some (node_from n)) (find (is_at (record { kind = Node; id = id })) (nodes_from nodes)) ≡ option_map node_from (cond b (Some n) (find (has_id id) nodes))
    by true rest = refl
    by false rest = rest

no_node : (of : ObjectRef) (nodes : List PlainNode) → same_kind of.kind Node ≡ false → find (is_at of) (nodes_from nodes) ≡ None
no_node of [] other = refl
no_node of (n ∷ nodes) other = rw other (no_node of nodes other)

-- ---- what is found

-- no node of the row has this reference: the others tell
found_other : (of : ObjectRef) (nodes : List PlainNode) (others : List Placed) → find (is_at of) (nodes_from nodes) ≡ None →
    object_at (merged (nodes_from nodes) (others_from others)) of ≡ option_map object_held (find (is_held_at of) others)
found_other of nodes others none = found_among_others (is_at of) (nodes_from nodes) (others_from others) none ∙ ap (find (is_at of)) (items-from others) ∙ object_at-from of others

-- neither has it
pub found_nowhere : (of : ObjectRef) (nodes : List PlainNode) (others : List Placed) → find (is_at of) (nodes_from nodes) ≡ None → find (is_held_at of) others ≡ None →
    object_at (merged (nodes_from nodes) (others_from others)) of ≡ None
found_nowhere of nodes others none also = found_other of nodes others none ∙ ap (option_map object_held) also

-- one of the others is what its reference finds
held_found : (objects : List Object) (others : List Placed) → AllFound objects (objects_from others) → AllByRecursion (λ p. object_at objects (ref_held p) ≡ Some (object_held p)) others
held_found objects [] all = tt
held_found objects (p ∷ others) all = (all.0, held_found objects others all.1)

pub found_held : (of : ObjectRef) (nodes : List PlainNode) (others : List Placed) (p : Placed) → AreApart (merged (nodes_from nodes) (others_from others)) → is_held_at of p ≡ true → Contains others p →
    object_at (merged (nodes_from nodes) (others_from others)) of ≡ Some (object_from of.id p.held)
found_held of nodes others p apart is there =
    let objects : List Object = merged (nodes_from nodes) (others_from others) in
    let each : AllFound objects (objects_from others) = subst (AllFound objects) (items-from others) (others_of_all (λ (o : Object). object_at objects (ref_of o) ≡ Some o) (nodes_from nodes) (others_from others) (all_found objects apart)) in
    let found : object_at objects (ref_held p) ≡ Some (object_held p) =
    All-contains (λ (q : Placed). object_at objects (ref_held q) ≡ Some (object_held q)) others p (All-from_recursion (λ (q : Placed). object_at objects (ref_held q) ≡ Some (object_held q)) others (held_found objects others each)) there in
    let same : of ≡ ref_held p = same_ref of (object_held p) is in
    ap (object_at objects) same ∙ found ∙ ap (λ (id : ℤ). Some (object_from id p.held)) (sym (ap (λ (r : ObjectRef). r.id) same ∙ id-from p.id p.held))

-- what is found in a list has the property of all
found-has : {A : Type 0} (P : A → Type 0) (p : A → Bool) (xs : List A) (x : A) → AllByRecursion P xs → find p xs ≡ Some x → P x × (p x ≡ true)
found-has P p [] x all found = absurd (cc)
found-has {A} P p (y ∷ xs) x all found = by (p y) refl found (found-has P p xs x all.1)
  where
    by : (b : Bool) → p y ≡ b → cond b (Some y) (find p xs) ≡ Some x → (find p xs ≡ Some x → P x × (p x ≡ true)) → P x × (p x ≡ true)
    by true is e rest = let same : y ≡ x = cc in (subst P same all.0, subst (λ (z : A). p z ≡ true) same is)
    by false is e rest = rest e

-- a node of the row is what its reference finds
pub found_node : (of : ObjectRef) (nodes : List PlainNode) (others : List Placed) (n : PlainNode) → AreApart (merged (nodes_from nodes) (others_from others)) →
    object_at (nodes_from nodes) of ≡ Some (node_from n) → object_at (merged (nodes_from nodes) (others_from others)) of ≡ Some (node_from n)
found_node of nodes others n apart found =
    let each : AllFound (merged (nodes_from nodes) (others_from others)) (nodes_from nodes) = plain_of_all (λ (o : Object). object_at (merged (nodes_from nodes) (others_from others)) (ref_of o) ≡ Some o) (nodes_from nodes) (others_from others) (all_found (merged (nodes_from nodes) (others_from others)) apart) in
    let has = found-has (λ (o : Object). object_at (merged (nodes_from nodes) (others_from others)) (ref_of o) ≡ Some o) (is_at of) (nodes_from nodes) (node_from n) each found in
    let is : of ≡ ref_of (node_from n) = same_ref of (node_from n) has.1 in
    ap (object_at (merged (nodes_from nodes) (others_from others))) is ∙ has.0

-- a test of the kind, as the code makes it
not_node : (k : ObjectKind) → not (kind_eq.ghosts.eq k Node) ≡ true → same_kind k Node ≡ false
not_node Node e = absurd (cc)
not_node Way e = refl
not_node Relation e = refl

is_node : (k : ObjectKind) → not (kind_eq.ghosts.eq k Node) ≡ false → k ≡ Node
is_node Node e = refl
is_node Way e = absurd (cc)
is_node Relation e = absurd (cc)

pub no_node_of : (of : ObjectRef) (nodes : List PlainNode) → not (kind_eq.ghosts.eq of.kind Node) ≡ true → object_at (nodes_from nodes) of ≡ None
no_node_of of nodes e = no_node of nodes (not_node of.kind e)

pub node_there : (of : ObjectRef) (nodes : List PlainNode) → not (kind_eq.ghosts.eq of.kind Node) ≡ false → option_map node_from (find (has_id of.id) nodes) ≡ object_at (nodes_from nodes) of
node_there of nodes e = sym (ap (λ (k : ObjectKind). find (is_at (record { kind = k; id = of.id })) (nodes_from nodes)) (is_node of.kind e) ∙ nodes-found of.id nodes)

-- ---- candidates and coast ways are others

nodes_fail : (p : Object → Bool) → ((n : PlainNode) → p (node_from n) ≡ false) → (nodes : List PlainNode) → AllByRecursion (λ o. p o ≡ false) (nodes_from nodes)
nodes_fail p fails [] = tt
nodes_fail p fails (n ∷ nodes) = (fails n, nodes_fail p fails nodes)

pub filter-others : (p : Object → Bool) → ((n : PlainNode) → p (node_from n) ≡ false) → (nodes : List PlainNode) (others : List Placed) →
    filter p (merged (nodes_from nodes) (others_from others)) ≡ filter p (objects_from others)
filter-others p fails nodes others = filter-merged p (nodes_from nodes) (others_from others) (nodes_fail p fails nodes) ∙ ap (filter p) (items-from others)

pub no_candidate : (choice : Choice) (n : PlainNode) → is_candidate choice (node_from n) ≡ false
unfolding is_candidate may_have_area
no_candidate choice n = refl

pub no_coast_way : (n : PlainNode) → is_coast_way (node_from n) ≡ false
unfolding is_coast_way
no_coast_way n = refl

-- ---- all are live

nodes_live : (nodes : List PlainNode) → AllByRecursion (λ o. IsTrue (is_live o)) (nodes_from nodes)
nodes_live [] = tt
nodes_live (n ∷ nodes) = (refl, nodes_live nodes)

pub all_merged_live : (nodes : List PlainNode) (others : List Placed) → AllByRecursion (λ o. IsTrue (is_live o)) (merged (nodes_from nodes) (others_from others))
all_merged_live nodes others =
    all_merged (λ (o : Object). IsTrue (is_live o)) (nodes_from nodes) (others_from others) (nodes_live nodes)
    (subst (λ (os : List Object). AllByRecursion (λ (o : Object). IsTrue (is_live o)) os) (sym (items-from others)) (all_live others))

-- the lists, as the loops begin them
pub candidates_others : (choice : Choice) (nodes : List PlainNode) (others : List Placed) → candidates choice (merged (nodes_from nodes) (others_from others)) ≡ candidates choice (objects_from others)
candidates_others choice nodes others = ap (map ref_of) (filter-others (is_candidate choice) (no_candidate choice) nodes others)

pub coast_ways_others : (nodes : List PlainNode) (others : List Placed) → coast_ways (merged (nodes_from nodes) (others_from others)) ≡ coast_ways (objects_from others)
coast_ways_others nodes others = ap (map id_of) (filter-others is_coast_way no_coast_way nodes others)

-- ---- what isn't held

map-none : {A B : Type 0} (f : A → B) (o : Option A) → option_map f o ≡ None → o ≡ None
map-none f None e = refl
map-none f (Some x) e = absurd (cc)

-- where nothing is found among all, the nodes have nothing
nodes_none : (of : ObjectRef) (nodes : List PlainNode) (others : List Placed) → AreApart (merged (nodes_from nodes) (others_from others)) → object_at (merged (nodes_from nodes) (others_from others)) of ≡ None →
    (r : Option Object) → object_at (nodes_from nodes) of ≡ r → object_at (nodes_from nodes) of ≡ None
nodes_none of nodes others apart none None e = e
nodes_none of nodes others apart none (Some o) e =
    let each : AllFound (merged (nodes_from nodes) (others_from others)) (nodes_from nodes) = plain_of_all (λ (o : Object). object_at (merged (nodes_from nodes) (others_from others)) (ref_of o) ≡ Some o) (nodes_from nodes) (others_from others) (all_found (merged (nodes_from nodes) (others_from others)) apart) in
    let has = found-has (λ (o : Object). object_at (merged (nodes_from nodes) (others_from others)) (ref_of o) ≡ Some o) (is_at of) (nodes_from nodes) o each e in
    let is : of ≡ ref_of o = same_ref of o has.1 in
    absurd (none_is_none (sym none ∙ ap (object_at (merged (nodes_from nodes) (others_from others))) is ∙ has.0))
  where
    none_is_none : {x : Object} → None ≡ Some x → ⊥
    none_is_none h = absurd (cc)

pub others_none : (of : ObjectRef) (nodes : List PlainNode) (others : List Placed) → AreApart (merged (nodes_from nodes) (others_from others)) →
    object_at (merged (nodes_from nodes) (others_from others)) of ≡ None → find (is_held_at of) others ≡ None
others_none of nodes others apart none =
    map-none object_held (find (is_held_at of) others) (sym (found_other of nodes others (nodes_none of nodes others apart none (object_at (nodes_from nodes) of) refl)) ∙ none)
