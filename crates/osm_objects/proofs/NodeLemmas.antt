-- The ids of the nodes, as a walk over the others with their gaps lists them.
use Rattle.std.proofs.Common.{◌≡◌, ◌∙◌, refl, sym, ap, subst, ℤ, ℕ, List, [], ◌∷◌, ◌++◌, take, drop, map, filter, append_assoc}
use Rattle.std.proofs.lemmas.List.{map-append, take-map, drop-map}
use Rattle.std.proofs.lemmas.List.Elements.{filter-append}
use Rattle.osm_elements.specs.declared.object.Object.{Object}
use Rattle.osm_objects.specs.declared.held.Placed.{Placed}
use Rattle.osm_objects.specs.declared.plain.PlainNode.{PlainNode}
use Rattle.osm_objects.specs.Object.{id_of}
use Rattle.osm_objects.specs.Held.{object_from, others_from}
use Rattle.osm_objects.specs.Others.{object_held}
use Rattle.osm_objects.specs.Merged.{merged, Fit}
use Rattle.osm_objects.specs.Nodes.{is_node, node_ids}
use Rattle.osm_objects.specs.Plain.{nodes_from, node_from}

abbrev pub plain_ids : List PlainNode → List ℤ
plain_ids nodes = map (λ n. n.id) nodes

pub ids-plain : (nodes : List PlainNode) → node_ids (nodes_from nodes) ≡ plain_ids nodes
ids-plain [] = refl
ids-plain (n ∷ nodes) = ap (λ (ids : List ℤ). n.id ∷ ids) (ids-plain nodes)

ids-append : (xs ys : List Object) → node_ids (xs ++ ys) ≡ node_ids xs ++ node_ids ys
ids-append xs ys = ap (map id_of) (filter-append is_node xs ys) ∙ map-append id_of (filter is_node xs) (filter is_node ys)

-- ---- a step of the walk

-- the plain nodes of the gap, then the other and what comes behind it
pub ids-other : (nodes : List PlainNode) (e : Placed) (es : List Placed) →
    node_ids (merged (nodes_from nodes) (others_from (e ∷ es))) ≡ plain_ids (take e.gap nodes) ++ node_ids (object_from e.id e.held ∷ merged (nodes_from (drop e.gap nodes)) (others_from es))
ids-other nodes e es =
    let rest : List Object = object_from e.id e.held ∷ merged (nodes_from (drop e.gap nodes)) (others_from es) in
    rw (take-map node_from e.gap nodes, drop-map node_from e.gap nodes)
    (ids-append (nodes_from (take e.gap nodes)) rest ∙ ap (λ (ids : List ℤ). ids ++ node_ids rest) (ids-plain (take e.gap nodes)))

module _ (ids : List ℤ) (plain before behind : List PlainNode) (left : List Placed) (e : Placed) (es : List Placed) (all : List ℤ) where
  abbrev rest : List Object
  rest = merged (nodes_from behind) (others_from es)

  walked : left ≡ e ∷ es → before ≡ take e.gap plain → behind ≡ drop e.gap plain → ids ++ node_ids (merged (nodes_from plain) (others_from left)) ≡ all →
      ids ++ (plain_ids before ++ node_ids (object_from e.id e.held ∷ rest)) ≡ all
  walked is front back listed = rw (front, back) (ap (λ (more : List ℤ). ids ++ more) (sym (ids-other plain e es)) ∙ ap (λ (ds : List Placed). ids ++ node_ids (merged (nodes_from plain) (others_from ds))) (sym is) ∙ listed)

  -- the plain nodes before the other, and its id if it is a node
  pub walked_on : left ≡ e ∷ es → before ≡ take e.gap plain → behind ≡ drop e.gap plain → ids ++ node_ids (merged (nodes_from plain) (others_from left)) ≡ all →
      ((ids ++ plain_ids before) ++ node_ids (object_held e ∷ [])) ++ node_ids rest ≡ all
  walked_on is front back listed =
      let more : List ℤ = plain_ids before in
      let one : List ℤ = node_ids (object_held e ∷ []) in
      append_assoc (ids ++ more) one (node_ids rest) ∙ append_assoc ids more (one ++ node_ids rest)
      ∙ ap (λ (zs : List ℤ). ids ++ (more ++ zs)) (sym (ids-append (object_held e ∷ []) rest)) ∙ walked is front back listed

  -- there are as many plain nodes left as the gaps left ask for
  pub still_fit : left ≡ e ∷ es → behind ≡ drop e.gap plain → (since : ℕ) × Fit (nodes_from plain) (others_from left) since → (since : ℕ) × Fit (nodes_from behind) (others_from es) since
  still_fit is back (since, fit) =
      let one : Fit (nodes_from plain) (others_from (e ∷ es)) since = subst (λ (ds : List Placed). Fit (nodes_from plain) (others_from ds) since) is fit in
      (since, subst (λ (os : List Object). Fit os (others_from es) since) (drop-map node_from e.gap plain ∙ ap nodes_from (sym back)) one.1)

-- behind the last other only plain nodes are left
pub walked_out : (ids : List ℤ) (plain : List PlainNode) (left : List Placed) (all : List ℤ) → left ≡ [] → ids ++ node_ids (merged (nodes_from plain) (others_from left)) ≡ all → ids ++ plain_ids plain ≡ all
walked_out ids plain left all none listed =
    ap (λ (more : List ℤ). ids ++ more) (sym (ids-plain plain)) ∙ ap (λ (ds : List Placed). ids ++ node_ids (merged (nodes_from plain) (others_from ds))) (sym none) ∙ listed
