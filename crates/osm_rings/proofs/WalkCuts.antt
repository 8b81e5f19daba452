-- What is cut off an orbit are pieces of its walk.
use Rattle.std.proofs.Common.{◌≡◌, ◌≢◌, ℕ, zero, suc, ◌<◌, List, [], ◌∷◌, ◌++◌, length, get_or, map, All, Bool, true, false, refl, sym, ap, subst, ◌∙◌, arith}
use Rattle.std.proofs.lemmas.List.{append_assoc, append-nil, map-append, length-map, length-append, get_or_append_left}
use Rattle.std.proofs.lemmas.List.Elements.{All-append}
use Rattle.plane_lists.specs.Rings.Walk.{AreCuts, Cuts}
use Rattle.plane.specs.Edge.{Edge}
use Rattle.plane.specs.Vector.{Vector, same_point}
use Rattle.plane.proofs.PlaneKit.{same_point-true}
use Rattle.lists.specs.Member.{EachPair}
use Rattle.plane_lists.specs.Lists.Ring.{IsPath, IsRing}
use Rattle.orbits.specs.Cutting.{AreCutOff}
use Rattle.osm_rings.specs.Numbered.{edge_at}
use Rattle.osm_rings.proofs.PlaneNumbers.{TellPoints}
use Rattle.plane_lists.proofs.WindingKit.{path-join, path-split}

module _ (es : List Edge) where
  -- the first edge of a path leaves its start
  path-first : (x z : Vector) (o : List ℕ) → 0 < length o → IsPath x (map (edge_at es) o) z → (edge_at es (get_or o 0 0)).from ≡ x
  path-first x z [] h p = absurd (omega arith)
  path-first x z (i ∷ o) h p = p.0

  -- two points that differ are not the same
  apart-false : (p q : Vector) → ((p ≡ q) → ⊥) → same_point p q ≡ false
  apart-false p q n = decide (same_point p q) refl
    where
      decide : (b : Bool) → same_point p q ≡ b → b ≡ false
      decide true h = absurd (n (same_point-true p q h))
      decide false h = refl

  all-of : (P : Edge → Type 0) (o : List ℕ) → ((k : ℕ) → k < length o → P (edge_at es (get_or o k 0))) → All P (map (edge_at es) o)
  all-of P [] h k d l = absurd (omega arith)
  all-of P (i ∷ o) h zero d l = h 0 (omega arith)
  all-of P (i ∷ o) h (suc k) d l = all-of P o (λ j m. h (suc j) (omega arith)) k d (omega arith)

  module _ (numbers : List ℕ) (tell : TellPoints es numbers) where
    simple : (o : List ℕ) → ((k : ℕ) → k < length o → get_or o k 0 < length es) → ((i j : ℕ) → i < j → j < length o → get_or numbers (get_or o i 0) 0 ≢ get_or numbers (get_or o j 0) 0) → EachPair (λ (e f : Edge). same_point e.from f.from ≡ false) (map (edge_at es) o)
    simple [] low h = tt
    simple (i ∷ o) low h = (
      all-of (λ f. same_point (edge_at es i).from f.from ≡ false) o (λ k l.
          let low_k : get_or o k 0 < length es = low (suc k) (omega arith) in
          let low_i : i < length es = low 0 (omega arith) in
          apart-false (edge_at es i).from (edge_at es (get_or o k 0)).from (λ e. h 0 (suc k) (omega arith) (omega arith) ((tell i (get_or o k 0) low_i low_k).1 e))),
      simple o (λ k l. low (suc k) (omega arith)) (λ a b l m. h (suc a) (suc b) (omega arith) (omega arith)),
    )

    all-left : {X : Type 0} (P : X → Type 0) (xs ys : List X) → All P (xs ++ ys) → All P xs
    all-left P xs ys h k d l = rw (get_or_append_left xs ys d k l) at (h k d (let e = length-append xs ys in omega arith))

    all-right : {X : Type 0} (P : X → Type 0) (xs ys : List X) → All P (xs ++ ys) → All P ys
    all-right P [] ys h = h
    all-right P (x ∷ xs) ys h = all-right P xs ys (λ k d l. h (suc k) d (omega arith))

    first-low : (o : List ℕ) → 0 < length o → All (λ i. i < length es) o → get_or o 0 0 < length es
    first-low o some low = low 0 0 some

    -- what is cut off a closed path is a ring, and what is left is a closed path
    pub cut-pieces : (x : Vector) (walk : List ℕ) (ps : List (List ℕ)) → All (λ i. i < length es) walk → IsPath x (map (edge_at es) walk) x → AreCutOff numbers walk ps → Cuts (map (edge_at es) walk) (map (map (edge_at es)) ps)
    cut-pieces x walk [] low path none = ap (map (edge_at es)) none
    cut-pieces x walk (p ∷ ps) low path (a, b, is, piece, rest) =
        let at = edge_at es in
        let A = map at a in let P = map at p in let B = map at b in
        let parts : map at walk ≡ A ++ (P ++ B) = ap (map at) is ∙ (map-append at a (p ++ b) ∙ ap (λ r. A ++ r) (map-append at p b)) in
        let whole : IsPath x (A ++ (P ++ B)) x = subst (λ w. IsPath x w x) parts path in
        let one = path-split x x A (P ++ B) whole in
        let two = path-split one.0 x P B one.2 in
        let y = one.0 in let z = two.0 in
        let low' : All (λ i. i < length es) (a ++ (p ++ b)) = subst (λ w. All (λ i. i < length es) w) is low in
        let low_a : All (λ i. i < length es) a = all-left (λ i. i < length es) a (p ++ b) low' in
        let low_pb : All (λ i. i < length es) (p ++ b) = all-right (λ i. i < length es) a (p ++ b) low' in
        let low_p : All (λ i. i < length es) p = all-left (λ i. i < length es) p b low_pb in
        let low_b : All (λ i. i < length es) b = all-right (λ i. i < length es) p b low_pb in
        let around = (b ++ a) ++ p in
        let low_r : All (λ i. i < length es) around = All-append (λ i. i < length es) (b ++ a) p (All-append (λ i. i < length es) b a low_b low_a) low_p in
        let some_p = piece.some in
        let some_r : 0 < length around = let e = length-append (b ++ a) p in omega arith in
        let round : map at around ≡ (B ++ A) ++ P = map-append at (b ++ a) p ∙ ap (λ r. r ++ P) (map-append at b a) in
        let turned : IsPath z ((B ++ A) ++ P) z = path-join z y z (B ++ A) P (path-join z x y B A two.2 one.1) two.1 in
        let again : IsPath z (map at around) z = subst (λ w. IsPath z w z) (sym round) turned in
        let at_z : (at (get_or around 0 0)).from ≡ z = path-first z z around some_r again in
        let at_y : (at (get_or p 0 0)).from ≡ y = path-first y z p some_p two.1 in
        let met : (at (get_or around 0 0)).from ≡ (at (get_or p 0 0)).from = (tell (get_or around 0 0) (get_or p 0 0) (first-low around some_r low_r) (first-low p some_p low_p)).0 piece.closed in
        let same : y ≡ z = sym at_y ∙ (sym met ∙ at_z) in
        let ring : IsRing P = record {
          start = y;
          path = subst (λ w. IsPath y P w) (sym same) two.1;
          once = simple p (λ k l. low_p k 0 l) piece.simple;
        } in
        let left : IsPath x (map at (a ++ b)) x =
        subst (λ w. IsPath x w x) (sym (map-append at a b)) (path-join x y x A B one.1 (subst (λ w. IsPath w B x) (sym same) two.2)) in
        let long : 0 < length P = let e = length-map p at in omega arith in
        let cuts : Cuts (map at (a ++ b)) (map (map at) ps) = cut-pieces x (a ++ b) ps (All-append (λ i. i < length es) a b low_a low_b) left rest in
        (A, B, parts, long, ring, subst (λ w. Cuts w (map (map at) ps)) (map-append at a b) cuts)

-- what one more walk is cut into comes after the pieces of those before it
pub more-cuts : (ws rs : List (List Edge)) (w : List Edge) (ps : List (List Edge)) → AreCuts ws rs → Cuts w ps → AreCuts (ws ++ w ∷ []) (rs ++ ps)
more-cuts [] rs w ps none cut = (ps, [], ap (λ r. r ++ ps) none ∙ sym (append-nil ps), cut, refl)
more-cuts (v ∷ ws) rs w ps (qs, ts, is, here, later) cut =
    (qs, ts ++ ps, ap (λ r. r ++ ps) is ∙ append_assoc qs ts ps, here, more-cuts ws ts w ps later cut)
