-- What computing tells of lists of edges.
use Rattle.std.proofs.Common.{All, Bool, List, [], eqb-true, false, not, refl, subst, sym, true, ◌%◌, ◌&&◌, ◌==◌, ◌||◌, ◌∷◌, ◌≡◌, inl, inr}
use Rattle.std.proofs.lemmas.Bool.{and_parts}
use Rattle.std.proofs.lemmas.List.Elements.{All-cons, All-nil}
use Rattle.lists.specs.Member.{EachPair, In}
use Rattle.plane_lists.specs.Rings.Cover.{DoNotCross}
use Rattle.plane.specs.Conflict.{IsClearOf, conflicts}
use Rattle.plane.specs.Edge.{Edge, IsRisingEdge, ends_at, other_end}
use Rattle.plane.specs.Order.{order}
use Rattle.plane.specs.Sign.{is_plus}
use Rattle.plane.specs.Vector.{Vector, from_to, same_point}
use Rattle.plane_lists.specs.Lists.ConflictFree.{IsConflictFree}
use Rattle.plane_lists.specs.Lists.Node.{spokes_in}
use Rattle.plane_lists.specs.Lists.Ring.{IsPath, IsRing}
use Rattle.lists.proofs.ListsKit.{and-left, and-right, not-true-out}
use Rattle.plane.proofs.PlaneKit.{same_point-true}
use Rattle.plane.proofs.SignKit.{is_plus-true}

abbrev pub every : {X : Type 0} → (X → Bool) → List X → Bool
every q [] = true
every q (x ∷ xs) = q x && every q xs

pub every-out : {X : Type 0} (q : X → Bool) (xs : List X) → every q xs ≡ true → (y : X) → In y xs → q y ≡ true
every-out q [] h y i = absurd i
every-out q (x ∷ xs) h y (inl e) = subst (λ w. q w ≡ true) (sym e) (and-left (q x) (every q xs) h)
every-out q (x ∷ xs) h y (inr i) = every-out q xs (and-right (q x) (every q xs) h) y i

pub every-all : {X : Type 0} (q : X → Bool) (P : X → Type 0) → ((x : X) → q x ≡ true → P x) → (xs : List X) → every q xs ≡ true → All P xs
every-all q P k [] h = All-nil P
every-all q P k (x ∷ xs) h = let a = and_parts (q x) (every q xs) h in All-cons P x xs (k x a.0) (every-all q P k xs a.1)

abbrev pub each_pair : {X : Type 0} → (X → X → Bool) → List X → Bool
each_pair q [] = true
each_pair q (x ∷ xs) = every (q x) xs && each_pair q xs

pub pairs-out : {X : Type 0} (q : X → X → Bool) (R : X → X → Type 0) → ((x y : X) → q x y ≡ true → R x y) → (xs : List X) → each_pair q xs ≡ true → EachPair R xs
pairs-out q R k [] h = tt
pairs-out q R k (x ∷ xs) h = let a = and_parts (every (q x) xs) (each_pair q xs) h in (every-all (q x) (R x) (k x) xs a.0, pairs-out q R k xs a.1)

pub plain-out : (es : List Edge) → every (λ (e : Edge). is_plus (order e.from e.to)) es ≡ true → each_pair (λ (s t : Edge). not (conflicts s t)) es ≡ true → IsConflictFree es
plain-out es h k = record {
  rising = every-all (λ (e : Edge). is_plus (order e.from e.to)) IsRisingEdge (λ e p. is_plus-true (order e.from e.to) p) es h;
  clear = pairs-out (λ (s t : Edge). not (conflicts s t)) IsClearOf (λ s t p. not-true-out (conflicts s t) p) es k;
}

-- at an end v of s
abbrev at_by : List Edge → Vector → Edge → Edge → Bool
at_by es v s t = not (ends_at v t) || (spokes_in (from_to v (other_end v s)) (from_to v (other_end v t)) v es % 2 == 0)

abbrev pair_by : List Edge → Edge → Edge → Bool
pair_by es s t = at_by es s.from s t && at_by es s.to s t

abbrev pub uncrossed_test : List Edge → List Edge → Bool
uncrossed_test ss es = every (λ s. every (pair_by es s) ss) ss

at-out : (es : List Edge) (v : Vector) (s t : Edge) (b : Bool) → ends_at v t ≡ b → (not b || (spokes_in (from_to v (other_end v s)) (from_to v (other_end v t)) v es % 2 == 0)) ≡ true → b ≡ true →
    spokes_in (from_to v (other_end v s)) (from_to v (other_end v t)) v es % 2 ≡ 0
at-out es v s t true e h k = eqb-true (spokes_in (from_to v (other_end v s)) (from_to v (other_end v t)) v es % 2) 0 h
at-out es v s t false e h k = cc

uncrossed-by : (es : List Edge) (v : Vector) (s t : Edge) → pair_by es s t ≡ true → ends_at v t ≡ true → (b c : Bool) → same_point v s.from ≡ b → same_point v s.to ≡ c → (b || c) ≡ true →
    spokes_in (from_to v (other_end v s)) (from_to v (other_end v t)) v es % 2 ≡ 0
uncrossed-by es v s t p ht true c h k o =
    let q = same_point-true v s.from h in
    let a : at_by es v s t ≡ true = subst (λ w. at_by es w s t ≡ true) (sym q) (and_parts (at_by es s.from s t) (at_by es s.to s t) p).0 in
    at-out es v s t (ends_at v t) refl a ht
uncrossed-by es v s t p ht false true h k o =
    let q = same_point-true v s.to k in
    let a : at_by es v s t ≡ true = subst (λ w. at_by es w s t ≡ true) (sym q) (and_parts (at_by es s.from s t) (at_by es s.to s t) p).1 in
    at-out es v s t (ends_at v t) refl a ht
uncrossed-by es v s t p ht false false h k o = cc

pub uncrossed-out : (ss es : List Edge) → uncrossed_test ss es ≡ true → DoNotCross ss es
uncrossed-out ss es h v s t i j hs ht =
    uncrossed-by es v s t (every-out (pair_by es s) ss (every-out (λ s. every (pair_by es s) ss) ss h s i) t j) ht (same_point v s.from) (same_point v s.to) refl refl hs

pub ring-by : (a : Vector) (r : List Edge) → IsPath a r a → each_pair (λ (e f : Edge). not (same_point e.from f.from)) r ≡ true → IsRing r
ring-by a r p h = record { start = a; path = p; once = pairs-out (λ (e f : Edge). not (same_point e.from f.from)) (λ (e f : Edge). same_point e.from f.from ≡ false) (λ e f k. not-true-out (same_point e.from f.from) k) r h }
