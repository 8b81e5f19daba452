-- Equal neighbours taken once.
use Rattle.std.proofs.Common.{◌≡◌, ◌≢◌, zero, suc, ◌-◌, ◌<◌, ◌≤◌, Bool, true, false, cond, if◌then◌else◌, List, [], ◌∷◌, length, get_or, Some, refl, sym, ap, subst, ◌∙◌, arith, rules, ℤ, ◌&&◌}
use Rattle.std.specs.List.{dedup, dedup_from, slice_get}
use Rattle.std.specs.Cmp.Rules.{comparing}
use Rattle.std.specs.declared.cmp.Ordering.{Ordering}
use Rattle.std.specs.declared.cmp.Ordering.TheVariants.{Less, Equal, Greater}
use Rattle.std.specs.Ordering.{int_cmp, int_eq, is_eq, ordering_then}
use Rattle.std.proofs.lemmas.Bool.{cond_both, false≢true}
use Rattle.std.proofs.lemmas.List.{get_or-take}
use Rattle.std.proofs.lemmas.Option.{same_Some, slice_get-get_or}
use Rattle.osm_lattice.specs.declared.loc.Loc.{Loc}
use Rattle.osm_lattice.specs.Loc.{loc_cmp}
use Rattle.osm_lattice.specs.OrderLaws.{LocationOrderTellsApart}
use Rattle.coast_rings.specs.Line.{IsLine, NeighboursDiffer, first_location, front_of, last_location, origin}
use Rattle.coast_rings.specs.Round.{IsRound, is_same_location, once, once_round, opened}
use Rattle.coast_rings.proofs.Lines.{closed_long, front_differ, front_last, front_length}
use Rattle.lists.proofs.ListsKit.{equal_from}

alike_from : {X : Type 0} (E F : X → X → Bool) → ((x y : X) → E x y ≡ F x y) → (k : X) (xs : List X) → dedup_from E k xs ≡ dedup_from F k xs
alike_from E F h k [] = refl
alike_from {X} E F h k (x ∷ xs) = by (E x k) (F x k) (h x k) (alike_from E F h k xs) (alike_from E F h x xs)
  where
    by : (a b : Bool) → a ≡ b → dedup_from E k xs ≡ dedup_from F k xs → dedup_from E x xs ≡ dedup_from F x xs → cond a (dedup_from E k xs) (k ∷ dedup_from E x xs) ≡ cond b (dedup_from F k xs) (k ∷ dedup_from F x xs)
    by true true e p q = p
    by true false e p q = absurd (false≢true (sym e))
    by false true e p q = absurd (false≢true e)
    by false false e p q = ap (λ (ys : List X). k ∷ ys) q

pub dedup_alike : {X : Type 0} (E F : X → X → Bool) → ((x y : X) → E x y ≡ F x y) → (xs : List X) → dedup E xs ≡ dedup F xs
dedup_alike E F h [] = refl
dedup_alike E F h (x ∷ xs) = alike_from E F h x xs

-- ---- what is left has no equal neighbours

head_is : (k : Loc) (xs : List Loc) → LocationOrderTellsApart → slice_get (dedup_from is_same_location k xs) 0 ≡ Some k
head_is k [] exact = refl
head_is k (x ∷ xs) exact = by (is_same_location x k) (head_is k xs exact)
  where
    by : (b : Bool) → slice_get (dedup_from is_same_location k xs) 0 ≡ Some k → slice_get (cond b (dedup_from is_same_location k xs) (k ∷ dedup_from is_same_location x xs)) 0 ≡ Some k
    by true h = h
    by false h = refl

not_same : LocationOrderTellsApart → (p q : Loc) → is_same_location p q ≡ false → p ≢ q
not_same exact p q e s = absurd (false≢true (sym e ∙ ap is_eq ((exact p q).1 s)))

pub from_differs : (exact : LocationOrderTellsApart) (k : Loc) (xs : List Loc) → NeighboursDiffer (dedup_from is_same_location k xs)
from_differs exact k [] = λ i p e n. absurd (cc)
from_differs exact k (x ∷ xs) = by (is_same_location x k) refl (from_differs exact k xs) (from_differs exact x xs)
  where
    one : is_same_location x k ≡ false → NeighboursDiffer (dedup_from is_same_location x xs) → NeighboursDiffer (k ∷ dedup_from is_same_location x xs)
    one e h zero p s n =
        let is : x ≡ p = same_Some x p (sym (head_is x xs exact) ∙ n) in
        let kp : k ≡ p = same_Some k p s in
        not_same exact x k e (is ∙ sym kp)
    one e h (suc i) p s n = h i p s n

    by : (b : Bool) → is_same_location x k ≡ b → NeighboursDiffer (dedup_from is_same_location k xs) → NeighboursDiffer (dedup_from is_same_location x xs) → NeighboursDiffer (cond b (dedup_from is_same_location k xs) (k ∷ dedup_from is_same_location x xs))
    by true e h g = h
    by false e h g = one e g

some_from : (k : Loc) (xs : List Loc) → 0 < length (dedup_from is_same_location k xs)
some_from k [] = omega arith
some_from k (x ∷ xs) = by (is_same_location x k) (some_from k xs)
  where
    by : (b : Bool) → 0 < length (dedup_from is_same_location k xs) → 0 < length (cond b (dedup_from is_same_location k xs) (k ∷ dedup_from is_same_location x xs))
    by true h = h
    by false h = omega arith

pub same_is : LocationOrderTellsApart → (p q : Loc) → is_same_location p q ≡ true → p ≡ q
same_is exact p q e = (exact p q).0 (equal_from (loc_cmp p q) e)

pub differs_is : LocationOrderTellsApart → (p q : Loc) → p ≢ q → is_same_location p q ≡ false
differs_is exact p q ne = by (is_same_location p q) refl
  where
    by : (b : Bool) → is_same_location p q ≡ b → is_same_location p q ≡ false
    by true e = absurd (ne (same_is exact p q e))
    by false e = e

-- a list that begins with two different locations
pub once_line : (exact : LocationOrderTellsApart) (a b : Loc) (rest : List Loc) → a ≢ b → IsLine (once (a ∷ (b ∷ rest)))
once_line exact a b rest ne = record {
  long = subst (λ t. 2 ≤ length (cond t (dedup_from is_same_location a rest) (a ∷ dedup_from is_same_location b rest))) (sym (differs_is exact b a (λ e. ne (sym e)))) (let s = some_from b rest in omega arith);
  differ = from_differs exact a (b ∷ rest);
}

pub once_differs : LocationOrderTellsApart → (xs : List Loc) → NeighboursDiffer (once xs)
once_differs exact [] = λ k p e n. absurd (cc)
once_differs exact (x ∷ xs) = from_differs exact x xs

-- ---- closed

last_front : (d : List Loc) → 3 ≤ length d → slice_get d (length d - 2) ≡ Some (last_location (front_of d))
last_front d h =
    let n = front_length d in
    let at : last_location (front_of d) ≡ get_or d (length d - 2) origin = ap (λ m. get_or (front_of d) m origin) (omega arith) ∙ get_or-take (length d - 1) d (length d - 2) origin (omega arith) in
    slice_get-get_or d (length d - 2) origin (omega arith) ∙ ap Some (sym at)

last_is : (d : List Loc) → 3 ≤ length d → slice_get d (suc (length d - 2)) ≡ Some (last_location d)
last_is d h =
    let e : suc (length d - 2) ≡ length d - 1 = omega arith in
    ap (slice_get d) e ∙ slice_get-get_or d (length d - 1) origin (omega arith)

first_front : (d : List Loc) → 3 ≤ length d → first_location (front_of d) ≡ first_location d
first_front d h = get_or-take (length d - 1) d 0 origin (omega arith)

pub round_from : LocationOrderTellsApart → (d : List Loc) → IsLine d → IsRound (opened d)
round_from exact d line = by (is_same_location (last_location d) (first_location d)) refl
  where
    by : (b : Bool) → is_same_location (last_location d) (first_location d) ≡ b → IsRound (if b then front_of d else d)
    by true e =
        let closes = same_is exact (last_location d) (first_location d) e in
        let long = closed_long d line closes in
        let n = front_length d in
        let some = line.long in
        record {
          line = record { long = omega arith; differ = front_differ (front_of d) (last_location d ∷ []) (subst NeighboursDiffer (sym (front_last d (omega arith))) line.differ) };
          apart = λ same. line.differ (length d - 2) (last_location (front_of d)) (last_front d long) (last_is d long ∙ ap Some (closes ∙ (sym (first_front d long) ∙ sym same)));
        }
    by false e = record { line = line; apart = not_same exact (last_location d) (first_location d) e }

opened_short : (d : List Loc) → length (opened d) ≤ length d
opened_short d =
    let n = front_length d in
    cond_both (is_same_location (last_location d) (first_location d)) (front_of d) d (λ e. length e ≤ length d) (λ e. omega arith) (λ e. omega arith)

from_short : (k : Loc) (xs : List Loc) → length (dedup_from is_same_location k xs) ≤ suc (length xs)
from_short k [] = omega arith
from_short k (x ∷ xs) =
    let r = from_short k xs in
    let s = from_short x xs in
    cond_both (is_same_location x k) (dedup_from is_same_location k xs) (k ∷ dedup_from is_same_location x xs) (λ ys. length ys ≤ suc (suc (length xs))) (λ e. omega arith) (λ e. omega arith)

once_short : (xs : List Loc) → length (once xs) ≤ length xs
once_short [] = omega arith
once_short (x ∷ xs) = from_short x xs

pub once_round_short : (xs : List Loc) → length (once_round xs) ≤ length xs
once_round_short xs =
    let a = once_short xs in
    let b = opened_short (once xs) in
    omega arith

-- what is left of any locations, where it is two of them
pub round_left : LocationOrderTellsApart → (locs path : List Loc) → path ≡ opened (once locs) → 2 ≤ length path → IsRound path
round_left exact locs path is long =
    let short = opened_short (once locs) in
    let same = ap length is in
    subst IsRound (sym is) (round_from exact (once locs) (record { long = omega arith; differ = once_differs exact locs }))

-- ---- the test of `==`

int_tie : (a b : ℤ) → int_eq a b ≡ is_eq (int_cmp a b)
int_tie a b = search (comparing, rules)

both_ties : (r s : Ordering) → (is_eq s && is_eq r) ≡ is_eq (ordering_then r s)
both_ties Less Less = refl
both_ties Less Equal = refl
both_ties Less Greater = refl
both_ties Equal Less = refl
both_ties Equal Equal = refl
both_ties Equal Greater = refl
both_ties Greater Less = refl
both_ties Greater Equal = refl
both_ties Greater Greater = refl

pub tests_alike : (p q : Loc) → (int_eq p.x q.x && int_eq p.y q.y) ≡ is_same_location p q
tests_alike p q = rw (int_tie p.x q.x, int_tie p.y q.y) (both_ties (int_cmp p.y q.y) (int_cmp p.x q.x))
