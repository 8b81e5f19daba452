-- The conflicts that were found, each once and in order, are those of the definition.
use Rattle.std.proofs.Common.{true, ◌≡◌, ◌<◌, ◌≤◌, ◌+◌, ⊎_elim, ℕ, zero, suc, subst, List, [], ◌∷◌, get_or, min, cond, refl, sym, ap, ◌∙◌, arith}
use Rattle.std.specs.Prelude.{Contains}
use Rattle.std.specs.List.{list_any}
use Rattle.std.specs.declared.cmp.Ordering.{Ordering}
use Rattle.std.specs.declared.cmp.Ordering.TheVariants.{Less, Equal, Greater}
use Rattle.std.specs.Ordering.{is_eq, ordering_then}
use Rattle.std.proofs.lemmas.Bool.{or_right}
use Rattle.std.proofs.lemmas.Cmp.{tied_itself}
use Rattle.osm_lattice.specs.declared.conflicts.Kind.{Kind}
use Rattle.osm_lattice.specs.declared.conflicts.Kind.TheVariants.{Crossing, Overlap}
use Rattle.osm_lattice.specs.declared.seg.Seg.{Seg}
use Rattle.osm_lattice.specs.Seg.{seg_cmp}
use Rattle.osm_lattice.proofs.LatticeKit.{seg_total, seg_same}
use Rattle.lists.specs.Rising.{IsRising, count_of}
use Rattle.osm_segments.specs.declared.pairs.Pair.{Pair}
use Rattle.osm_segments.specs.Pairs.{conflicts_of, pair_cmp}
use Rattle.osm_segments.specs.contracts.pairs.PairOrd.TheImpl.{cmp-value}
use Rattle.osm_segments.proofs.RisingPairs.{conflicts_rising}
use Rattle.lists.proofs.ListsKit.{count-cons, first_member, later_member, member_cases, no_member, stands_once}

-- an order under which each item ties with itself alone
module _ {X : Type 0} {R : X → X → Ordering} (itself : (x : X) → R x x ≡ Equal) (exact : (x y : X) → R x y ≡ Equal → x ≡ y) where
  counts_itself : (y x : X) → y ≡ x → cond {A = ℕ} (is_eq (R y x)) 1 0 ≡ 1
  counts_itself y x e = rw (e, itself x) refl

  -- a member stands at least once
  pub counted : (x : X) (xs : List X) → Contains xs x → 0 < count_of R x xs
  counted x [] c = absurd (no_member x c)
  counted x (y ∷ ys) c =
      ⊎_elim
      (λ (e : y ≡ x). omega (arith, count-cons R x y ys, counts_itself y x e))
      (λ (c : Contains ys x). omega (arith, count-cons R x y ys, counted x ys c))
      (member_cases y x ys c)

  member_by : (r : Ordering) (x y : X) (ys : List X) → R y x ≡ r → 0 < cond (is_eq r) 1 0 + count_of R x ys → (0 < count_of R x ys → Contains ys x) → Contains (y ∷ ys) x
  member_by Equal x y ys e some later = rw (exact y x e) (first_member x ys)
  member_by Less x y ys e some later = later_member y x ys (later (omega arith))
  member_by Greater x y ys e some later = later_member y x ys (later (omega arith))

  -- what stands there is a member
  pub member : (x : X) (xs : List X) → 0 < count_of R x xs → Contains xs x
  member x [] some = absurd (omega arith)
  member x (y ∷ ys) some = member_by (R y x) x y ys refl (omega (arith, count-cons R x y ys)) (member x ys)

  -- each once, in strict order, of lists with the same members
  pub same_once : (xs ys : List X) → IsRising R ys → ((x : X) → Contains xs x → Contains ys x) → ((x : X) → Contains ys x → Contains xs x) → (x : X) → min 1 (count_of R x xs) ≡ count_of R x ys
  same_once xs ys rising into back x =
      let there : 0 < count_of R x xs → 0 < count_of R x ys = λ h. counted x ys (into x (member x xs h)) in
      let here : 0 < count_of R x ys → 0 < count_of R x xs = λ h. counted x xs (back x (member x ys h)) in
      same_by (count_of R x xs) (count_of R x ys) there here (stands_once itself exact x ys rising)
    where
      same_by : (n m : ℕ) → (0 < n → 0 < m) → (0 < m → 0 < n) → m ≤ 1 → min 1 n ≡ m
      same_by zero zero there here h = refl
      same_by zero (suc m) there here h = absurd (omega (arith, here (omega arith)))
      same_by (suc n) zero there here h = absurd (omega (arith, there (omega arith)))
      same_by (suc n) (suc m) there here h = omega arith

-- ---- the order of pairs with their kinds
abbrev kind_cmp : Kind → Kind → Ordering
kind_cmp Crossing Crossing = Equal
kind_cmp Crossing Overlap = Less
kind_cmp Overlap Crossing = Greater
kind_cmp Overlap Overlap = Equal

parts_of : (k l : Kind) (s t s' t' : Seg) → cmp-value.it (record { first = s; second = t; kind = k }) (record { first = s'; second = t'; kind = l }) ≡ ordering_then (seg_cmp s s') (ordering_then (seg_cmp t t') (kind_cmp k l))
parts_of Crossing Crossing s t s' t' = refl
parts_of Crossing Overlap s t s' t' = refl
parts_of Overlap Crossing s t s' t' = refl
parts_of Overlap Overlap s t s' t' = refl

parts : (p q : Pair) → cmp-value.it p q ≡ ordering_then (seg_cmp p.first q.first) (ordering_then (seg_cmp p.second q.second) (kind_cmp p.kind q.kind))
parts p q = parts_of p.kind q.kind p.first p.second q.first q.second

kind_itself : (k : Kind) → kind_cmp k k ≡ Equal
kind_itself Crossing = refl
kind_itself Overlap = refl

kind_exact : (k l : Kind) → kind_cmp k l ≡ Equal → k ≡ l
kind_exact Crossing Crossing e = refl
kind_exact Crossing Overlap e = absurd (cc e)
kind_exact Overlap Crossing e = absurd (cc e)
kind_exact Overlap Overlap e = refl

all_equal : (a b c : Ordering) → ordering_then a (ordering_then b c) ≡ Equal → (a ≡ Equal) × (b ≡ Equal) × (c ≡ Equal)
all_equal Equal Equal c e = (refl, refl, e)
all_equal Equal Less c e = absurd (cc e)
all_equal Equal Greater c e = absurd (cc e)
all_equal Less b c e = absurd (cc e)
all_equal Greater b c e = absurd (cc e)

less_already : (a b c : Ordering) → ordering_then a b ≡ Less → ordering_then a (ordering_then b c) ≡ Less
less_already Less b c e = refl
less_already Greater b c e = absurd (cc e)
less_already Equal Less c e = refl
less_already Equal Equal c e = absurd (cc e)
less_already Equal Greater c e = absurd (cc e)

pub pair_itself : (p : Pair) → cmp-value.it p p ≡ Equal
pair_itself p = rw (parts p p, tied_itself seg_total p.first, tied_itself seg_total p.second) (kind_itself p.kind)

pub pair_exact : (p q : Pair) → cmp-value.it p q ≡ Equal → p ≡ q
pair_exact p q e =
    let h = all_equal (seg_cmp p.first q.first) (seg_cmp p.second q.second) (kind_cmp p.kind q.kind) (sym (parts p q) ∙ e) in
    λ i. record { first = seg_same p.first q.first h.0 i; second = seg_same p.second q.second h.1 i; kind = kind_exact p.kind q.kind h.2 i }

pub rising_whole : (ps : List Pair) → IsRising pair_cmp ps → IsRising cmp-value.it ps
rising_whole ps rising i j d h l =
    let p = get_or ps i d in let q = get_or ps j d in
    parts p q ∙ less_already (seg_cmp p.first q.first) (seg_cmp p.second q.second) (kind_cmp p.kind q.kind) (rising i j d h l)

pub pairs_rise : (segs : List Seg) (v : List Pair) → IsRising seg_cmp segs → v ≡ conflicts_of segs → IsRising pair_cmp v
pairs_rise segs v rising e = subst (IsRising pair_cmp) (sym e) (conflicts_rising segs rising)

-- a search by the order finds what is there
pub any_there : (s : Seg) (xs : List Seg) → Contains xs s → list_any (λ other. is_eq (seg_cmp other s)) xs ≡ true
any_there s [] c = absurd (no_member s c)
any_there s (x ∷ xs) c =
    ⊎_elim
    (λ (e : x ≡ s). let tied = ap is_eq (ap (λ u. seg_cmp u s) e ∙ tied_itself seg_total s) in rw tied refl)
    (λ (k : Contains xs s). or_right (is_eq (seg_cmp x s)) (list_any (λ other. is_eq (seg_cmp other s)) xs) (any_there s xs k))
    (member_cases x s xs c)
