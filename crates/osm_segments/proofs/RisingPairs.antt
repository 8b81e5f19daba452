-- The conflicts among segments in strict order are in strict order.
use Rattle.std.proofs.Common.{◌≡◌, suc, List, [], ◌∷◌, ◌++◌, get_or, All, Option, Some, None, option_map, refl, sym, ap, ◌∙◌, subst, arith}
use Rattle.std.specs.declared.cmp.Ordering.{Ordering}
use Rattle.std.specs.declared.cmp.Ordering.TheVariants.{Less, Equal}
use Rattle.std.specs.Ordering.{ordering_then}
use Rattle.std.specs.List.{filter_map, cons_option}
use Rattle.std.proofs.lemmas.Cmp.{tied_itself}
use Rattle.std.proofs.lemmas.List.Elements.{All-append, All-cons}
use Rattle.std.proofs.lemmas.List.Kept.{AllPairs-cons}
use Rattle.osm_lattice.specs.declared.conflicts.Kind.{Kind}
use Rattle.osm_lattice.specs.declared.seg.Seg.{Seg}
use Rattle.osm_lattice.specs.Seg.{seg_cmp}
use Rattle.osm_lattice.specs.Conflict.{conflict_of}
use Rattle.osm_lattice.proofs.LatticeKit.{seg_total}
use Rattle.lists.specs.Rising.{IsRising}
use Rattle.osm_segments.specs.declared.pairs.Pair.{Pair}
use Rattle.osm_segments.specs.Pairs.{pair_of, conflicts_of, pair_cmp}

tail_all : {X : Type 0} (P : X → Type 0) (x : X) (xs : List X) → All P (x ∷ xs) → All P xs
tail_all P x xs all k d h = all (suc k) d (omega arith)

head_all : {X : Type 0} (P : X → Type 0) (x : X) (xs : List X) → All P (x ∷ xs) → P x
head_all P x xs all = all 0 x (omega arith)

none_all : {X : Type 0} (P : X → Type 0) → All P []
none_all P k d h = absurd (omega arith)

head_rising : (s : Seg) (ts : List Seg) → IsRising seg_cmp (s ∷ ts) → All (λ t. seg_cmp s t ≡ Less) ts
head_rising s ts rising k d h = rising 0 (suc k) d (omega arith) (omega arith)

pub tail_rising : (s : Seg) (ts : List Seg) → IsRising seg_cmp (s ∷ ts) → IsRising seg_cmp ts
tail_rising s ts rising i j d h l = rising (suc i) (suc j) d (omega arith) (omega arith)

-- a pair is of the two segments that it was made of
pub record IsOf (s t : Seg) (p : Pair) : Type 0 where
  pub first : p.first ≡ s
  pub second : p.second ≡ t

of_some : (s t : Seg) (k : Option Kind) (p : Pair) → option_map (λ k. record { kind = k; first = s; second = t }) k ≡ Some p → IsOf s t p
of_some s t None p e = cc
of_some s t (Some k) p e = record { first = first_is p (record { kind = k; first = s; second = t }) e; second = second_is p (record { kind = k; first = s; second = t }) e }
  where
    first_is : (p q : Pair) → Some q ≡ Some p → p.first ≡ q.first
    first_is p q e = cc

    second_is : (p q : Pair) → Some q ≡ Some p → p.second ≡ q.second
    second_is p q e = cc

pub pair_is : (s t : Seg) (p : Pair) → pair_of s t ≡ Some p → IsOf s t p
unfolding pair_of
pair_is s t p e = of_some s t (conflict_of s t) p e

module _ (P : Pair → Type 0) (s : Seg) where
  all_by_pair : (t : Seg) (ps : List Pair) (o : Option Pair) → pair_of s t ≡ o → ((p : Pair) → IsOf s t p → P p) → All P ps → All P (cons_option o ps)
  all_by_pair t ps None e holds rest = rest
  all_by_pair t ps (Some p) e holds rest = All-cons P p ps (holds p (pair_is s t p e)) rest

  -- what holds of each pair of s with an item of ts holds of all that are kept
  all_from_pairs : (ts : List Seg) → All (λ t. (p : Pair) → IsOf s t p → P p) ts → All P (filter_map (pair_of s) ts)
  all_from_pairs [] all = none_all P
  all_from_pairs (t ∷ ts) all =
      all_by_pair t (filter_map (pair_of s) ts) (pair_of s t) refl (head_all (λ t. (p : Pair) → IsOf s t p → P p) t ts all)
      (all_from_pairs ts (tail_all (λ t. (p : Pair) → IsOf s t p → P p) t ts all))

-- the first segment of each conflict among ts is one of ts
all_firsts : (P : Seg → Type 0) (ts : List Seg) → All P ts → All (λ q. P q.first) (conflicts_of ts)
all_firsts P [] all = none_all (λ q. P q.first)
all_firsts P (t ∷ ts) all =
    All-append (λ q. P q.first) (filter_map (pair_of t) ts) (conflicts_of ts)
    (all_from_pairs (λ q. P q.first) t ts (λ k d h p is. subst P (sym is.first) (head_all P t ts all)))
    (all_firsts P ts (tail_all P t ts all))

-- a pair comes before another by its first segment, or with the same first segment by its second
pub before_by_first : (p q : Pair) (s : Seg) → p.first ≡ s → seg_cmp s q.first ≡ Less → pair_cmp p q ≡ Less
before_by_first p q s e h = by_then (seg_cmp p.first q.first) (seg_cmp p.second q.second) (ap (λ r. seg_cmp r q.first) e ∙ h)
  where
    by_then : (o r : Ordering) → o ≡ Less → ordering_then o r ≡ Less
    by_then o r e = rw e refl

pub before_by_second : (p q : Pair) (s t : Seg) → IsOf s t p → q.first ≡ s → seg_cmp t q.second ≡ Less → pair_cmp p q ≡ Less
before_by_second p q s t is e h =
    by_then (seg_cmp p.first q.first) (seg_cmp p.second q.second)
    (ap (λ r. seg_cmp r q.first) is.first ∙ (ap (seg_cmp s) e ∙ tied_itself seg_total s)) (ap (λ r. seg_cmp r q.second) is.second ∙ h)
  where
    by_then : (o r : Ordering) → o ≡ Equal → r ≡ Less → ordering_then o r ≡ Less
    by_then o r e h = rw e h

module _ (s : Seg) (later : List Pair) (above : All (λ q. seg_cmp s q.first ≡ Less) later) (later_rising : IsRising pair_cmp later) where
  rising_by_pair : (t : Seg) (ts : List Seg) (o : Option Pair) → pair_of s t ≡ o → All (λ u. seg_cmp t u ≡ Less) ts → IsRising pair_cmp (filter_map (pair_of s) ts ++ later) → IsRising pair_cmp (cons_option o (filter_map (pair_of s) ts) ++ later)
  rising_by_pair t ts None e less rest = rest
  rising_by_pair t ts (Some p) e less rest =
      let is = pair_is s t p e in
      AllPairs-cons (λ p q. pair_cmp p q ≡ Less) p (filter_map (pair_of s) ts ++ later)
      (All-append (λ q. pair_cmp p q ≡ Less) (filter_map (pair_of s) ts) later
      (all_from_pairs (λ q. pair_cmp p q ≡ Less) s ts (λ k d h q of_q. before_by_second p q s t is of_q.first (subst (λ r. seg_cmp t r ≡ Less) (sym of_q.second) (less k d h))))
      (λ k d h. before_by_first p (get_or later k d) s is.first (above k d h)))
      rest

  rising_pairs : (ts : List Seg) → IsRising seg_cmp ts → IsRising pair_cmp (filter_map (pair_of s) ts ++ later)
  rising_pairs [] rising = later_rising
  rising_pairs (t ∷ ts) rising = rising_by_pair t ts (pair_of s t) refl (head_rising t ts rising) (rising_pairs ts (tail_rising t ts rising))

pub conflicts_rising : (segs : List Seg) → IsRising seg_cmp segs → IsRising pair_cmp (conflicts_of segs)
conflicts_rising [] rising = λ i j d h l. absurd (omega arith)
conflicts_rising (s ∷ ts) rising =
    rising_pairs s (conflicts_of ts) (all_firsts (λ t. seg_cmp s t ≡ Less) ts (head_rising s ts rising)) (conflicts_rising ts (tail_rising s ts rising)) ts (tail_rising s ts rising)
