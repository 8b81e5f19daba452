-- Ends passed two by two, each two being one location: an odd number of ends at a location stays odd, and an even one even.
use Rattle.std.proofs.Common.{◌≡◌, ◌<◌, ◌≤◌, ◌+◌, ◌%◌, ℕ, List, [], ◌∷◌, ap, arith, cond, drop, get_or, length, refl, sym}
use Rattle.std.specs.Prelude.{IsPermutation}
use Rattle.std.specs.Ordering.{is_eq}
use Rattle.std.proofs.lemmas.List.{drop_all}
use Rattle.std.proofs.lemmas.List.Sums.{sum_by-cons, sum_by-drop_more}
use Rattle.std.proofs.lemmas.List.Sorted.{sum_by-IsPermutation}
use Rattle.osm_lattice.specs.declared.loc.Loc.{Loc}
use Rattle.osm_lattice.specs.declared.seg.Seg.{Seg}
use Rattle.osm_lattice.specs.Loc.{loc_cmp}
use Rattle.lists.specs.Rising.{count_of}
use Rattle.lists.proofs.ListsKit.{count-cons}
use Rattle.osm_segments.specs.Counts.{AreOddNodes, ends_of}
use Rattle.osm_segments.specs.Parity.{ArePassed, greater_at, lesser_at}

-- 1 where q is p
abbrev is_at : Loc → Loc → ℕ
is_at p q = cond (is_eq (loc_cmp q p)) 1 0

lesser_first : (p : Loc) (lower : List Seg) (i : ℕ) (d : Seg) → i < length lower → lesser_at p (drop i lower) ≡ is_at p (get_or lower i d).a + lesser_at p (drop (i + 1) lower)
lesser_first p = sum_by-drop_more (λ s. is_at p s.a)

greater_first : (p : Loc) (upper : List Seg) (j : ℕ) (d : Seg) → j < length upper → greater_at p (drop j upper) ≡ is_at p (get_or upper j d).b + greater_at p (drop (j + 1) upper)
greater_first p = sum_by-drop_more (λ s. is_at p s.b)

pub one_of_each : (lower upper : List Seg) (i j : ℕ) (s t : Seg) → i < length lower → j < length upper → (get_or lower i s).a ≡ (get_or upper j t).b → ArePassed lower i (i + 1) upper j (j + 1)
one_of_each lower upper i j s t in_lower in_upper same = record {
  lesser = omega arith;
  greater = omega arith;
  within_lesser = omega arith;
  within_greater = omega arith;
  some = omega arith;
  two = λ p. omega (arith, lesser_first p lower i s in_lower, greater_first p upper j t in_upper, ap (is_at p) same);
}

pub two_lesser : (lower upper : List Seg) (i j : ℕ) (s t : Seg) → j ≤ length upper → i + 1 < length lower → (get_or lower i s).a ≡ (get_or lower (i + 1) t).a → ArePassed lower i (i + 2) upper j j
two_lesser lower upper i j s t within inside same = record {
  lesser = omega arith;
  greater = omega arith;
  within_lesser = omega arith;
  within_greater = within;
  some = omega arith;
  two = λ p. omega (arith, lesser_first p lower i s (omega arith), lesser_first p lower (i + 1) t inside, ap (λ k. lesser_at p (drop k lower)) (let e : i + 1 + 1 ≡ i + 2 = omega arith in e), ap (is_at p) same);
}

pub two_greater : (lower upper : List Seg) (i j : ℕ) (s t : Seg) → i ≤ length lower → j + 1 < length upper → (get_or upper j s).b ≡ (get_or upper (j + 1) t).b → ArePassed lower i i upper j (j + 2)
two_greater lower upper i j s t within inside same = record {
  lesser = omega arith;
  greater = omega arith;
  within_lesser = within;
  within_greater = omega arith;
  some = omega arith;
  two = λ p. omega (arith, greater_first p upper j s (omega arith), greater_first p upper (j + 1) t inside, ap (λ k. greater_at p (drop k upper)) (let e : j + 1 + 1 ≡ j + 2 = omega arith in e), ap (is_at p) same);
}

-- the ends of segments, each lesser and each greater one counted
both : (p : Loc) (segs : List Seg) → count_of loc_cmp p (ends_of segs) ≡ lesser_at p segs + greater_at p segs
both p [] = refl
both p (s ∷ ss) =
    let first = count-cons loc_cmp p s.a (s.b ∷ ends_of ss) in
    let second = count-cons loc_cmp p s.b (ends_of ss) in
    omega (arith, both p ss, sum_by-cons (λ t. is_at p t.a) s ss, sum_by-cons (λ t. is_at p t.b) s ss)

pub moved : (p : Loc) (segs ends : List Seg) → IsPermutation segs ends → (lesser_at p segs + greater_at p ends) % 2 ≡ 0 → count_of loc_cmp p (ends_of segs) % 2 ≡ 0
moved p segs ends permuted even = omega (arith, both p segs, sum_by-IsPermutation (λ s. is_at p s.b) segs ends permuted)

-- at the ends of both lists none is left
pub none_left : (p : Loc) (lower upper : List Seg) (i j : ℕ) → length lower ≤ i → length upper ≤ j → (lesser_at p (drop i lower) + greater_at p (drop j upper)) % 2 ≡ 0
none_left p lower upper i j past_lesser past_greater = omega (arith, ap (lesser_at p) (drop_all i lower past_lesser), ap (greater_at p) (drop_all j upper past_greater))

pub no_odd_nodes : (segs : List Seg) → ((p : Loc) → count_of loc_cmp p (ends_of segs) % 2 ≡ 0) → AreOddNodes segs []
no_odd_nodes segs even = record { odd = λ p. sym (even p); rising = λ i j d h l. absurd (omega arith) }
