-- Ends of segments passed one by one, and the locations at which more than two were.
use Rattle.std.proofs.Common.{◌≡◌, ℕ, zero, suc, ◌+◌, ◌<◌, ◌≤◌, ◌||◌, Bool, true, false, cond, List, [], ◌∷◌, ◌++◌, Contains, length, take, get_or, IsPermutation, refl, sym, ap, subst, ◌∙◌, arith}
use Rattle.std.specs.Cmp.{IsStrictWeakOrder}
use Rattle.std.specs.List.{count_by, sum_by}
use Rattle.std.specs.Ordering.{is_eq, is_lt}
use Rattle.std.proofs.lemmas.Bool.{both_ways, or_parts, or_right}
use Rattle.std.proofs.lemmas.Cmp.{tied_itself}
use Rattle.std.proofs.lemmas.List.{append_assoc, flat_map_more, map-append, take_all, take_more}
use Rattle.std.proofs.lemmas.List.Folds.{list_any-append, list_any_at}
use Rattle.std.proofs.lemmas.List.Sorted.{list_any-IsPermutation, ranks_by, sum_by-IsPermutation}
use Rattle.std.proofs.lemmas.List.Sums.{sum_by-cons, sum_by_more}
use Rattle.osm_lattice.specs.declared.loc.Loc.{Loc}
use Rattle.osm_lattice.specs.declared.seg.Seg.{Seg}
use Rattle.osm_lattice.specs.Loc.{loc_cmp}
use Rattle.osm_lattice.specs.OrderLaws.{LocationOrderTellsApart}
use Rattle.lists.specs.Rising.{count_of}
use Rattle.osm_segments.specs.Counts.{ends_of}
use Rattle.osm_segments.specs.Repeats.{segs_of}
use Rattle.osm_segments.specs.declared.counts.Repeat.{Repeat}
use Rattle.coast_sides.specs.Junctions.{HasPassed, IsNext, ends_passed, is_one_of}
use Rattle.coast_sides.specs.declared.junctions.Next.{Next}
use Rattle.coast_sides.specs.declared.junctions.Passing.{Passing}
use Rattle.coast_sides.proofs.Conflicts.{is_eq_there}
use Rattle.coast_sides.proofs.EvenRings.{ends_are, ends_at, loc_cmp_total, one}
use Rattle.coast_sides.proofs.ListSteps.{or_false}

ranked : IsStrictWeakOrder (λ p q. is_lt (loc_cmp p q))
ranked = ranks_by loc_cmp_total (λ (p : Loc). p)

not_itself : (p : Loc) → is_lt (loc_cmp p p) ≡ false
not_itself p = ap is_lt (tied_itself loc_cmp_total p)

-- p isn't after q, nor after what comes after q
not_after : (p q r : Loc) → is_lt (loc_cmp q p) ≡ false → is_lt (loc_cmp q r) ≡ true → is_lt (loc_cmp r p) ≡ false
not_after p q r h less = by (is_lt (loc_cmp r p)) refl
  where
    by : (b : Bool) → is_lt (loc_cmp r p) ≡ b → is_lt (loc_cmp r p) ≡ false
    by false e = e
    by true e = absurd (both_ways (is_lt (loc_cmp q r)) (ranked.chain q p r h (ranked.one_way r p e)) less)

none_by : (n : ℕ) → (0 < n → ⊥) → n ≡ 0
none_by zero h = refl
none_by (suc n) h = absurd (h (omega arith))

pub one_more : (nodes : List Loc) (end p : Loc) → is_one_of (nodes ++ end ∷ []) p ≡ (is_one_of nodes p || is_eq (loc_cmp end p))
one_more nodes end p = list_any-append (λ q. is_eq (loc_cmp q p)) nodes (end ∷ []) ∙ ap (λ (b : Bool). is_one_of nodes p || b) (or_false (is_eq (loc_cmp end p)))

-- ---- one end more

module _ (exact : LocationOrderTellsApart) (passed : Loc → ℕ) (old : Passing) (was : HasPassed passed old) (end : Loc) where
  abbrev more : Loc → ℕ
  more p = passed p + cond {A = ℕ} (is_eq (loc_cmp end p)) 1 0

  -- an end that was passed, or this one
  which : (p : Loc) (P : Type 0) → (end ≡ p → P) → (more p ≡ passed p → is_eq (loc_cmp end p) ≡ false → P) → P
  which p P same other = by (is_eq (loc_cmp end p)) refl
    where
      by : (b : Bool) → is_eq (loc_cmp end p) ≡ b → P
      by true e = same (is_eq_there exact end p e)
      by false e = let none : cond {A = ℕ} (is_eq (loc_cmp end p)) 1 0 ≡ 0 = ap (λ (b : Bool). cond {A = ℕ} b 1 0) e in other (omega arith) e

  at_most : (p : Loc) → more p ≤ passed p + 1
  at_most p = by (is_eq (loc_cmp end p)) refl
    where
      by : (b : Bool) → is_eq (loc_cmp end p) ≡ b → more p ≤ passed p + 1
      by true e = let one : cond {A = ℕ} (is_eq (loc_cmp end p)) 1 0 ≡ 1 = ap (λ (b : Bool). cond {A = ℕ} b 1 0) e in omega arith
      by false e = let none : cond {A = ℕ} (is_eq (loc_cmp end p)) 1 0 ≡ 0 = ap (λ (b : Bool). cond {A = ℕ} b 1 0) e in omega arith

  -- it comes after all that were passed
  pub further : is_lt (loc_cmp old.last end) ≡ true → (times : ℕ) → times ≡ 1 → HasPassed more (record { last = end; times = times; busy = old.busy })
  further less times once = record {
    none_after = λ p some. which p (is_lt (loc_cmp end p) ≡ false) (λ same. subst (λ (q : Loc). is_lt (loc_cmp end q) ≡ false) same (not_itself end)) (λ as_before _. not_after p old.last end (was.none_after p (omega arith)) less);
    told = λ _. let new = none_before in let most = at_most end in omega arith;
    few = λ p plain. which p (more p ≤ 2) (λ same. let new : passed p ≡ 0 = ap passed (sym same) ∙ none_before in let most = at_most p in omega arith) (λ as_before _. let n = was.few p plain in omega arith);
  }
    where
      none_before : passed end ≡ 0
      none_before = none_by (passed end) (λ some. absurd (both_ways (is_lt (loc_cmp old.last end)) (was.none_after end some) less))

  -- it is where the last one was
  pub again : old.last ≡ end → (times : ℕ) → times ≡ old.times + 1 → times ≤ 2 → HasPassed more (record { last = old.last; times = times; busy = old.busy })
  again here times one_up most = record {
    none_after = λ p some. which p (is_lt (loc_cmp old.last p) ≡ false) (λ same. subst (λ (q : Loc). is_lt (loc_cmp old.last q) ≡ false) (here ∙ same) (not_itself old.last)) (λ as_before _. was.none_after p (omega arith));
    told = λ plain. let told = was.told plain in let more = at_most old.last in omega arith;
    few = λ p plain. which p (more p ≤ 2)
        (λ same. let at : old.last ≡ p = here ∙ same in let told = was.told (subst (λ (q : Loc). is_one_of old.busy.items q ≡ false) (sym at) plain) in let alike : passed p ≡ passed old.last = ap passed (sym at) in let more = at_most p in omega arith)
        (λ as_before _. let n = was.few p plain in omega arith);
  }

  -- its location counts as a busy one
  pub counted_busy : is_lt (loc_cmp old.last end) ≡ false → (busy : List Loc) → busy ≡ old.busy.items ++ end ∷ [] → (new : Passing) → new.last ≡ old.last → new.times ≡ old.times → new.busy.items ≡ busy → HasPassed more new
  counted_busy within busy put new at times is = record {
    none_after = λ p some. ap (λ (q : Loc). is_lt (loc_cmp q p)) at ∙ which p (is_lt (loc_cmp old.last p) ≡ false) (λ same. subst (λ (q : Loc). is_lt (loc_cmp old.last q) ≡ false) same within) (λ as_before _. was.none_after p (omega arith));
    told = λ plain. let both = plain_before new.last plain in let n = was.told (ap (is_one_of old.busy.items) (sym at) ∙ both.0) in let there : passed new.last ≡ passed old.last = ap passed at in let left = left_out new.last both.1 in omega arith;
    few = λ p plain. let both = plain_before p plain in let n = was.few p both.0 in let left = left_out p both.1 in omega arith;
  }
    where
      plain_before : (p : Loc) → is_one_of new.busy.items p ≡ false → (is_one_of old.busy.items p ≡ false) × (is_eq (loc_cmp end p) ≡ false)
      plain_before p plain = or_parts (is_one_of old.busy.items p) (is_eq (loc_cmp end p)) (sym (one_more old.busy.items end p) ∙ (ap (λ (nodes : List Loc). is_one_of nodes p) (sym put ∙ sym is) ∙ plain))

      left_out : (p : Loc) → is_eq (loc_cmp end p) ≡ false → more p ≡ passed p
      left_out p e = let none : cond {A = ℕ} (is_eq (loc_cmp end p)) 1 0 ≡ 0 = ap (λ (b : Bool). cond {A = ℕ} b 1 0) e in omega arith

pub counted_alike : (f g : Loc → ℕ) (passing : Passing) → ((p : Loc) → f p ≡ g p) → HasPassed f passing → HasPassed g passing
counted_alike f g passing same was = record {
  none_after = λ p some. let e = same p in was.none_after p (omega arith);
  told = λ plain. let e = same passing.last in let n = was.told plain in omega arith;
  few = λ p plain. let e = same p in let n = was.few p plain in omega arith;
}

-- ---- which end is next

pub next_lower : (lows : List Seg) (lower : ℕ) (highs : List Seg) (upper : ℕ) (s : Seg) (next : Next) → lower < length lows → upper ≤ length highs → s ≡ get_or lows lower s → next.end ≡ s.a → next.lower ≡ lower + 1 → next.upper ≡ upper → IsNext lows lower highs upper next
next_lower lows lower highs upper s next inside within is end low high = record {
  within_lows = omega arith;
  within_highs = omega arith;
  more = omega arith;
  one = λ p.
      let more = sum_by_more (λ (t : Seg). cond {A = ℕ} (is_eq (loc_cmp t.a p)) 1 0) lows lower s inside in
      let here = ap (λ (t : Seg). cond {A = ℕ} (is_eq (loc_cmp t.a p)) 1 0) is in
      let told = ap (λ (q : Loc). cond {A = ℕ} (is_eq (loc_cmp q p)) 1 0) end in
      let low_1 = ap (λ k. count_by (λ (t : Seg). is_eq (loc_cmp t.a p)) (take k lows)) low in
      let high_1 = ap (λ k. count_by (λ (t : Seg). is_eq (loc_cmp t.b p)) (take k highs)) high in
      omega arith;
}

pub next_upper : (lows : List Seg) (lower : ℕ) (highs : List Seg) (upper : ℕ) (s : Seg) (next : Next) → lower ≤ length lows → upper < length highs → s ≡ get_or highs upper s → next.end ≡ s.b → next.lower ≡ lower → next.upper ≡ upper + 1 → IsNext lows lower highs upper next
next_upper lows lower highs upper s next within inside is end low high = record {
  within_lows = omega arith;
  within_highs = omega arith;
  more = omega arith;
  one = λ p.
      let more = sum_by_more (λ (t : Seg). cond {A = ℕ} (is_eq (loc_cmp t.b p)) 1 0) highs upper s inside in
      let here = ap (λ (t : Seg). cond {A = ℕ} (is_eq (loc_cmp t.b p)) 1 0) is in
      let told = ap (λ (q : Loc). cond {A = ℕ} (is_eq (loc_cmp q p)) 1 0) end in
      let low_1 = ap (λ k. count_by (λ (t : Seg). is_eq (loc_cmp t.a p)) (take k lows)) low in
      let high_1 = ap (λ k. count_by (λ (t : Seg). is_eq (loc_cmp t.b p)) (take k highs)) high in
      omega arith;
}

-- ---- all ends

sum_apart : (p : Loc) (segs : List Seg) → sum_by (ends_at p) segs ≡ ends_passed segs segs p
sum_apart p [] = refl
sum_apart p (s ∷ segs) =
    let rest = sum_apart p segs in
    let all = sum_by-cons (ends_at p) s segs in
    let a = sum_by-cons (λ (t : Seg). cond {A = ℕ} (is_eq (loc_cmp t.a p)) 1 0) s segs in
    let b = sum_by-cons (λ (t : Seg). cond {A = ℕ} (is_eq (loc_cmp t.b p)) 1 0) s segs in
    omega arith

pub all_passed : (segs ends : List Seg) (lower upper : ℕ) (passing : Passing) → IsPermutation segs ends → lower ≡ length segs → upper ≡ length ends → HasPassed (ends_passed (take lower segs) (take upper ends)) passing
    → (p : Loc) → 2 < count_of loc_cmp p (ends_of segs) → is_one_of passing.busy.items p ≡ true
all_passed segs ends lower upper passing moved low high passed p many = by (is_one_of passing.busy.items p) refl
  where
    by : (b : Bool) → is_one_of passing.busy.items p ≡ b → is_one_of passing.busy.items p ≡ true
    by true e = e
    by false e =
        let few = passed.few p e in
        let lows = ap (λ (ss : List Seg). count_by (λ (t : Seg). is_eq (loc_cmp t.a p)) ss) (take_all lower segs (omega arith)) in
        let highs = ap (λ (ss : List Seg). count_by (λ (t : Seg). is_eq (loc_cmp t.b p)) ss) (take_all upper ends (omega arith)) in
        let same = sum_by-IsPermutation (λ (t : Seg). cond {A = ℕ} (is_eq (loc_cmp t.b p)) 1 0) segs ends moved in
        let apart = sum_apart p segs in
        let are = ends_are p segs in
        absurd (omega arith)

-- the ends of one more segment that occurs repeatedly
pub ends_more : (repeats : List Repeat) (i : ℕ) (r : Repeat) (old now one two : List Loc) → i < length repeats → r ≡ get_or repeats i r → now ≡ old ++ ends_of (segs_of (take i repeats)) → one ≡ now ++ r.seg.a ∷ [] → two ≡ one ++ r.seg.b ∷ [] → two ≡ old ++ ends_of (segs_of (take (i + 1) repeats))
ends_more repeats i r old now one two h e was first second =
    let taken : take (i + 1) repeats ≡ take i repeats ++ r ∷ [] = take_more repeats i r h ∙ ap (λ (t : Repeat). take i repeats ++ t ∷ []) (sym e) in
    let segs : segs_of (take (i + 1) repeats) ≡ segs_of (take i repeats) ++ r.seg ∷ [] = ap segs_of taken ∙ map-append (λ (t : Repeat). t.seg) (take i repeats) (r ∷ []) in
    let ends : ends_of (segs_of (take (i + 1) repeats)) ≡ ends_of (segs_of (take i repeats)) ++ (r.seg.a ∷ (r.seg.b ∷ [])) = ap ends_of segs ∙ sym (flat_map_more (λ (t : Seg). t.a ∷ (t.b ∷ [])) [] (segs_of (take i repeats)) r.seg) in
    second ∙ (ap (λ (ps : List Loc). ps ++ r.seg.b ∷ []) (first ∙ ap (λ (ps : List Loc). ps ++ r.seg.a ∷ []) was)
    ∙ (append_assoc (old ++ ends_of (segs_of (take i repeats))) (r.seg.a ∷ []) (r.seg.b ∷ []) ∙ (append_assoc old (ends_of (segs_of (take i repeats))) (r.seg.a ∷ (r.seg.b ∷ [])) ∙ ap (λ (ps : List Loc). old ++ ps) (sym ends))))

-- ---- a list in order

pub one_sorted : (before after : List Loc) (p : Loc) → IsPermutation before after → is_one_of before p ≡ true → is_one_of after p ≡ true
one_sorted before after p moved e = sym (list_any-IsPermutation (λ q. is_eq (loc_cmp q p)) before after moved) ∙ e

pub one_of_first : (first second : List Loc) (p : Loc) → is_one_of first p ≡ true → is_one_of (first ++ second) p ≡ true
one_of_first first second p e = list_any-append (λ q. is_eq (loc_cmp q p)) first second ∙ ap (λ (b : Bool). b || is_one_of second p) e

pub one_of_second : (first second : List Loc) (p : Loc) → Contains second p → is_one_of (first ++ second) p ≡ true
one_of_second first second p (k, h, e) =
    list_any-append (λ q. is_eq (loc_cmp q p)) first second
    ∙ or_right (is_one_of first p) (is_one_of second p) (list_any_at (λ q. is_eq (loc_cmp q p)) second k p h (ap (λ (q : Loc). is_eq (loc_cmp q p)) e ∙ ap is_eq (tied_itself loc_cmp_total p)))
