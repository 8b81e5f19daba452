-- Nodes whose ids rise: one more at the end, and where a search by halves goes on.
use Rattle.std.proofs.Common.{◌≡◌, ◌∙◌, refl, sym, ap, subst, ℕ, suc, zero, ℤ, Bool, true, false, cond, List, [], ◌∷◌, ◌++◌, length, get_or, take, drop, ◌-◌, slice_get, None, Some, ◌<◌, arith}
use Rattle.std.specs.Int.Signed.{◌<ℤ◌, <ℤ_irrefl, lt_z}
use Rattle.std.specs.List.{AllByRecursion, find}
use Rattle.std.specs.Prelude.{int_lt}
use Rattle.std.specs.Ordering.{int_eq, int_cmp, is_eq}
use Rattle.std.specs.declared.cmp.Ordering.TheVariants.{Less, Equal, Greater}
use Rattle.std.proofs.lemmas.Int.{ints}
use Rattle.std.proofs.lemmas.Bool.{false_from_ne_true}
use Rattle.std.proofs.lemmas.Bool.Decides.{Decides-int_eq}
use Rattle.std.proofs.lemmas.List.{take-append-drop}
use Rattle.std.proofs.lemmas.Option.{same_Some}
use Rattle.lists.proofs.ListsKit.{below_from}
use Rattle.osm_objects.specs.declared.plain.PlainNode.{PlainNode}
use Rattle.osm_objects.specs.Plain.{HaveRisingIds}

below-trans : (a b c : ℤ) → a <ℤ b → b <ℤ c → a <ℤ c
below-trans a b c l m = omega (arith, ints)

-- numbers in order are not equal
pub below-differs : (a b : ℤ) → a <ℤ b → int_eq a b ≡ false
below-differs a b l = false_from_ne_true (int_eq a b) (λ e. <ℤ_irrefl (subst (λ (z : ℤ). a <ℤ z) (sym ((Decides-int_eq a b).0 e)) l))

pub above-differs : (a b : ℤ) → a <ℤ b → int_eq b a ≡ false
above-differs a b l = false_from_ne_true (int_eq b a) (λ e. <ℤ_irrefl (subst (λ (z : ℤ). a <ℤ z) ((Decides-int_eq b a).0 e) l))

-- ---- one more

push-below : (P : PlainNode → Type 0) (nodes : List PlainNode) (n : PlainNode) → AllByRecursion P nodes → P n → AllByRecursion P (nodes ++ n ∷ [])
push-below P [] n all one = (one, tt)
push-below P (m ∷ nodes) n all one = (all.0, push-below P nodes n all.1 one)

last-of-all : (P : PlainNode → Type 0) (nodes : List PlainNode) (n : PlainNode) → AllByRecursion P (nodes ++ n ∷ []) → P n
last-of-all P [] n all = all.0
last-of-all P (m ∷ nodes) n all = last-of-all P nodes n all.1

pub one_more_rises : (nodes : List PlainNode) (n : PlainNode) (k : ℕ) → HaveRisingIds nodes → length nodes ≡ suc k → ((d : PlainNode) → (get_or nodes k d).id <ℤ n.id) → HaveRisingIds (nodes ++ n ∷ [])
one_more_rises [] n k rise is last = absurd (omega arith)
one_more_rises (m ∷ []) n zero rise is last = ((last m, tt), (tt, tt))
one_more_rises (m ∷ []) n (suc k) rise is last = absurd (omega arith)
one_more_rises (m ∷ (p ∷ nodes)) n zero rise is last = absurd (omega arith)
one_more_rises (m ∷ (p ∷ nodes)) n (suc k) rise is last =
    let rest : HaveRisingIds ((p ∷ nodes) ++ n ∷ []) = one_more_rises (p ∷ nodes) n k rise.1 (omega arith) last in
    let above : p.id <ℤ n.id = last-of-all (λ (q : PlainNode). p.id <ℤ q.id) nodes n rest.0 in
    (push-below (λ (q : PlainNode). m.id <ℤ q.id) (p ∷ nodes) n rise.0 (below-trans m.id p.id n.id (rise.0.0) above), rest)

-- ---- halves

abbrev has_id : ℤ → PlainNode → Bool
has_id id n = int_eq id n.id

-- the halves rise
pub front_rises : (before behind : List PlainNode) → HaveRisingIds (before ++ behind) → HaveRisingIds before
front_rises [] behind rise = tt
front_rises (m ∷ before) behind rise = (front_all (λ (q : PlainNode). m.id <ℤ q.id) before behind rise.0, front_rises before behind rise.1)
  where
    front_all : (P : PlainNode → Type 0) (xs ys : List PlainNode) → AllByRecursion P (xs ++ ys) → AllByRecursion P xs
    front_all P [] ys all = tt
    front_all P (x ∷ xs) ys all = (all.0, front_all P xs ys all.1)

pub rest_rises : (before behind : List PlainNode) → HaveRisingIds (before ++ behind) → HaveRisingIds behind
rest_rises [] behind rise = rise
rest_rises (m ∷ before) behind rise = rest_rises before behind rise.1

-- nothing is found where all ids are above
none_above : (id : ℤ) (nodes : List PlainNode) → AllByRecursion (λ q. id <ℤ q.id) nodes → find (has_id id) nodes ≡ None
none_above id [] all = refl
none_above id (n ∷ nodes) all = rw (below-differs id n.id all.0) (none_above id nodes all.1)

above_all : (id : ℤ) (n : PlainNode) (nodes : List PlainNode) → id <ℤ n.id → AllByRecursion (λ q. n.id <ℤ q.id) nodes → AllByRecursion (λ q. id <ℤ q.id) nodes
above_all id n [] l all = tt
above_all id n (q ∷ nodes) l all = (below-trans id n.id q.id l all.0, above_all id n nodes l all.1)

-- below the middle: it stands in the first half, if anywhere
pub goes_before : (id : ℤ) (before : List PlainNode) (n : PlainNode) (behind : List PlainNode) → HaveRisingIds (before ++ n ∷ behind) → id <ℤ n.id →
    find (has_id id) before ≡ find (has_id id) (before ++ n ∷ behind)
goes_before id [] n behind rise l = sym (ap (λ (b : Bool). cond b (Some n) (find (has_id id) behind)) (below-differs id n.id l) ∙ none_above id behind (above_all id n behind l rise.0))
goes_before id (m ∷ before) n behind rise l = ap (cond (has_id id m) (Some m)) (goes_before id before n behind rise.1 l)

-- above it: it stands behind, if anywhere
pub goes_behind : (id : ℤ) (before : List PlainNode) (n : PlainNode) (behind : List PlainNode) → HaveRisingIds (before ++ n ∷ behind) → n.id <ℤ id →
    find (has_id id) behind ≡ find (has_id id) (before ++ n ∷ behind)
goes_behind id [] n behind rise l = sym (ap (λ (b : Bool). cond b (Some n) (find (has_id id) behind)) (above-differs n.id id l))
goes_behind id (m ∷ before) n behind rise l =
    let lower : m.id <ℤ n.id = at_middle before n behind rise.0 in
    goes_behind id before n behind rise.1 l ∙ sym (ap (λ (b : Bool). cond b (Some m) (find (has_id id) (before ++ n ∷ behind))) (above-differs m.id id (below-trans m.id n.id id lower l)))
  where
    at_middle : (before : List PlainNode) (n : PlainNode) (behind : List PlainNode) → AllByRecursion (λ q. m.id <ℤ q.id) (before ++ n ∷ behind) → m.id <ℤ n.id
    at_middle [] n behind all = all.0
    at_middle (q ∷ before) n behind all = at_middle before n behind all.1

-- at it: it is found
pub stands_here : (id : ℤ) (before : List PlainNode) (n : PlainNode) (behind : List PlainNode) → HaveRisingIds (before ++ n ∷ behind) → id ≡ n.id →
    find (has_id id) (before ++ n ∷ behind) ≡ Some n
stands_here id [] n behind rise e = ap (λ (b : Bool). cond b (Some n) (find (has_id id) behind)) ((Decides-int_eq id n.id).1 e)
stands_here id (m ∷ before) n behind rise e =
    let lower : m.id <ℤ n.id = at_middle before n behind rise.0 in
    ap (λ (b : Bool). cond b (Some m) (find (has_id id) (before ++ n ∷ behind))) (subst (λ (z : ℤ). int_eq z m.id ≡ false) (sym e) (above-differs m.id n.id lower)) ∙ stands_here id before n behind rise.1 e
  where
    at_middle : (before : List PlainNode) (n : PlainNode) (behind : List PlainNode) → AllByRecursion (λ q. m.id <ℤ q.id) (before ++ n ∷ behind) → m.id <ℤ n.id
    at_middle [] n behind all = all.0
    at_middle (q ∷ before) n behind all = at_middle before n behind all.1

-- ---- as the functions know them

last_is : (nodes : List PlainNode) (k : ℕ) (last : PlainNode) → slice_get nodes k ≡ Some last → (d : PlainNode) → get_or nodes k d ≡ last
last_is [] k last is d = absurd (cc)
last_is (m ∷ nodes) zero last is d = cc
last_is (m ∷ nodes) (suc k) last is d = last_is nodes k last is d

less_is : (a b : ℤ) → Less ≡ int_cmp a b → a <ℤ b
less_is a b h = by (int_lt a b) (int_lt b a) refl h
  where
    by : (p q : Bool) → int_lt a b ≡ p → Less ≡ cond p Less (cond q Greater Equal) → a <ℤ b
    by true q e h = below_from a b e
    by false true e h = absurd (cc)
    by false false e h = absurd (cc)

greater_is : (a b : ℤ) → Greater ≡ int_cmp a b → b <ℤ a
greater_is a b h = by (int_lt a b) (int_lt b a) refl h
  where
    by : (p q : Bool) → int_lt b a ≡ q → Greater ≡ cond p Less (cond q Greater Equal) → b <ℤ a
    by true q e h = absurd (cc)
    by false true e h = below_from b a e
    by false false e h = absurd (cc)

equal_is : (a b : ℤ) → Equal ≡ int_cmp a b → a ≡ b
equal_is a b h = (Decides-int_eq a b).0 (ap is_eq (sym h))

pub one_above : (nodes : List PlainNode) (last n : PlainNode) → HaveRisingIds nodes → Some last ≡ slice_get nodes (length nodes - 1) → lt_z last.id n.id ≡ true → HaveRisingIds (nodes ++ n ∷ [])
one_above [] last n rise is l = (tt, tt)
one_above (m ∷ nodes) last n rise is l =
    let e : length nodes ≡ length (m ∷ nodes) - 1 = omega arith in
    one_more_rises (m ∷ nodes) n (length nodes) rise (omega arith)
    (λ d. subst (λ (z : PlainNode). z.id <ℤ n.id) (sym (last_is (m ∷ nodes) (length nodes) last (ap (slice_get (m ∷ nodes)) e ∙ sym is) d)) (below_from last.id n.id l))

pub cut_rest : (mid : ℕ) (rest before from : List PlainNode) (n : PlainNode) (behind : List PlainNode) → before ≡ take mid rest → from ≡ drop mid rest → from ≡ n ∷ behind → rest ≡ before ++ n ∷ behind
cut_rest mid rest before from n behind front back first = sym (take-append-drop mid rest) ∙ (ap (λ (zs : List PlainNode). zs ++ drop mid rest) (sym front) ∙ ap (λ (zs : List PlainNode). before ++ zs) (sym back ∙ first))

pub go_less : (id : ℤ) (rest nodes before : List PlainNode) (n : PlainNode) (behind : List PlainNode) → rest ≡ before ++ n ∷ behind → HaveRisingIds rest → find (has_id id) rest ≡ find (has_id id) nodes → Less ≡ int_cmp id n.id →
    HaveRisingIds before × (find (has_id id) before ≡ find (has_id id) nodes)
go_less id rest nodes before n behind cut rise found l =
    let all : HaveRisingIds (before ++ n ∷ behind) = subst HaveRisingIds cut rise in
    (front_rises before (n ∷ behind) all, goes_before id before n behind all (less_is id n.id l) ∙ (ap (find (has_id id)) (sym cut) ∙ found))

pub go_greater : (id : ℤ) (rest nodes before : List PlainNode) (n : PlainNode) (behind : List PlainNode) → rest ≡ before ++ n ∷ behind → HaveRisingIds rest → find (has_id id) rest ≡ find (has_id id) nodes → Greater ≡ int_cmp id n.id →
    HaveRisingIds behind × (find (has_id id) behind ≡ find (has_id id) nodes)
go_greater id rest nodes before n behind cut rise found l =
    let all : HaveRisingIds (before ++ n ∷ behind) = subst HaveRisingIds cut rise in
    ((rest_rises before (n ∷ behind) all).1, goes_behind id before n behind all (greater_is id n.id l) ∙ (ap (find (has_id id)) (sym cut) ∙ found))

pub go_equal : (id : ℤ) (rest nodes before : List PlainNode) (n : PlainNode) (behind : List PlainNode) → rest ≡ before ++ n ∷ behind → HaveRisingIds rest → find (has_id id) rest ≡ find (has_id id) nodes → Equal ≡ int_cmp id n.id →
    Some n ≡ find (has_id id) nodes
go_equal id rest nodes before n behind cut rise found e =
    let all : HaveRisingIds (before ++ n ∷ behind) = subst HaveRisingIds cut rise in
    sym (stands_here id before n behind all (equal_is id n.id e)) ∙ (ap (find (has_id id)) (sym cut) ∙ found)

-- ---- above all, and at a place

at_place : (P : PlainNode → Type 0) (nodes : List PlainNode) (k : ℕ) (n : PlainNode) → AllByRecursion P nodes → slice_get nodes k ≡ Some n → P n
at_place P [] k n all is = absurd (cc)
at_place P (m ∷ nodes) zero n all is = subst P (same_Some _ _ is) all.0
at_place P (m ∷ nodes) (suc k) n all is = at_place P nodes k n all.1 is

none_beyond : (id : ℤ) (nodes : List PlainNode) (k : ℕ) (last : PlainNode) → HaveRisingIds nodes → length nodes ≡ suc k → slice_get nodes k ≡ Some last → last.id <ℤ id → find (has_id id) nodes ≡ None
none_beyond id [] k last rise many is l = absurd (omega arith)
none_beyond id (m ∷ []) zero last rise many is l = rw (above-differs m.id id (subst (λ (n : PlainNode). n.id <ℤ id) (sym (same_Some _ _ is)) l)) refl
none_beyond id (m ∷ []) (suc k) last rise many is l = absurd (omega arith)
none_beyond id (m ∷ (p ∷ nodes)) zero last rise many is l = absurd (omega arith)
none_beyond id (m ∷ (p ∷ nodes)) (suc k) last rise many is l =
    let below : m.id <ℤ last.id = at_place (λ (q : PlainNode). m.id <ℤ q.id) (p ∷ nodes) k last rise.0 is in
    rw (above-differs m.id id (below-trans m.id last.id id below l)) (none_beyond id (p ∷ nodes) k last rise.1 (omega arith) is l)

-- nothing is found where the last id is below
pub none_above_last : (id : ℤ) (nodes : List PlainNode) (last : PlainNode) → HaveRisingIds nodes → Some last ≡ slice_get nodes (length nodes - 1) → lt_z last.id id ≡ true → find (has_id id) nodes ≡ None
none_above_last id [] last rise is l = refl
none_above_last id (m ∷ nodes) last rise is l =
    let e : length nodes ≡ length (m ∷ nodes) - 1 = omega arith in
    none_beyond id (m ∷ nodes) (length nodes) last rise refl (ap (slice_get (m ∷ nodes)) e ∙ sym is) (below_from last.id id l)

-- a node of this id at any place is the one that is found
found_where : (id : ℤ) (nodes : List PlainNode) (k : ℕ) (n : PlainNode) → HaveRisingIds nodes → slice_get nodes k ≡ Some n → id ≡ n.id → find (has_id id) nodes ≡ Some n
found_where id [] k n rise is e = absurd (cc)
found_where id (m ∷ nodes) zero n rise is e = rw ((Decides-int_eq id m.id).1 (e ∙ ap (λ (q : PlainNode). q.id) (sym (same_Some _ _ is)))) is
found_where id (m ∷ nodes) (suc k) n rise is e =
    let below : m.id <ℤ n.id = at_place (λ (q : PlainNode). m.id <ℤ q.id) nodes k n rise.0 is in
    rw (subst (λ (z : ℤ). int_eq z m.id ≡ false) (sym e) (above-differs m.id n.id below)) (found_where id nodes k n rise.1 is e)

stands_at : (nodes : List PlainNode) (k : ℕ) (n : PlainNode) → k < length nodes → ((d : PlainNode) → n ≡ get_or nodes k d) → slice_get nodes k ≡ Some n
stands_at [] k n inside is = absurd (omega arith)
stands_at (m ∷ nodes) zero n inside is = ap Some (sym (is m))
stands_at (m ∷ nodes) (suc k) n inside is = stands_at nodes k n (omega arith) is

pub found_at : (id : ℤ) (nodes : List PlainNode) (k : ℕ) (n : PlainNode) → HaveRisingIds nodes → k < length nodes → ((d : PlainNode) → n ≡ get_or nodes k d) → id ≡ n.id → find (has_id id) nodes ≡ Some n
found_at id nodes k n rise inside is e = found_where id nodes k n rise (stands_at nodes k n inside is) e
