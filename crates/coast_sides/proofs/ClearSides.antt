-- Segments and the pieces of a side of the world.
use Rattle.std.proofs.Common.{◌≡◌, ◌⊎◌, inl, inr, ⊎_elim, ℕ, ℤ, pos, negsuc, neg_ℤ, unsigned_abs, zero, suc, ◌<◌, ◌≤◌, ◌≤ℤ◌, ◌-ℤ◌, ◌*ℤ◌, Bool, true, false, not, ◌&&◌, ◌||◌, if◌then◌else◌, List, [], ◌∷◌, length, get_or, Contains, Option, Some, None, refl, sym, ap, subst, ◌∙◌, arith}
use Rattle.std.specs.declared.cmp.Ordering.{Ordering}
use Rattle.std.specs.declared.cmp.Ordering.TheVariants.{Less, Equal, Greater}
use Rattle.std.specs.List.{cons_option}
use Rattle.std.specs.Ordering.{is_eq, ordering_reverse}
use Rattle.std.proofs.lemmas.Bool.{and_right, cases_eq, cases_lt, false_from_ne_true, false≢true, or_from}
use Rattle.std.proofs.lemmas.Cmp.{tied_itself}
use Rattle.std.proofs.lemmas.Int.{ints}
use Rattle.std.proofs.lemmas.List.Elements.{All-contains}
use Rattle.plane.specs.Conflict.{is_along, is_inside, is_parted_by, is_touched_by, overlaps}
use Rattle.plane.specs.Order.{order}
use Rattle.plane.specs.Sign.{Minus, Null, Plus, Sign, are_opposite, is_null, is_plus, negated, sign, then_sign}
use Rattle.plane.specs.Vector.{Vector, orient}
use Rattle.lists.proofs.ListsKit.{and-left, and-right, int_eq-same, int_eq-true, less_itself, less_nothing}
pub use Rattle.lists.proofs.ListsKit.{less_both}
use Rattle.plane.proofs.SignKit.{null-is, sign-*, times}
use Rattle.osm_lattice.specs.declared.loc.Loc.{Loc}
use Rattle.osm_lattice.specs.declared.seg.Seg.{Seg}
use Rattle.osm_lattice.specs.declared.conflicts.Kind.{Kind}
use Rattle.osm_lattice.specs.declared.conflicts.Kind.TheVariants.{Crossing, Overlap}
use Rattle.osm_lattice.specs.Conflict.{are_crossing, are_overlapping, conflict_of}
use Rattle.osm_lattice.specs.Loc.{loc_cmp, vector_of}
use Rattle.osm_lattice.specs.OrderLaws.{LocationOrderIsPointOrder, LocationOrderTellsApart, ordering_of}
use Rattle.osm_lattice.specs.Seg.{edge_of, seg_cmp, segment_between, segment_by}
use Rattle.osm_lattice.proofs.LatticeKit.{before_less, rising_edge}
pub use Rattle.osm_lattice.proofs.LatticeKit.{seg_from_ends}
use Rattle.lists.specs.Rising.{IsRising}
use Rattle.coast_sides.specs.Water.{IsClearOfSide, Meets, is_east, is_north, is_south, is_west, pieces}
use Rattle.coast_sides.proofs.EvenRings.{loc_cmp_total, seg_cmp_total}
use Rattle.coast_sides.proofs.WaterLaws.{upright}

-- ---- a piece is between neighbours

pub record AreNeighbours (nodes : List Loc) (t : Seg) : Type 0 where
  pub place : ℕ
  pub inside : suc place < length nodes
  pub first : (d : Loc) → get_or nodes place d ≡ t.a
  pub second : (d : Loc) → get_or nodes (suc place) d ≡ t.b

made_of : (a b : Loc) (ss : List Seg) (t : Seg) → loc_cmp a b ≡ Less → Contains (cons_option (segment_between a b) ss) t → ((a ≡ t.a) × (b ≡ t.b)) ⊎ Contains ss t
unfolding segment_between
made_of a b ss t less c = by (loc_cmp a b) (loc_cmp b a) refl refl less c
  where
    by : (forth back : Ordering) (e : loc_cmp a b ≡ forth) (d : loc_cmp b a ≡ back) → forth ≡ Less → Contains (cons_option (segment_by a b forth back e d) ss) t → ((a ≡ t.a) × (b ≡ t.b)) ⊎ Contains ss t
    by Less back e d f (zero, l, is) = inl (ap (λ (s : Seg). s.a) is, ap (λ (s : Seg). s.b) is)
    by Less back e d f (suc k, l, is) = inr (k, omega arith, is)
    by Equal back e d f c = absurd (cc)
    by Greater back e d f c = absurd (cc)

pub piece_of : (nodes : List Loc) (t : Seg) → IsRising loc_cmp nodes → Contains (pieces nodes) t → AreNeighbours nodes t
piece_of [] t up (k, l, e) = absurd (omega arith)
piece_of (a ∷ []) t up (k, l, e) = absurd (omega arith)
piece_of (a ∷ (b ∷ r)) t up c = ⊎_elim
    (λ is. record { place = 0; inside = omega arith; first = λ d. is.0; second = λ d. is.1 })
    (λ later. let n = piece_of (b ∷ r) t (λ i j d h l. up (suc i) (suc j) d (omega arith) (omega arith)) later in
    let l = n.inside in
    record { place = suc n.place; inside = omega arith; first = n.first; second = n.second })
    (made_of a b (pieces (b ∷ r)) t (up 0 1 a (omega arith) (omega arith)) c)

-- no node is strictly between neighbours
pub none_between : (nodes : List Loc) (t : Seg) (n : Loc) → IsRising loc_cmp nodes → AreNeighbours nodes t → Contains nodes n → loc_cmp t.a n ≡ Less → loc_cmp n t.b ≡ Less → ⊥
none_between nodes t n up next (k, l, e) low high =
    let i = next.inside in
    let a = next.first n in
    let b = next.second n in
    ⊎_elim
    (λ before. less_both loc_cmp_total t.a n low (subst (λ (p : Loc). loc_cmp p t.a ≡ Less) e (subst (λ (p : Loc). loc_cmp (get_or nodes k n) p ≡ Less) a (up k next.place n before (omega arith)))))
    (λ rest. ⊎_elim
    (λ after. less_both loc_cmp_total n t.b high (subst (λ (p : Loc). loc_cmp t.b p ≡ Less) e (subst (λ (p : Loc). loc_cmp p (get_or nodes k n) ≡ Less) b (up (suc next.place) k n after l))))
    (λ rest_2. ⊎_elim
    (λ s. let same : n ≡ t.a = sym e ∙ (ap (λ m. get_or nodes m n) s ∙ a) in less_itself loc_cmp_total t.a (subst (λ (p : Loc). loc_cmp t.a p ≡ Less) same low))
    (λ ne. let s : k ≡ suc next.place = omega arith in let same : n ≡ t.b = sym e ∙ (ap (λ m. get_or nodes m n) s ∙ b) in less_itself loc_cmp_total t.b (subst (λ (p : Loc). loc_cmp p t.b ≡ Less) same high))
    (cases_eq k next.place))
    (cases_lt (suc next.place) k))
    (cases_lt k next.place)

-- ---- one side of a line has the whole world

-- every location is on one side of the line of t, or on the line and then on the side of the world
pub record IsBorder (on : Loc → Bool) (t : Seg) : Type 0 where
  pub side : Sign
  pub apart : is_null side ≡ false
  pub each : (q : Loc) → (orient (vector_of t.a) (vector_of t.b) (vector_of q) ≡ side) ⊎ ((orient (vector_of t.a) (vector_of t.b) (vector_of q) ≡ Null) × (on q ≡ true))

never_opposite : (s : Sign) → are_opposite s s ≡ false
never_opposite Minus = refl
never_opposite Null = refl
never_opposite Plus = refl

null_right : (s : Sign) → are_opposite s Null ≡ false
null_right Minus = refl
null_right Null = refl
null_right Plus = refl

null_left : (s : Sign) → are_opposite Null s ≡ false
null_left Minus = refl
null_left Null = refl
null_left Plus = refl

opposite_no : (x y s : Sign) (P Q : Type 0) → (x ≡ s) ⊎ ((x ≡ Null) × P) → (y ≡ s) ⊎ ((y ≡ Null) × Q) → are_opposite x y ≡ false
opposite_no x y s P Q (inl a) (inl b) = rw (a, b) (never_opposite s)
opposite_no x y s P Q (inl a) (inr b) = rw (a, b.0) (null_right s)
opposite_no x y s P Q (inr a) (inl b) = rw a.0 (null_left y)
opposite_no x y s P Q (inr a) (inr b) = rw a.0 (null_left y)

module _ (on : Loc → Bool) (t : Seg) (border : IsBorder on t) where
  not_parted : (p q : Loc) → are_opposite (orient (vector_of t.a) (vector_of t.b) (vector_of p)) (orient (vector_of t.a) (vector_of t.b) (vector_of q)) ≡ false
  not_parted p q = opposite_no (orient (vector_of t.a) (vector_of t.b) (vector_of p)) (orient (vector_of t.a) (vector_of t.b) (vector_of q)) border.side (on p ≡ true) (on q ≡ true) (border.each p) (border.each q)

  pub on_line : (q : Loc) → is_null (orient (vector_of t.a) (vector_of t.b) (vector_of q)) ≡ true → on q ≡ true
  on_line q e = ⊎_elim (λ a. absurd (false≢true (sym border.apart ∙ (ap is_null (sym a) ∙ e)))) (λ b. b.1) (border.each q)

-- ---- such a segment is clear of a piece

pub plus_less : (s : Sign) → is_plus s ≡ true → ordering_of s ≡ Less
plus_less Minus e = absurd (false≢true e)
plus_less Null e = absurd (false≢true e)
plus_less Plus e = refl

less_plus : (s : Sign) → ordering_of s ≡ Less → is_plus s ≡ true
less_plus Minus e = absurd (cc)
less_plus Null e = absurd (cc)
less_plus Plus e = refl

none_by : (same o x : Bool) → (same ≡ false → o ≡ false) → x ≡ false → ◌≡◌ {A = Option Kind} (if same then None else (if o then Some Overlap else (if x then Some Crossing else None))) None
none_by true o x h e = refl
none_by false o x h e = rw (h refl, e) refl

all_no : (o a b p : Bool) → a ≡ false → b ≡ false → p ≡ false → (not o && ((a || b) || p)) ≡ false
all_no true a b p e d c = refl
all_no false a b p e d c = rw (e, d, c) refl

module _ (points : LocationOrderIsPointOrder) (exact : LocationOrderTellsApart) (on : Loc → Bool) (nodes : List Loc) (up : IsRising loc_cmp nodes) (s t : Seg) (meets : Meets on nodes s) (next : AreNeighbours nodes t) (border : IsBorder on t) where
  before_back : (p q : Loc) → loc_cmp p q ≡ Less → is_plus (order (vector_of p) (vector_of q)) ≡ true
  before_back p q e = less_plus (order (vector_of p) (vector_of q)) (sym (points p q) ∙ e)

  -- no end of s is strictly inside the piece
  end_outside : (q : Loc) → (on q ≡ true → Contains nodes q) → is_inside (vector_of q) (edge_of t) ≡ false
  end_outside q node = false_from_ne_true (is_inside (vector_of q) (edge_of t)) (λ e.
      let line = and-left (is_null (orient (vector_of t.a) (vector_of t.b) (vector_of q))) (is_plus (order (vector_of t.a) (vector_of q)) && is_plus (order (vector_of q) (vector_of t.b))) e in
      let rest = and-right (is_null (orient (vector_of t.a) (vector_of t.b) (vector_of q))) (is_plus (order (vector_of t.a) (vector_of q)) && is_plus (order (vector_of q) (vector_of t.b))) e in
      let low = and-left (is_plus (order (vector_of t.a) (vector_of q))) (is_plus (order (vector_of q) (vector_of t.b))) rest in
      let high = and-right (is_plus (order (vector_of t.a) (vector_of q))) (is_plus (order (vector_of q) (vector_of t.b))) rest in
      none_between nodes t q up next (node (on_line on t border q line)) (before_less t.a q low) (before_less q t.b high))

  first_node : Contains nodes t.a
  first_node = let l = next.inside in (next.place, omega arith, next.first t.a)

  second_node : Contains nodes t.b
  second_node = (suc next.place, next.inside, next.second t.b)

  node_outside : (n : Loc) → Contains nodes n → is_inside (vector_of n) (edge_of s) ≡ false
  node_outside n c = All-contains (λ n. is_inside (vector_of n) (edge_of s) ≡ false) nodes n meets.none_inside c

  -- along one line the two are one
  not_overlapping : is_eq (seg_cmp s t) ≡ false → overlaps (edge_of s) (edge_of t) ≡ false
  not_overlapping differ = false_from_ne_true (overlaps (edge_of s) (edge_of t)) (λ e.
      let line = and-left (is_along (edge_of s) (edge_of t) && is_along (edge_of t) (edge_of s)) (is_plus (order (vector_of s.a) (vector_of t.b)) && is_plus (order (vector_of t.a) (vector_of s.b))) e in
      let rest = and-right (is_along (edge_of s) (edge_of t) && is_along (edge_of t) (edge_of s)) (is_plus (order (vector_of s.a) (vector_of t.b)) && is_plus (order (vector_of t.a) (vector_of s.b))) e in
      let t_on_s = and-left (is_along (edge_of s) (edge_of t)) (is_along (edge_of t) (edge_of s)) line in
      let s_on_t = and-right (is_along (edge_of s) (edge_of t)) (is_along (edge_of t) (edge_of s)) line in
      let low = and-left (is_plus (order (vector_of s.a) (vector_of t.b))) (is_plus (order (vector_of t.a) (vector_of s.b))) rest in
      let high = and-right (is_plus (order (vector_of s.a) (vector_of t.b))) (is_plus (order (vector_of t.a) (vector_of s.b))) rest in
      let a_on = on_line on t border s.a (and-left _ (is_null (orient (vector_of t.a) (vector_of t.b) (vector_of s.b))) s_on_t) in
      let b_on = on_line on t border s.b (and-right (is_null (orient (vector_of t.a) (vector_of t.b) (vector_of s.a))) _ s_on_t) in
      let ta = and-left (is_null (orient (vector_of s.a) (vector_of s.b) (vector_of t.a))) (is_null (orient (vector_of s.a) (vector_of s.b) (vector_of t.b))) t_on_s in
      let tb = and-right (is_null (orient (vector_of s.a) (vector_of s.b) (vector_of t.a))) (is_null (orient (vector_of s.a) (vector_of s.b) (vector_of t.b))) t_on_s in
      begins (loc_cmp s.a t.a) refl a_on b_on ta tb low high)
    where
      inside : (n : Loc) → is_null (orient (vector_of s.a) (vector_of s.b) (vector_of n)) ≡ true → is_plus (order (vector_of s.a) (vector_of n)) ≡ true → is_plus (order (vector_of n) (vector_of s.b)) ≡ true → is_inside (vector_of n) (edge_of s) ≡ true
      inside n x y z = rw (x, y, z) refl

      ends : (o : Ordering) → loc_cmp s.b t.b ≡ o → s.a ≡ t.a → on s.b ≡ true → is_null (orient (vector_of s.a) (vector_of s.b) (vector_of t.b)) ≡ true → is_plus (order (vector_of s.a) (vector_of t.b)) ≡ true → is_plus (order (vector_of t.a) (vector_of s.b)) ≡ true → ⊥
      ends Less e a b_on tb low high = none_between nodes t s.b up next (meets.second b_on) (before_less t.a s.b high) e
      ends Equal e a b_on tb low high = let same : s ≡ t = seg_from_ends s t a ((exact s.b t.b).0 e) in false≢true (sym differ ∙ (ap (λ (u : Seg). is_eq (seg_cmp s u)) (sym same) ∙ ap is_eq (tied_itself seg_cmp_total s)))
      ends Greater e a b_on tb low high = false≢true (sym (node_outside t.b second_node) ∙ inside t.b tb low (before_back t.b s.b (loc_cmp_total.antisymm t.b s.b ∙ ap ordering_reverse e)))

      begins : (o : Ordering) → loc_cmp s.a t.a ≡ o → on s.a ≡ true → on s.b ≡ true → is_null (orient (vector_of s.a) (vector_of s.b) (vector_of t.a)) ≡ true → is_null (orient (vector_of s.a) (vector_of s.b) (vector_of t.b)) ≡ true → is_plus (order (vector_of s.a) (vector_of t.b)) ≡ true → is_plus (order (vector_of t.a) (vector_of s.b)) ≡ true → ⊥
      begins Less e a_on b_on ta tb low high = false≢true (sym (node_outside t.a first_node) ∙ inside t.a ta (before_back s.a t.a e) high)
      begins Equal e a_on b_on ta tb low high = ends (loc_cmp s.b t.b) refl ((exact s.a t.a).0 e) b_on tb low high
      begins Greater e a_on b_on ta tb low high = none_between nodes t s.a up next (meets.first a_on) (loc_cmp_total.antisymm t.a s.a ∙ ap ordering_reverse e) (before_less s.a t.b low)

  pub clear_of_piece : conflict_of s t ≡ None
  unfolding are_overlapping are_crossing
  clear_of_piece = none_by (is_eq (seg_cmp s t)) (overlaps (edge_of s) (edge_of t)) (are_crossing s t) not_overlapping
      (all_no (overlaps (edge_of s) (edge_of t)) (is_touched_by (edge_of s) (edge_of t)) (is_touched_by (edge_of t) (edge_of s)) (is_parted_by (edge_of t) (edge_of s) && is_parted_by (edge_of s) (edge_of t))
      (or_from _ _ (node_outside t.a first_node) (node_outside t.b second_node))
      (or_from _ _ (end_outside s.a meets.first) (end_outside s.b meets.second))
      (and_right (is_parted_by (edge_of t) (edge_of s)) _ (not_parted on t border s.a s.b)))

-- ---- the four sides

pub within_abs : (z : ℤ) (m : ℕ) → unsigned_abs z ≤ m → (z ≤ℤ pos m) × (neg_ℤ (pos m) ≤ℤ z)
within_abs (pos n) m h = (omega (arith, ints), omega (arith, ints))
within_abs (negsuc n) m h = (omega (arith, ints), omega (arith, ints))

rise_plus : (y x : Sign) → then_sign y x ≡ Plus → x ≡ Null → y ≡ Plus
rise_plus Minus x e h = absurd (cc)
rise_plus Null x e h = absurd (cc)
rise_plus Plus x e h = refl

run_plus : (y x : Sign) → then_sign y x ≡ Plus → y ≡ Null → x ≡ Plus
run_plus Minus x e h = absurd (cc)
run_plus Null x e h = e
run_plus Plus x e h = absurd (cc)

upright_rises : (t : Seg) → t.b.x ≡ t.a.x → sign (t.b.y -ℤ t.a.y) ≡ Plus
upright_rises t e = rise_plus (sign (t.b.y -ℤ t.a.y)) (sign (t.b.x -ℤ t.a.x)) (rising_edge t) ((null-is (t.b.x -ℤ t.a.x)).1 (omega (arith, ints)))

level_runs : (t : Seg) → t.b.y ≡ t.a.y → sign (t.b.x -ℤ t.a.x) ≡ Plus
level_runs t e = run_plus (sign (t.b.y -ℤ t.a.y)) (sign (t.b.x -ℤ t.a.x)) (rising_edge t) ((null-is (t.b.y -ℤ t.a.y)).1 (omega (arith, ints)))

-- the sign of the turn at a level segment
level : (p : Vector) (t : Seg) → t.b.y ≡ t.a.y → orient (vector_of t.a) (vector_of t.b) p ≡ times (sign (t.b.x -ℤ t.a.x)) (sign (p.y -ℤ t.a.y))
level p t e =
    let dy : t.b.y -ℤ t.a.y ≡ pos 0 = omega (arith, ints) in
    let none : (t.b.y -ℤ t.a.y) *ℤ (p.x -ℤ t.a.x) ≡ pos 0 = ap (λ z. z *ℤ (p.x -ℤ t.a.x)) dy ∙ zero_times (p.x -ℤ t.a.x) in
    ap sign (less_nothing ((t.b.x -ℤ t.a.x) *ℤ (p.y -ℤ t.a.y)) ((t.b.y -ℤ t.a.y) *ℤ (p.x -ℤ t.a.x)) none) ∙ sign-* (t.b.x -ℤ t.a.x) (p.y -ℤ t.a.y)
  where
    zero_times : (z : ℤ) → pos 0 *ℤ z ≡ pos 0
    zero_times z = omega (arith, ints)

at_or_beyond : (f : Sign → Sign) (z : ℤ) (side : Sign) (o : Sign) (P : Type 0) → o ≡ f (sign z) → f Null ≡ Null → (z ≡ pos 0 → P) → (sign z ≡ Null → ⊥) ⊎ (sign z ≡ Null) → ((sign z ≡ Null → ⊥) → f (sign z) ≡ side) → (o ≡ side) ⊎ ((o ≡ Null) × P)
at_or_beyond f z side o P is null on (inl far) beyond = inl (is ∙ beyond far)
at_or_beyond f z side o P is null on (inr here) beyond = inr (is ∙ (ap f here ∙ null), on ((null-is z).0 here))

null_or_not : (s : Sign) → (s ≡ Null → ⊥) ⊎ (s ≡ Null)
null_or_not Minus = inl (λ e. cc)
null_or_not Null = inr refl
null_or_not Plus = inl (λ e. cc)

only_minus : (z : ℤ) → z ≤ℤ pos 0 → (sign z ≡ Null → ⊥) → sign z ≡ Minus
only_minus (pos zero) h far = absurd (far refl)
only_minus (pos (suc n)) h far = absurd (omega (arith, ints))
only_minus (negsuc n) h far = refl

only_plus : (z : ℤ) → pos 0 ≤ℤ z → (sign z ≡ Null → ⊥) → sign z ≡ Plus
only_plus (pos zero) h far = absurd (far refl)
only_plus (pos (suc n)) h far = refl
only_plus (negsuc n) h far = absurd (omega (arith, ints))

pub east_border : (t : Seg) → is_east t.a ≡ true → is_east t.b ≡ true → IsBorder is_east t
east_border t a b =
    let x = int_eq-true t.a.x (pos 1800000000) a in
    let z = int_eq-true t.b.x (pos 1800000000) b in
    let up = upright_rises t (z ∙ sym x) in
    record {
      side = Plus;
      apart = refl;
      each = λ q. let w = within_abs q.x 1800000000 q.x_in in let w0 = w.0 in
          at_or_beyond (λ s. negated (times Plus s)) (q.x -ℤ t.a.x) Plus (orient (vector_of t.a) (vector_of t.b) (vector_of q)) (is_east q ≡ true)
          (upright (vector_of q) t (z ∙ sym x) ∙ ap (λ y. negated (times y (sign (q.x -ℤ t.a.x)))) up) refl (λ e. int_eq-same q.x (pos 1800000000) (omega (arith, ints))) (null_or_not (sign (q.x -ℤ t.a.x)))
          (λ far. ap (λ s. negated (times Plus s)) (only_minus (q.x -ℤ t.a.x) (omega (arith, ints)) far));
    }

pub west_border : (t : Seg) → is_west t.a ≡ true → is_west t.b ≡ true → IsBorder is_west t
west_border t a b =
    let x = int_eq-true t.a.x (neg_ℤ (pos 1800000000)) a in
    let z = int_eq-true t.b.x (neg_ℤ (pos 1800000000)) b in
    let up = upright_rises t (z ∙ sym x) in
    record {
      side = Minus;
      apart = refl;
      each = λ q. let w = within_abs q.x 1800000000 q.x_in in let w1 = w.1 in
          at_or_beyond (λ s. negated (times Plus s)) (q.x -ℤ t.a.x) Minus (orient (vector_of t.a) (vector_of t.b) (vector_of q)) (is_west q ≡ true)
          (upright (vector_of q) t (z ∙ sym x) ∙ ap (λ y. negated (times y (sign (q.x -ℤ t.a.x)))) up) refl (λ e. int_eq-same q.x (neg_ℤ (pos 1800000000)) (omega (arith, ints))) (null_or_not (sign (q.x -ℤ t.a.x)))
          (λ far. ap (λ s. negated (times Plus s)) (only_plus (q.x -ℤ t.a.x) (omega (arith, ints)) far));
    }

pub south_border : (t : Seg) → is_south t.a ≡ true → is_south t.b ≡ true → IsBorder is_south t
south_border t a b =
    let y = int_eq-true t.a.y (neg_ℤ (pos 900000000)) a in
    let z = int_eq-true t.b.y (neg_ℤ (pos 900000000)) b in
    let runs = level_runs t (z ∙ sym y) in
    record {
      side = Plus;
      apart = refl;
      each = λ q. let w = within_abs q.y 900000000 q.y_in in let w1 = w.1 in
          at_or_beyond (times Plus) (q.y -ℤ t.a.y) Plus (orient (vector_of t.a) (vector_of t.b) (vector_of q)) (is_south q ≡ true)
          (level (vector_of q) t (z ∙ sym y) ∙ ap (λ x. times x (sign (q.y -ℤ t.a.y))) runs) refl (λ e. int_eq-same q.y (neg_ℤ (pos 900000000)) (omega (arith, ints))) (null_or_not (sign (q.y -ℤ t.a.y)))
          (λ far. ap (times Plus) (only_plus (q.y -ℤ t.a.y) (omega (arith, ints)) far));
    }

pub north_border : (t : Seg) → is_north t.a ≡ true → is_north t.b ≡ true → IsBorder is_north t
north_border t a b =
    let y = int_eq-true t.a.y (pos 900000000) a in
    let z = int_eq-true t.b.y (pos 900000000) b in
    let runs = level_runs t (z ∙ sym y) in
    record {
      side = Minus;
      apart = refl;
      each = λ q. let w = within_abs q.y 900000000 q.y_in in let w0 = w.0 in
          at_or_beyond (times Plus) (q.y -ℤ t.a.y) Minus (orient (vector_of t.a) (vector_of t.b) (vector_of q)) (is_north q ≡ true)
          (level (vector_of q) t (z ∙ sym y) ∙ ap (λ x. times x (sign (q.y -ℤ t.a.y))) runs) refl (λ e. int_eq-same q.y (pos 900000000) (omega (arith, ints))) (null_or_not (sign (q.y -ℤ t.a.y)))
          (λ far. ap (times Plus) (only_minus (q.y -ℤ t.a.y) (omega (arith, ints)) far));
    }

clear_by : LocationOrderIsPointOrder → LocationOrderTellsApart → (on : Loc → Bool) → ((t : Seg) → on t.a ≡ true → on t.b ≡ true → IsBorder on t) → IsClearOfSide on
clear_by points exact on border nodes s t up within meets c =
    let next = piece_of nodes t up c in
    let i = next.inside in
    let a = subst (λ (p : Loc). on p ≡ true) (next.first t.a) (within next.place t.a (omega arith)) in
    let b = subst (λ (p : Loc). on p ≡ true) (next.second t.a) (within (suc next.place) t.a i) in
    clear_of_piece points exact on nodes up s t meets next (border t a b)

pub clear_east : LocationOrderIsPointOrder → LocationOrderTellsApart → IsClearOfSide is_east
clear_east points exact = clear_by points exact is_east east_border

pub clear_west : LocationOrderIsPointOrder → LocationOrderTellsApart → IsClearOfSide is_west
clear_west points exact = clear_by points exact is_west west_border

pub clear_south : LocationOrderIsPointOrder → LocationOrderTellsApart → IsClearOfSide is_south
clear_south points exact = clear_by points exact is_south south_border

pub clear_north : LocationOrderIsPointOrder → LocationOrderTellsApart → IsClearOfSide is_north
clear_north points exact = clear_by points exact is_north north_border
