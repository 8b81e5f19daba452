-- Rings cut down: there is one list of what is left, and one of the cuts; what is left has no conflicts of its own, and its names rise.
use Rattle.std.proofs.Common.{◌≡◌, inl, inr, suc, ◌<◌, ◌≤◌, false, List, [], ◌∷◌, ◌++◌, All, Contains, length, get_or, refl, sym, ap, subst, ◌∙◌, arith, ⊎_elim}
use Rattle.std.specs.List.{flat_map}
use Rattle.std.specs.declared.cmp.Ordering.TheVariants.{Less}
use Rattle.std.specs.Ordering.{int_cmp}
use Rattle.std.proofs.lemmas.Bool.{cases_lt, false≢true}
use Rattle.std.proofs.lemmas.List.Elements.{All-contains, Contains-append_cases, Contains-append_left, Contains-append_right, Contains-get_or}
use Rattle.std.proofs.lemmas.List.Kept.{AllPairs-cons}
use Rattle.osm_lattice.specs.declared.loc.Loc.{Loc}
use Rattle.osm_lattice.specs.OrderLaws.{LocationOrderTellsApart}
use Rattle.coast_rings.specs.declared.ring.CoastRing.{CoastRing}
use Rattle.coast_rings.specs.Round.{IsRound}
use Rattle.coast_rings.proofs.RingsKit.{ring_from_fields, round_left}
use Rattle.coast_sides.specs.declared.cut.Cut.{Cut}
use Rattle.coast_sides.specs.CutSorting.{NamesOfRingsRise, RoundsEnd}
use Rattle.coast_sides.specs.Rounds.{AreCutDown, AreRounds, IsLeft, conflicts_itself, round_cuts}
use Rattle.coast_sides.specs.Shortcuts.{marked, remaining, shortened}
use Rattle.coast_sides.proofs.RingRanks.{name_cmp}
use Rattle.coast_sides.proofs.SomeMember.{first_member, later_member, member_cases, no_member}

-- ---- one of each

pub rounds_one : (path : List Loc) (rounds others : List (List Loc)) (last other : List Loc) → AreRounds path rounds last → AreRounds path others other → (rounds ≡ others) × (last ≡ other)
rounds_one path [] [] last other a b = (refl, a.1 ∙ sym b.1)
rounds_one path [] (y ∷ ys) last other a b = absurd (false≢true (sym a.0 ∙ b.0))
rounds_one path (x ∷ xs) [] last other a b = absurd (false≢true (sym b.0 ∙ a.0))
rounds_one path (x ∷ xs) (y ∷ ys) last other a b =
    let rest = rounds_one (shortened path) xs ys last other a.2 b.2 in
    let same : x ≡ y = a.1 ∙ sym b.1 in
    (ap (λ z. z ∷ xs) same ∙ ap (λ zs. y ∷ zs) rest.0, rest.1)

long_ring : (r : CoastRing) (path : List Loc) → r.path ≡ path → length path < 2 → ⊥
long_ring r path e short = let long = r.round.line.long in let same = ap length e in absurd (omega arith)

pub left_one : (ring : CoastRing) (path : List Loc) (left other : List CoastRing) → IsLeft ring path left → IsLeft ring path other → left ≡ other
left_one ring path left other (inl a) (inl b) = a.1 ∙ sym b.1
left_one ring path left other (inl a) (inr b) = absurd (long_ring b.0 path b.2 a.0)
left_one ring path left other (inr a) (inl b) = absurd (long_ring a.0 path a.2 b.0)
left_one ring path left other (inr a) (inr b) = a.3 ∙ (ap (λ (r : CoastRing). r ∷ []) (ring_from_fields a.0 b.0 (a.1 ∙ sym b.1) (a.2 ∙ sym b.2)) ∙ sym b.3)

pub cut_down_one : (rings left other : List CoastRing) (cuts more : List Cut) → AreCutDown rings left cuts → AreCutDown rings other more → (left ≡ other) × (cuts ≡ more)
cut_down_one [] left other cuts more a b = (a.0 ∙ sym b.0, a.1 ∙ sym b.1)
cut_down_one (ring ∷ rings) left other cuts more a b =
    let rounds = rounds_one ring.path a.0 b.0 a.1 b.1 a.2 b.2 in
    let first : a.3 ≡ b.3 = left_one ring b.1 a.3 b.3 (subst (λ path. IsLeft ring path a.3) rounds.1 a.4) b.4 in
    let rest = cut_down_one rings a.5 b.5 a.6 b.6 a.7 b.7 in (
      a.8 ∙ (ap (λ (rs : List CoastRing). rs ++ a.5) first ∙ (ap (λ (rs : List CoastRing). b.3 ++ rs) rest.0 ∙ sym b.8)),
      a.9 ∙ (ap (λ rs. flat_map (round_cuts ring.name) rs ++ a.6) rounds.0 ∙ (ap (λ (cs : List Cut). flat_map (round_cuts ring.name) b.0 ++ cs) rest.1 ∙ sym b.9)),
    )

-- ---- each exists

last_is_round : LocationOrderTellsApart → (path : List Loc) (rounds : List (List Loc)) (last : List Loc) → (2 ≤ length path → IsRound path) → AreRounds path rounds last → 2 ≤ length last → IsRound last
last_is_round exact path [] last round are long = subst IsRound (sym are.1) (round (subst (λ ls. 2 ≤ length ls) are.1 long))
last_is_round exact path (first ∷ rounds) last round are long = last_is_round exact (shortened path) rounds last (round_left exact (remaining (marked path)) (shortened path) refl) are.2 long

left_exists : (ring : CoastRing) (last : List Loc) → (2 ≤ length last → IsRound last) → (left : List CoastRing) × IsLeft ring last left
left_exists ring last round = ⊎_elim
    (λ (short : length last < 2). let is : IsLeft ring last [] = inl (short, refl) in ([], is))
    (λ (long : 2 ≤ length last).
    let r : CoastRing = record { name = ring.name; path = last; round = round long } in
    let is : IsLeft ring last (r ∷ []) = inr (r, refl, refl, refl) in
    (r ∷ [], is))
    (cases_lt (length last) 2)

pub cut_down_exists : LocationOrderTellsApart → RoundsEnd → (rings : List CoastRing) → (left : List CoastRing) × (cuts : List Cut) × AreCutDown rings left cuts
cut_down_exists exact ends [] = ([], [], (refl, refl))
cut_down_exists exact ends (ring ∷ rings) =
    let r = ends ring.path in
    let first = left_exists ring r.1 (last_is_round exact ring.path r.0 r.1 (λ long. ring.round) r.2) in
    let rest = cut_down_exists exact ends rings in (
      first.0 ++ rest.0,
      flat_map (round_cuts ring.name) r.0 ++ rest.1,
      (r.0, r.1, r.2, first.0, first.1, rest.0, rest.1, rest.2, refl, refl),
    )

-- ---- what is left

last_clear : (path : List Loc) (rounds : List (List Loc)) (last : List Loc) → AreRounds path rounds last → conflicts_itself last ≡ false
last_clear path [] last are = ap conflicts_itself are.1 ∙ are.0
last_clear path (first ∷ rounds) last are = last_clear (shortened path) rounds last are.2

-- a ring that is left comes from a ring of its name, and doesn't conflict with itself
pub record ComesFrom (rings : List CoastRing) (r : CoastRing) : Type 0 where
  pub ring : CoastRing
  pub member : Contains rings ring
  pub name : r.name ≡ ring.name
  pub clear : conflicts_itself r.path ≡ false

of_one : (ring : CoastRing) (rings : List CoastRing) (path : List Loc) (left : List CoastRing) → conflicts_itself path ≡ false → IsLeft ring path left → (r : CoastRing) → Contains left r → ComesFrom (ring ∷ rings) r
of_one ring rings path left clear (inl a) r c = absurd (no_member r (subst (λ (rs : List CoastRing). Contains rs r) a.1 c))
of_one ring rings path left clear (inr a) r c = ⊎_elim
    (λ (e : a.0 ≡ r). record { ring = ring; member = first_member ring rings; name = ap (λ (x : CoastRing). x.name) (sym e) ∙ a.1; clear = ap (λ (x : CoastRing). conflicts_itself x.path) (sym e) ∙ (ap conflicts_itself a.2 ∙ clear) })
    (λ (n : Contains [] r). absurd (no_member r n))
    (member_cases a.0 r [] (subst (λ (rs : List CoastRing). Contains rs r) a.3 c))

pub comes_from : (rings left : List CoastRing) (cuts : List Cut) → AreCutDown rings left cuts → (r : CoastRing) → Contains left r → ComesFrom rings r
comes_from [] left cuts are r c = absurd (no_member r (subst (λ (rs : List CoastRing). Contains rs r) are.0 c))
comes_from (ring ∷ rings) left cuts are r c = ⊎_elim
    (λ (d : Contains are.3 r). of_one ring rings are.1 are.3 (last_clear ring.path are.0 are.1 are.2) are.4 r d)
    (λ (d : Contains are.5 r). let f = comes_from rings are.5 are.6 are.7 r d in record { ring = f.ring; member = later_member ring f.ring rings f.member; name = f.name; clear = f.clear })
    (Contains-append_cases are.3 are.5 r (subst (λ (rs : List CoastRing). Contains rs r) are.8 c))

one_before : (ring : CoastRing) (path : List Loc) (left others : List CoastRing) → IsLeft ring path left → ((q : CoastRing) → Contains others q → int_cmp ring.name q.name ≡ Less) → NamesOfRingsRise others → NamesOfRingsRise (left ++ others)
one_before ring path left others (inl a) less up = subst (λ (rs : List CoastRing). NamesOfRingsRise (rs ++ others)) (sym a.1) up
one_before ring path left others (inr a) less up =
    subst (λ (rs : List CoastRing). NamesOfRingsRise (rs ++ others)) (sym a.3)
    (AllPairs-cons (λ x y. name_cmp x y ≡ Less) a.0 others (λ k d h. ap (λ n. int_cmp n (get_or others k d).name) a.1 ∙ less (get_or others k d) (Contains-get_or others k d h)) up)

pub names_still_rise : (rings left : List CoastRing) (cuts : List Cut) → AreCutDown rings left cuts → NamesOfRingsRise rings → NamesOfRingsRise left
names_still_rise [] left cuts are up = subst NamesOfRingsRise (sym are.0) up
names_still_rise (ring ∷ rings) left cuts are up =
    let rest = names_still_rise rings are.5 are.6 are.7 (λ i j d h l. up (suc i) (suc j) d (omega arith) (omega arith)) in
    let below : All (λ (q : CoastRing). int_cmp ring.name q.name ≡ Less) rings = λ k d h. up 0 (suc k) d (omega arith) (omega arith) in
    let less : (q : CoastRing) → Contains are.5 q → int_cmp ring.name q.name ≡ Less = λ q c.
    let f = comes_from rings are.5 are.6 are.7 q c in
    ap (int_cmp ring.name) f.name ∙ All-contains (λ (q : CoastRing). int_cmp ring.name q.name ≡ Less) rings f.ring below f.member in
    subst NamesOfRingsRise (sym are.8) (one_before ring are.1 are.3 are.5 are.4 less rest)

-- ---- a ring that doesn't conflict with itself

no_rounds : (path : List Loc) (rounds : List (List Loc)) (last : List Loc) → AreRounds path rounds last → conflicts_itself path ≡ false → (rounds ≡ []) × (last ≡ path)
no_rounds path [] last are clear = (refl, are.1)
no_rounds path (first ∷ rounds) last are clear = absurd (false≢true (sym clear ∙ are.0))

itself_left : (ring : CoastRing) (left : List CoastRing) → IsLeft ring ring.path left → left ≡ ring ∷ []
itself_left ring left is = left_one ring ring.path left (ring ∷ []) is (inr (ring, refl, refl, refl))

left_whole : (ring : CoastRing) (rounds : List (List Loc)) (last : List Loc) (left : List CoastRing) → AreRounds ring.path rounds last → IsLeft ring last left → conflicts_itself ring.path ≡ false → left ≡ ring ∷ []
left_whole ring rounds last left are is clear = itself_left ring left (subst (λ path. IsLeft ring path left) (no_rounds ring.path rounds last are clear).1 is)

-- is left as it is
pub stays : (rings left : List CoastRing) (cuts : List Cut) → AreCutDown rings left cuts → (ring : CoastRing) → Contains rings ring → conflicts_itself ring.path ≡ false → Contains left ring
stays [] left cuts are ring c clear = absurd (no_member ring c)
stays (r ∷ rs) left cuts are ring c clear = subst (λ (xs : List CoastRing). Contains xs ring) (sym are.8) (⊎_elim
    (λ (e : r ≡ ring).
    let whole : are.3 ≡ r ∷ [] = left_whole r are.0 are.1 are.3 are.2 are.4 (ap (λ (x : CoastRing). conflicts_itself x.path) e ∙ clear) in
    Contains-append_left are.3 are.5 ring (subst (λ (xs : List CoastRing). Contains xs ring) (sym whole) (subst (Contains (r ∷ [])) e (first_member r []))))
    (λ (d : Contains rs ring). Contains-append_right are.3 are.5 ring (stays rs are.5 are.6 are.7 ring d clear))
    (member_cases r ring rs c))

-- where no ring conflicts with itself, all are left as they are, and nothing is cut out
pub nothing_cut : (rings : List CoastRing) → ((ring : CoastRing) → Contains rings ring → conflicts_itself ring.path ≡ false) → AreCutDown rings rings []
nothing_cut [] clear = (refl, refl)
nothing_cut (ring ∷ rings) clear =
    let rest = nothing_cut rings (λ r c. clear r (later_member ring r rings c)) in
    let none : AreRounds ring.path [] ring.path = (clear ring (first_member ring rings), refl) in
    let is : IsLeft ring ring.path (ring ∷ []) = inr (ring, refl, refl, refl) in
    ([], ring.path, none, ring ∷ [], is, rings, [], rest, refl, refl)
