-- Near pairs, each once.
use Rattle.std.proofs.Common.{◌≡◌, ℕ, zero, suc, ◌+◌, ◌<◌, Bool, true, false, cond, if◌then◌else◌, min, nat_lt, ◌*◌, List, [], ◌∷◌, length, get_or, All, Contains, Option, Some, None, refl, sym, ap, ◌∙◌, arith}
use Rattle.std.specs.declared.cmp.Ordering.{Ordering}
use Rattle.std.specs.declared.cmp.Ordering.TheVariants.{Less, Equal, Greater}
use Rattle.std.specs.Ordering.{is_eq, nat_cmp, ordering_then}
use Rattle.std.specs.List.{enumerate_from, filter_map}
use Rattle.std.proofs.lemmas.Bool.{false≢true}
use Rattle.std.proofs.lemmas.Cmp.{tied_itself, ranked}
use Rattle.std.proofs.lemmas.List.Sums.{sum_by-cons}
use Rattle.std.proofs.lemmas.Option.{same_Some}
use Rattle.lists.specs.Rising.{count_of}
use Rattle.coast_join.specs.declared.chain.Chain.{Chain}
use Rattle.coast_join.specs.declared.gap.Gap.{Gap}
use Rattle.coast_join.specs.declared.closing.OpenEnds.{OpenEnds}
use Rattle.coast_join.specs.Closings.{gap_between, is_open, near_pairs, open_ends, open_ends_at, square_between}
use Rattle.coast_rings.specs.Line.{first_location, last_location}
use Rattle.coast_join.specs.GapSteps.{gap_cmp}
use Rattle.coast_join.specs.Taken.{AreTaken}
use Rattle.coast_join.proofs.NearestFirst.{gap_cmp_total}
use Rattle.coast_join.proofs.Stepping.{All-enumerated, All-filter_map, All-flat_map}
use Rattle.lists.proofs.ListsKit.{min_some, some_min}

-- ---- a pair stands in a list where it counts

pub same_gap : (a b : Gap) → a.square ≡ b.square → a.from_chain ≡ b.from_chain → a.to_chain ≡ b.to_chain → a ≡ b
same_gap a b s f t =
    let one : a ≡ record { square = b.square; from_chain = a.from_chain; to_chain = a.to_chain } = ap (λ n. record { square = n; from_chain = a.from_chain; to_chain = a.to_chain }) s in
    let two : ◌≡◌ {A = Gap} (record { square = b.square; from_chain = a.from_chain; to_chain = a.to_chain }) (record { square = b.square; from_chain = b.from_chain; to_chain = a.to_chain }) = ap (λ n. record { square = b.square; from_chain = n; to_chain = a.to_chain }) f in
    let three : ◌≡◌ {A = Gap} (record { square = b.square; from_chain = b.from_chain; to_chain = a.to_chain }) b = ap (λ n. record { square = b.square; from_chain = b.from_chain; to_chain = n }) t in
    one ∙ (two ∙ three)

numbers : (m n : ℕ) (o rest : Ordering) → nat_cmp m n ≡ o → is_eq (ordering_then o rest) ≡ true → (m ≡ n) × (is_eq rest ≡ true)
numbers m n Less rest e t = absurd (false≢true t)
numbers m n Equal rest e t = (ranked m n Equal (sym e), t)
numbers m n Greater rest e t = absurd (false≢true t)

alone : (m n : ℕ) (o : Ordering) → nat_cmp m n ≡ o → is_eq o ≡ true → m ≡ n
alone m n Less e t = absurd (false≢true t)
alone m n Equal e t = ranked m n Equal (sym e)
alone m n Greater e t = absurd (false≢true t)

pub tied_gaps : (a b : Gap) → is_eq (gap_cmp a b) ≡ true → a ≡ b
tied_gaps a b t =
    let s = numbers a.square b.square (nat_cmp a.square b.square) (ordering_then (nat_cmp a.from_chain b.from_chain) (nat_cmp a.to_chain b.to_chain)) refl t in
    let f = numbers a.from_chain b.from_chain (nat_cmp a.from_chain b.from_chain) (nat_cmp a.to_chain b.to_chain) refl s.1 in
    same_gap a b s.0 f.0 (alone a.to_chain b.to_chain (nat_cmp a.to_chain b.to_chain) refl f.1)

count-cons : (g x : Gap) (xs : List Gap) → count_of gap_cmp g (x ∷ xs) ≡ cond {A = ℕ} (is_eq (gap_cmp x g)) 1 0 + count_of gap_cmp g xs
count-cons g x xs = sum_by-cons (λ y. cond {A = ℕ} (is_eq (gap_cmp y g)) 1 0) x xs

stands : (g : Gap) (xs : List Gap) → 0 < count_of gap_cmp g xs → Contains xs g
stands g [] h = absurd (omega arith)
stands g (x ∷ xs) h = by (is_eq (gap_cmp x g)) refl (stands g xs)
  where
    by : (b : Bool) → is_eq (gap_cmp x g) ≡ b → (0 < count_of gap_cmp g xs → Contains xs g) → Contains (x ∷ xs) g
    by true e later = (0, omega arith, tied_gaps x g e)
    by false e later =
        let none : cond {A = ℕ} (is_eq (gap_cmp x g)) 1 0 ≡ 0 = ap (λ b. cond {A = ℕ} b 1 0) e in
        let all = count-cons g x xs in
        let r = later (omega arith) in
        (suc r.0, (let l = r.1 in omega arith), r.2)

counted : (g : Gap) (xs : List Gap) (k : ℕ) → k < length xs → get_or xs k g ≡ g → 0 < count_of gap_cmp g xs
counted g [] k h e = absurd (omega arith)
counted g (x ∷ xs) zero h e =
    let one : cond {A = ℕ} (is_eq (gap_cmp x g)) 1 0 ≡ 1 = ap (λ (y : Gap). cond {A = ℕ} (is_eq (gap_cmp y g)) 1 0) e ∙ ap (λ o. cond {A = ℕ} (is_eq o) 1 0) (tied_itself gap_cmp_total g) in
    let all = count-cons g x xs in
    omega arith
counted g (x ∷ xs) (suc k) h e = let r = counted g xs k (omega arith) e in let all = count-cons g x xs in omega arith

module _ (ps ds : List Gap) (once : (g : Gap) → count_of gap_cmp g ds ≡ min 1 (count_of gap_cmp g ps)) where
  pub once_in : (g : Gap) → Contains ds g → Contains ps g
  once_in g (k, h, e) = stands g ps (min_some _ _ (once g) (counted g ds k h e))

  pub once_out : (g : Gap) → Contains ps g → Contains ds g
  once_out g (k, h, e) = stands g ds (some_min _ _ (once g) (counted g ps k h e))

  pub taken_once : (taken : List Gap) → AreTaken gap_cmp ds taken → AreTaken gap_cmp ps taken
  taken_once taken are = record {
    rising = are.rising;
    exact = λ g. ((λ c. let w = (are.exact g).0 c in (once_in g w.0, w.1)), (λ p. (are.exact g).1 (once_out g p.0, p.1)));
  }

-- ---- which chains near pairs name

pub gap_names : (limit : ℕ) (f t : OpenEnds) (g : Gap) → gap_between limit f t ≡ Some g → (g.from_chain ≡ f.chain) × (g.to_chain ≡ t.chain)
unfolding gap_between
gap_names limit f t g e = by (nat_lt (square_between f.end t.start) (limit * limit)) e
  where
    by : (b : Bool) → ◌≡◌ {A = Option Gap} (if b then Some (record { square = square_between f.end t.start; from_chain = f.chain; to_chain = t.chain }) else None) (Some g) → (g.from_chain ≡ f.chain) × (g.to_chain ≡ t.chain)
    by true s = let is : ◌≡◌ {A = Gap} (record { square = square_between f.end t.start; from_chain = f.chain; to_chain = t.chain }) g = same_Some _ _ s in (sym (ap (λ (x : Gap). x.from_chain) is), sym (ap (λ (x : Gap). x.to_chain) is))
    by false s = absurd (cc)

pub ends_name : (place : ℕ) (c : Chain) (e : OpenEnds) → open_ends_at place c ≡ Some e → e.chain ≡ place
ends_name place c e s = by (is_open c) s
  where
    by : (b : Bool) → ◌≡◌ {A = Option OpenEnds} (if b then Some (record { chain = place; start = first_location c.path; end = last_location c.path }) else None) (Some e) → e.chain ≡ place
    by true t = let is : ◌≡◌ {A = OpenEnds} (record { chain = place; start = first_location c.path; end = last_location c.path }) e = same_Some _ _ t in sym (ap (λ (x : OpenEnds). x.chain) is)
    by false t = absurd (cc)

pub ends_below : (chains : List Chain) → All (λ (e : OpenEnds). e.chain < length chains) (open_ends chains)
ends_below chains = All-filter_map (λ (e : OpenEnds). e.chain < length chains) (λ (p : ℕ × Chain). open_ends_at p.0 p.1) (enumerate_from 0 chains)
    (All-enumerated (λ (p : ℕ × Chain). (e : OpenEnds) → open_ends_at p.0 p.1 ≡ Some e → e.chain < length chains) 0 chains (λ k c l e s. let is = ends_name (0 + k) c e s in omega arith))

pub pairs_below : (n limit : ℕ) (ends : List OpenEnds) → All (λ (e : OpenEnds). e.chain < n) ends → All (λ (g : Gap). (g.from_chain < n) × (g.to_chain < n)) (near_pairs limit ends)
pairs_below n limit ends below = All-flat_map (λ (g : Gap). (g.from_chain < n) × (g.to_chain < n)) (λ f. filter_map (gap_between limit f) ends) ends (λ k d h.
    All-filter_map (λ (g : Gap). (g.from_chain < n) × (g.to_chain < n)) (gap_between limit (get_or ends k d)) ends (λ j e l g s.
    let is = gap_names limit (get_or ends k d) (get_or ends j e) g s in
    let a = below k d h in
    let b = below j e l in
    ((let x = is.0 in omega arith), (let y = is.1 in omega arith))))
