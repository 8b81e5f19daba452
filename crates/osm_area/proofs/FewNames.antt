-- Names of which no two are the same: each once they are what they were, and none stands twice; and where none is counted twice, they are such.
use Rattle.std.proofs.Common.{Bool, Equal, List, [], Ordering, ap, arith, cond, count_by, false, filter, int_cmp, int_eq, is_eq, nat_le, not, refl, suc, sym, true, zero, ℕ, ℤ, ◌+◌, ◌||◌, ◌<◌, ◌∙◌, ◌∷◌, ◌≡◌, ◌≤◌}
use Rattle.std.specs.List.{list_any}
use Rattle.std.proofs.Math.Path.{fun_ext}
use Rattle.std.proofs.lemmas.Bool.{and_parts, or_parts}
use Rattle.std.proofs.lemmas.Cmp.{int_cmp_total, int_eq_equiv, tied_itself}
use Rattle.lists.proofs.ListsKit.{any-counted, count-cons, count_by-cons, int_eq-true, not-true-out}
use Rattle.lists.specs.Once.{each_once}
use Rattle.lists.specs.Rising.{count_of}
use Rattle.osm_area.specs.Names.{differ, has_name}

below-two : (n : ℕ) → n < 2 → nat_le 2 n ≡ false
below-two zero h = refl
below-two (suc zero) h = refl
below-two (suc (suc n)) h = absurd (omega arith)

-- those that aren't the name
kept : (name : ℤ) (names : List ℤ) → list_any (λ other. int_eq other name) names ≡ false → filter (λ other. not (int_eq name other)) names ≡ names
kept name [] none = refl
kept name (n ∷ names) none =
    let parts = or_parts (int_eq n name) (list_any (λ other. int_eq other name) names) none in
    rw (int_eq_equiv.symm name n ∙ parts.0) (ap (λ (ns : List ℤ). n ∷ ns) (kept name names parts.1))

pub once-same : (names : List ℤ) → differ names ≡ true → each_once int_eq names ≡ names
once-same [] apart = refl
once-same (n ∷ names) apart =
    let parts = and_parts (not (list_any (λ other. int_eq other n) names)) (differ names) apart in
    ap (λ (ns : List ℤ). n ∷ filter (λ other. not (int_eq n other)) ns) (once-same names parts.1)
    ∙ ap (λ (ns : List ℤ). n ∷ ns) (kept n names (not-true-out (list_any (λ other. int_eq other n) names) parts.0))

-- a name that isn't among others is counted nowhere
uncounted : (name : ℤ) (names : List ℤ) → list_any (λ other. int_eq other name) names ≡ false → count_by (int_eq name) names ≡ 0
uncounted name [] none = refl
uncounted name (n ∷ names) none =
    let parts = or_parts (int_eq n name) (list_any (λ other. int_eq other name) names) none in
    let other : int_eq name n ≡ false = int_eq_equiv.symm name n ∙ parts.0 in
    let all : count_by (int_eq name) (n ∷ names) ≡ 0 + count_by (int_eq name) names = count_by-cons (int_eq name) n names ∙ rw other refl in
    omega (arith, uncounted name names parts.1, all)

counted-once : (name : ℤ) (names : List ℤ) → differ names ≡ true → count_by (int_eq name) names < 2
counted-once name [] apart = omega arith
counted-once name (n ∷ names) apart =
    let parts = and_parts (not (list_any (λ other. int_eq other n) names)) (differ names) apart in
    by (not-true-out (list_any (λ other. int_eq other n) names) parts.0) (counted-once name names parts.1) (int_eq name n) refl
  where
    by : list_any (λ other. int_eq other n) names ≡ false → count_by (int_eq name) names < 2 → (b : Bool) → int_eq name n ≡ b → count_by (int_eq name) (n ∷ names) < 2
    by absent once true is =
        let one : name ≡ n = int_eq-true name n is in
        let none : count_by (int_eq n) names ≡ 0 = uncounted n names absent in
        let rest : count_by (int_eq name) names ≡ 0 = ap (λ (m : ℤ). count_by (int_eq m) names) one ∙ none in
        let all : count_by (int_eq name) (n ∷ names) ≡ 1 + count_by (int_eq name) names = count_by-cons (int_eq name) n names ∙ rw is refl in
        omega (arith, rest, all)
    by absent once false other =
        let all : count_by (int_eq name) (n ∷ names) ≡ 0 + count_by (int_eq name) names = count_by-cons (int_eq name) n names ∙ rw other refl in
        omega (arith, once, all)

none-counted : (named ways : List ℤ) → ((name : ℤ) → count_by (int_eq name) named < 2) → filter (λ way. nat_le 2 (count_by (int_eq way) named)) ways ≡ []
none-counted named [] once = refl
none-counted named (w ∷ ways) once = rw (below-two (count_by (int_eq w) named) (once w)) (none-counted named ways once)

pub none-twice : (named ways : List ℤ) → differ named ≡ true → filter (λ way. nat_le 2 (count_by (int_eq way) named)) ways ≡ []
none-twice named ways apart = none-counted named ways (λ (name : ℤ). counted-once name named apart)

-- ---- told by counts

-- a name that is counted nowhere isn't among others
unlisted : (name : ℤ) (names : List ℤ) → count_of int_cmp name names ≡ 0 → has_name names name ≡ false
unlisted name names none = any-counted (λ other. int_eq other name) names ∙ ap (nat_le 1) none

-- names of which none is counted twice
pub once-differ : (names : List ℤ) → ((name : ℤ) → count_of int_cmp name names ≤ 1) → differ names ≡ true
once-differ [] once = refl
once-differ (n ∷ names) once = rw (unlisted n names none) (once-differ names later)
  where
    all : (name : ℤ) → count_of int_cmp name (n ∷ names) ≡ cond {A = ℕ} (is_eq (int_cmp n name)) 1 0 + count_of int_cmp name names
    all name = count-cons int_cmp name n names

    one : cond {A = ℕ} (is_eq (int_cmp n n)) 1 0 ≡ 1
    one = ap (λ (o : Ordering). cond {A = ℕ} (is_eq o) 1 0) (tied_itself int_cmp_total n)

    none : count_of int_cmp n names ≡ 0
    none = omega (arith, one, all n, once n)

    later : (name : ℤ) → count_of int_cmp name names ≤ 1
    later name = omega (arith, all name, once name)

-- ---- names that are counted at least twice

once-or-none : (b : Bool) (n : ℕ) → n ≡ cond b 1 0 → nat_le 1 n ≡ b
once-or-none true n e = rw e refl
once-or-none false n e = rw e refl

-- they are those of a list that has each of them once and no other
pub twice_among : (named twice : List ℤ) (name : ℤ) → count_of int_cmp name twice ≡ cond (nat_le 2 (count_of int_cmp name named)) 1 0 → has_name twice name ≡ nat_le 2 (count_by (int_eq name) named)
twice_among named twice name once =
    any-counted (λ other. int_eq other name) twice
    ∙ once-or-none (nat_le 2 (count_of int_cmp name named)) (count_of int_cmp name twice) once
    ∙ ap (λ (f : ℤ → Bool). nat_le 2 (count_by f named)) (fun_ext (λ other. int_eq_equiv.symm other name))
