-- Rings outrank one another: a strict order, in which two rings of different names aren't level.
use Rattle.std.proofs.Common.{◌≡◌, ℕ, ◌<◌, Bool, true, false, cond, ◌&&◌, ◌||◌, List, length, Contains, get_or, refl, sym, ap, ◌∙◌, ⊎_elim}
use Rattle.std.specs.declared.cmp.Ordering.{Ordering}
use Rattle.std.specs.declared.cmp.Ordering.TheVariants.{Less, Equal, Greater}
use Rattle.std.specs.Cmp.{IsTotalOrder}
use Rattle.std.specs.Ordering.{flip_args, int_cmp, is_lt, nat_cmp, on, ordering_reverse, ordering_then, then_cmp}
use Rattle.std.specs.Prelude.{int_lt, nat_eq, nat_lt}
use Rattle.std.proofs.lemmas.Bool.{cases_order, false≢true}
use Rattle.std.proofs.lemmas.Cmp.{back_total, int_cmp_total, nat_cmp_total, nat_eq_equiv, on_total, then_total, tied_back, tied_itself}
use Rattle.std.proofs.lemmas.List.{get_or_default}
pub use Rattle.lists.proofs.ListsKit.{less_from}
use Rattle.coast_rings.specs.declared.ring.CoastRing.{CoastRing}
use Rattle.coast_sides.specs.Choice.{outranks}
use Rattle.coast_sides.specs.CutSorting.{NamesOfRingsRise}

abbrev pub long_cmp : CoastRing → CoastRing → Ordering
long_cmp = on (λ (r : CoastRing). length r.path) (flip_args nat_cmp)

abbrev pub name_cmp : CoastRing → CoastRing → Ordering
name_cmp = on (λ (r : CoastRing). r.name) int_cmp

-- the order of rings, the highest first
abbrev pub ring_cmp : CoastRing → CoastRing → Ordering
ring_cmp = then_cmp long_cmp name_cmp

pub ring_cmp_total : IsTotalOrder ring_cmp
ring_cmp_total = then_total (on_total (λ (r : CoastRing). length r.path) (back_total nat_cmp_total)) (on_total (λ (r : CoastRing). r.name) int_cmp_total)

tests_agree : (p q r s : Bool) → (p || (q && r)) ≡ is_lt (ordering_then (cond p Less (cond q Equal Greater)) (cond r Less (cond s Greater Equal)))
tests_agree true q r s = refl
tests_agree false false r s = refl
tests_agree false true true s = refl
tests_agree false true false true = refl
tests_agree false true false false = refl

outranks_is : (a b : CoastRing) → outranks a b ≡ is_lt (ring_cmp a b)
outranks_is a b =
    let la = length a.path in
    let lb = length b.path in
    ap (λ t. nat_lt lb la || (t && int_lt a.name b.name)) (nat_eq_equiv.symm la lb) ∙ tests_agree (nat_lt lb la) (nat_eq lb la) (int_lt a.name b.name) (int_lt b.name a.name)

pub outranks_less : (a b : CoastRing) → outranks a b ≡ true → ring_cmp a b ≡ Less
outranks_less a b h = less_from (ring_cmp a b) (sym (outranks_is a b) ∙ h)

pub less_outranks : (a b : CoastRing) → ring_cmp a b ≡ Less → outranks a b ≡ true
less_outranks a b h = outranks_is a b ∙ ap is_lt h

pub not_itself : (a : CoastRing) → outranks a a ≡ false
not_itself a = outranks_is a a ∙ ap is_lt (tied_itself ring_cmp_total a)

pub outranks_trans : (a b c : CoastRing) → outranks a b ≡ true → outranks b c ≡ true → outranks a c ≡ true
outranks_trans a b c h k = less_outranks a c (ring_cmp_total.trans a b c (outranks_less a b h) (outranks_less b c k))

pub not_both : (a b : CoastRing) → outranks a b ≡ true → outranks b a ≡ true → ⊥
not_both a b h k = false≢true (sym (not_itself a) ∙ outranks_trans a b a h k)

pub then_tied : (o p : Ordering) → ordering_then o p ≡ Equal → p ≡ Equal
then_tied Less p e = absurd (cc e)
then_tied Equal p e = e
then_tied Greater p e = absurd (cc e)

-- level rings have one name
pub level_names : (a b : CoastRing) → ring_cmp a b ≡ Equal → name_cmp a b ≡ Equal
level_names a b e = then_tied (long_cmp a b) (name_cmp a b) e

-- of two rings of different names one outranks the other
pub one_outranks : (a b : CoastRing) → (name_cmp a b ≡ Equal → ⊥) → (outranks b a ≡ true → ⊥) → outranks a b ≡ true
one_outranks a b differ below = by (ring_cmp a b) refl
  where
    by : (o : Ordering) → ring_cmp a b ≡ o → outranks a b ≡ true
    by Less e = less_outranks a b e
    by Equal e = absurd (differ (level_names a b e))
    by Greater e = absurd (below (less_outranks b a (ring_cmp_total.antisymm b a ∙ ap ordering_reverse e)))

-- where names rise, the ring at a lesser place has the lesser name
pub name_at_less : (rings : List CoastRing) → NamesOfRingsRise rings → (a b : CoastRing) (i j : ℕ) → i < j → j < length rings → get_or rings i a ≡ a → get_or rings j b ≡ b → name_cmp a b ≡ Less
name_at_less rings up a b i j less l ea eb =
    ap (λ x. name_cmp x b) (sym ea) ∙ (ap (name_cmp (get_or rings i a)) (sym (get_or_default rings j a b l ∙ eb)) ∙ up i j a less l)

-- and two rings of one name are one
pub one_by_name : (rings : List CoastRing) → NamesOfRingsRise rings → (a b : CoastRing) → Contains rings a → Contains rings b → name_cmp a b ≡ Equal → a ≡ b
one_by_name rings up a b (i, h, ea) (j, l, eb) e = ⊎_elim
    (λ (same : i ≡ j). sym ea ∙ (ap (λ k. get_or rings k a) same ∙ (get_or_default rings j a b l ∙ eb)))
    (λ apart. ⊎_elim
    (λ (less : i < j). let c : Equal ≡ Less = sym e ∙ name_at_less rings up a b i j less l ea eb in absurd (cc))
    (λ (less : j < i). let c : Equal ≡ Less = sym (tied_back (on_total (λ (r : CoastRing). r.name) int_cmp_total) a b e) ∙ name_at_less rings up b a j i less h eb ea in absurd (cc))
    apart)
    (cases_order i j)
