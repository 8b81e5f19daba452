-- Envelopes that grow.
use Rattle.std.proofs.Common.{List, ℕ, ℤ, ◌+◌, ◌<◌, ◌≤◌, ◌≤ℤ◌, ◌≡◌, sym, subst, arith, get_or, length, take, All}
use Rattle.std.proofs.lemmas.Int.{ints}
use Rattle.std.proofs.lemmas.List.{take_all}
use Rattle.std.proofs.lemmas.List.Elements.{All-push}
use Rattle.lists.proofs.ListsKit.{taken_more}
use Rattle.osm_lattice.specs.declared.loc.Loc.{Loc}
use Rattle.osm_lattice.specs.declared.seg.Seg.{Seg}
use Rattle.area_locate.specs.declared.envelope.Envelope.{Envelope}
use Rattle.area_locate.specs.Envelopes.{Encloses, IsInEnvelope}

pub at_least : {held least other than : ℤ} → held ≡ least → other ≡ than → least ≤ℤ other → held ≤ℤ than
at_least is so l = rw is (rw so at l)

pub at_most : {held most other than : ℤ} → held ≡ most → other ≡ than → other ≤ℤ most → than ≤ℤ held
at_most is so l = rw is (rw so at l)

pub through : {a b c : ℤ} → a ≤ℤ b → b ≤ℤ c → a ≤ℤ c
through h k = omega (arith, ints)

abbrev Has : Envelope → Seg → Type 0
Has e s = IsInEnvelope e s.a × IsInEnvelope e s.b

pub one_more_within : (old mid new : Envelope) (sides : List Seg) (k : ℕ) (s : Seg) → k < length sides → s ≡ get_or sides k s →
    IsInEnvelope mid s.a → ((q : Loc) → IsInEnvelope old q → IsInEnvelope mid q) → IsInEnvelope new s.b → ((q : Loc) → IsInEnvelope mid q → IsInEnvelope new q) →
    Encloses old (take k sides) → Encloses new (take (k + 1) sides)
one_more_within old mid new sides k s l at first grown second whole all =
    subst (All (Has new)) (sym (taken_more sides k s l at))
    (All-push (Has new) (take k sides) s (λ j d h. let was = all j d h in (whole _ (grown _ was.0), whole _ (grown _ was.1))) (whole s.a first, second))

pub all_taken : (e : Envelope) (sides : List Seg) (k : ℕ) → length sides ≤ k → Encloses e (take k sides) → Encloses e sides
all_taken e sides k end all = subst (All (Has e)) (take_all k sides end) all
