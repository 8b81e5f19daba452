-- Facts of two clauses put together, the segments of repeats, and the ends of segments counted.
use Rattle.std.proofs.Common.{◌≡◌, ◌++◌, ◌+◌, ◌∙◌, List, [], ◌∷◌, arith, cond, map, refl, ap, Result, Ok, Err}
use Rattle.std.specs.Prelude.{IfOk}
use Rattle.std.specs.Ordering.{is_eq}
use Rattle.std.proofs.lemmas.List.Sums.{sum_by-append}
use Rattle.osm_lattice.specs.declared.loc.Loc.{Loc}
use Rattle.osm_lattice.specs.declared.seg.Seg.{Seg}
use Rattle.osm_lattice.specs.Loc.{loc_cmp}
use Rattle.lists.specs.Rising.{count_of}
use Rattle.lists.proofs.ListsKit.{count-cons}
use Rattle.lists.specs.declared.tally.Tally.{Tally}
use Rattle.osm_segments.specs.Counts.{ends_of}
use Rattle.osm_segments.specs.Repeats.{repeat_of, segs_of}

pub IfOk-both : {X E : Type 0} (r : Result X E) (P Q S : X → Type 0) → ((x : X) → P x → Q x → S x) → IfOk r P → IfOk r Q → IfOk r S
IfOk-both (Ok x) P Q S f p q = f x p q
IfOk-both (Err e) P Q S f p q = tt

pub segs_of-map : (ts : List (Tally Seg)) → segs_of (map repeat_of ts) ≡ map (λ t. t.item) ts
segs_of-map [] = refl
segs_of-map (t ∷ ts) = ap (λ ss. t.item ∷ ss) (segs_of-map ts)

-- both ends of each segment, lesser and greater ones apart
by_ends : (p : Loc) (segs : List Seg) → count_of loc_cmp p (map (λ s. s.a) segs) + count_of loc_cmp p (map (λ s. s.b) segs) ≡ count_of loc_cmp p (ends_of segs)
by_ends p [] = refl
by_ends p (s ∷ ss) =
    let lesser = count-cons loc_cmp p s.a (map (λ t. t.a) ss) in
    let greater = count-cons loc_cmp p s.b (map (λ t. t.b) ss) in
    let first = count-cons loc_cmp p s.a (s.b ∷ ends_of ss) in
    let second = count-cons loc_cmp p s.b (ends_of ss) in
    let rest = by_ends p ss in
    omega arith

pub ends-counted : (p : Loc) (segs : List Seg) → count_of loc_cmp p (map (λ s. s.a) segs ++ map (λ s. s.b) segs) ≡ count_of loc_cmp p (ends_of segs)
ends-counted p segs = sum_by-append (λ q. cond (is_eq (loc_cmp q p)) 1 0) (map (λ s. s.a) segs) (map (λ s. s.b) segs) ∙ by_ends p segs
