-- What is known of the foes of segments: one more, or those of a segment taken out.
use Rattle.std.proofs.Common.{◌≡◌, ℕ, ◌+◌, ◌<◌, Bool, true, false, cond, not, ◌&&◌, ◌||◌, List, [], ◌∷◌, ◌++◌, Option, Some, None, Vec, length, take, get_or, refl, sym, ap, ◌∙◌}
use Rattle.std.specs.declared.alloc.Global.{Global}
use Rattle.std.specs.List.{list_any}
use Rattle.std.specs.Option.{unwrap_or}
use Rattle.std.proofs.Math.Bool.{or_assoc}
use Rattle.std.proofs.lemmas.List.Folds.{list_any-append}
use Rattle.osm_lattice.specs.declared.seg.Seg.{Seg}
use Rattle.osm_lattice.specs.OrderLaws.{SegmentOrderTellsApart}
use Rattle.osm_segments.specs.declared.pairs.Pair.{Pair}
use Rattle.coast_sides.specs.ChoiceSteps.{are_paired, is_same_segment, segments_in}
use Rattle.coast_sides.proofs.Conflicts.{is_eq_same}
use Rattle.coast_sides.proofs.ListSteps.{any_step, or_false}

-- t is in the list
abbrev pub known_in : Option (Vec Seg Global) → Seg → Bool
known_in o t = list_any (λ u. is_same_segment u t) (segments_in o)

pub items_unwrapped : (o : Option (Vec Seg Global)) (d : Vec Seg Global) → d.items ≡ [] → (unwrap_or o d).items ≡ segments_in o
items_unwrapped None d e = e
items_unwrapped (Some v) d e = refl

-- one more foe of a segment
pub foe_added : SegmentOrderTellsApart → (seg foe : Seg) (old mid new : Seg → Option (Vec Seg Global)) (v w : Vec Seg Global) → v.items ≡ segments_in (old seg) → w.items ≡ v.items ++ foe ∷ []
    → ((s : Seg) → mid s ≡ cond (is_same_segment seg s) None (old s)) → ((s : Seg) → new s ≡ cond (is_same_segment seg s) (Some w) (mid s))
    → (s t : Seg) → known_in (new s) t ≡ (known_in (old s) t || (is_same_segment seg s && is_same_segment foe t))
foe_added exact seg foe old mid new v w held more out back s t = by (is_same_segment seg s) refl
  where
    items : seg ≡ s → w.items ≡ segments_in (old s) ++ foe ∷ []
    items same = more ∙ ap (λ us. us ++ foe ∷ []) (held ∙ ap (λ u. segments_in (old u)) same)

    by : (b : Bool) → is_same_segment seg s ≡ b → known_in (new s) t ≡ (known_in (old s) t || (b && is_same_segment foe t))
    by true e =
        ap (λ o. known_in o t) (back s ∙ ap (λ b. cond b (Some w) (mid s)) e)
        ∙ (ap (list_any (λ u. is_same_segment u t)) (items (is_eq_same exact seg s e))
        ∙ (list_any-append (λ u. is_same_segment u t) (segments_in (old s)) (foe ∷ []) ∙ ap (λ b. known_in (old s) t || b) (or_false (is_same_segment foe t))))
    by false e =
        ap (λ o. known_in o t) (back s ∙ (ap (λ b. cond b (Some w) (mid s)) e ∙ (out s ∙ ap (λ b. cond b None (old s)) e)))
        ∙ sym (or_false (known_in (old s) t))

-- both segments of one more pair
pub pair_added : (s t : Seg) (pairs : List Pair) (i : ℕ) (p : Pair) (old mid new : Bool) → i < length pairs → p ≡ get_or pairs i p → old ≡ list_any (are_paired s t) (take i pairs)
    → mid ≡ (old || (is_same_segment p.first s && is_same_segment p.second t)) → new ≡ (mid || (is_same_segment p.second s && is_same_segment p.first t)) → new ≡ list_any (are_paired s t) (take (i + 1) pairs)
pair_added s t pairs i p old mid new h is inv one two =
    any_step (are_paired s t) pairs i p old new h is inv (two ∙ (ap (λ b. b || (is_same_segment p.second s && is_same_segment p.first t)) one ∙ grouped old))
  where
    grouped : (b : Bool) → ((b || (is_same_segment p.first s && is_same_segment p.second t)) || (is_same_segment p.second s && is_same_segment p.first t)) ≡ (b || are_paired s t p)
    grouped true = refl
    grouped false = refl

put_in : (b old : Bool) → cond b true old ≡ (old || b)
put_in true true = refl
put_in true false = refl
put_in false true = refl
put_in false false = refl

-- one more segment in a set
pub one_added : (s : Seg) (first : Bool) (segs : List Seg) (i : ℕ) (seg : Seg) (old new : Bool) → i < length segs → seg ≡ get_or segs i seg → old ≡ (first || list_any (λ t. is_same_segment t s) (take i segs)) → new ≡ cond (is_same_segment seg s) true old
    → new ≡ (first || list_any (λ t. is_same_segment t s) (take (i + 1) segs))
one_added s first segs i seg old new h is inv after =
    let test : Seg → Bool = λ t. is_same_segment t s in
    after
    ∙ (put_in (is_same_segment seg s) old
    ∙ (ap (λ b. b || is_same_segment seg s) inv
    ∙ (or_assoc first (list_any test (take i segs)) (is_same_segment seg s)
    ∙ ap (λ b. first || b) (any_step test segs i seg (list_any test (take i segs)) (list_any test (take i segs) || is_same_segment seg s) h is refl refl))))

-- the foes of a segment taken out
pub foes_out : (o : Option (Vec Seg Global)) (b : Bool) (t : Seg) → known_in (cond b None o) t ≡ (not b && known_in o t)
foes_out o true t = refl
foes_out o false t = refl
