use Rattle.std.proofs.Common.{Contains, ap, arith, false, get_or, length, subst, sym, true, ⊎_elim, ◌++◌, ◌<◌, ◌∙◌, ◌∷◌, [], ◌≡◌, ◌≢◌}
use Rattle.std.proofs.lemmas.List.{get_or_default}
use Rattle.std.specs.List.{list_any}
use Rattle.std.specs.Ordering.{is_eq}
use Rattle.std.proofs.lemmas.Bool.{cases_eq}
use Rattle.std.proofs.lemmas.List.Elements.{Contains-append_left}
use Rattle.osm_lattice.specs.Seg.{seg_cmp}
use Rattle.osm_segments.proofs.FoundPairs.{any_there}
use Rattle.osm_segments.proofs.SettledPairs.{last_in}
use Rattle.osm_segments.proofs.sweep.trying.places_among.Goals as goal
use Rattle.osm_segments.proofs.sweep.trying.places_among.Goals.{then-is_among+in_ok-push, else-is_among}

pub loop-i-preserved : goal.loop-i-preserved
loop-i-preserved c k d l there =
    let segs = c.args.segs.now in let aside = c.args.aside.now in let i = c.loop-i.i in let few = c.loop-i.few.items in let s = c.index-segs-i.result in
    let inside : i < length segs = (let h = c.requires.count in omega (arith, h)) in
    elim c.if-is_among.branch [
      | then-is_among+in_ok-push w ↦
          let more : c.if-is_among.few.items ≡ few ++ i ∷ [] = ap (λ v. v.items) w.few-is ∙ w.in_ok-push.ensures.items in
          subst (λ xs. Contains xs k) (sym more)
          (⊎_elim
          (λ (e : k ≡ i). subst (Contains (few ++ i ∷ [])) (sym e) (last_in few i))
          (λ (n : k ≢ i). Contains-append_left few (i ∷ []) k (c.loop-i.invariant k d (omega (arith, n)) there))
          (cases_eq k i))
      | else-is_among w ↦
          let same : c.if-is_among.few.items ≡ few = ap (λ v. v.items) w.few-is in
          subst (λ xs. Contains xs k) (sym same)
          (⊎_elim
          (λ (e : k ≡ i).
          let at : get_or segs k d ≡ s = ap (λ m. get_or segs m d) e ∙ get_or_default segs i d s inside ∙ sym c.index-segs-i.is in
          let any : list_any (λ other. is_eq (seg_cmp other s)) aside ≡ true = any_there s aside (subst (Contains aside) at there) in
          let none : c.is_among.result ≡ false = w.if-is_among.false in
          let told = c.is_among.ensures in absurd (cc (sym any ∙ sym told ∙ none)))
          (λ (n : k ≢ i). c.loop-i.invariant k d (omega (arith, n)) there)
          (cases_eq k i))
    ]

pub returns : goal.returns
returns c i d l there = c.loop-i.invariant i d (omega arith) there
