-- Places found one after another.
use Rattle.std.proofs.Common.{Contains, List, ap, ap₂, false, get_or, inl, inr, length, subst, sym, take, ℕ, ℤ, ⊎_elim, ◌+◌, ◌<◌, ◌∙◌, ◌≡◌, ◌≤◌, ◌⊎◌}
use lib.Signed.{lt_z}
use Rattle.std.proofs.lemmas.Bool.{cases_lt}
use Rattle.std.proofs.lemmas.List.{take_more}
use Rattle.std.proofs.lemmas.List.Elements.{All-contains, All-contains_itself, All-weaker, Contains-push_cases}
use Rattle.osm_lattice.specs.declared.loc.Loc.{Loc}
use Rattle.area_locate.specs.declared.envelope.Envelope.{Envelope}
use Rattle.area_locate.specs.declared.stretch.Entry.{Entry}
use Rattle.area_locate.specs.declared.stretch.Stretch.{Stretch}
use Rattle.area_locate.specs.Index.{HasEntry, IsPointEntry, IsFromTo, IsStretch}
use Rattle.area_locate.specs.Within.{AddsWithin, IsPlaceWithin}
use Rattle.area_locate.proofs.WithinPoints.{within_sides}

module _ (envelope : Envelope) (points : List Loc) where
  adds_then : (first then both : ℕ → Type 0) (old mid new : List ℕ) → ((i : ℕ) → both i → first i ⊎ then i) → AddsWithin envelope points first old mid → AddsWithin envelope points then mid new → AddsWithin envelope points both old new
  adds_then first then both old mid new parts a b = record {
    kept = λ i h. b.kept i (a.kept i h);
    within = λ h. b.within (a.within h);
    whole = λ i h at. ⊎_elim (λ (f : first i). b.kept i (a.whole i f at)) (λ (t : then i). b.whole i t at) (parts i h);
  }

  pub adds_fewer : (among few : ℕ → Type 0) (old new : List ℕ) → ((i : ℕ) → few i → IsPlaceWithin envelope points i → among i) → AddsWithin envelope points among old new → AddsWithin envelope points few old new
  adds_fewer among few old new fewer a = record { kept = a.kept; within = a.within; whole = λ i h at. a.whole i (fewer i h at) at }

  -- those of one entry more
  pub adds_entry : (entries : List Entry) (k : ℕ) (d : Entry) (old mid new : List ℕ) → k < length entries → AddsWithin envelope points (HasEntry (take k entries)) old mid → AddsWithin envelope points (λ i. i ≡ (get_or entries k d).place) mid new →
      AddsWithin envelope points (HasEntry (take (k + 1) entries)) old new
  adds_entry entries k d old mid new l = adds_then (HasEntry (take k entries)) (λ i. i ≡ (get_or entries k d).place) (HasEntry (take (k + 1) entries)) old mid new parts
    where
      parts : (i : ℕ) → HasEntry (take (k + 1) entries) i → HasEntry (take k entries) i ⊎ (i ≡ (get_or entries k d).place)
      parts i has = ⊎_elim
          (λ (before : Contains (take k entries) has.0). inl (has.0, before, has.2))
          (λ (here : get_or entries k d ≡ has.0). inr (sym has.2 ∙ ap (λ (f : Entry). f.place) (sym here)))
          (Contains-push_cases (take k entries) (get_or entries k d) has.0 (subst (λ (es : List Entry). Contains es has.0) (take_more entries k d l) has.1))

  -- those of one stretch more
  pub adds_stretch : (from place end : ℕ) (old mid new : List ℕ) → AddsWithin envelope points (IsFromTo from place) old mid → AddsWithin envelope points (IsFromTo place end) mid new → AddsWithin envelope points (IsFromTo from end) old new
  adds_stretch from place end old mid new = adds_then (IsFromTo from place) (IsFromTo place end) (IsFromTo from end) old mid new (λ i h. ⊎_elim (λ (before : i < place). inl (h.0, before)) (λ (after : place ≤ i). inr (after, h.1)) (cases_lt i place))

  module _ (stretch : Stretch) (is : IsStretch points stretch) (between : List Entry) where
    pub entries_inside : ((e : Entry) → Contains between e → Contains stretch.by_x.items e) → (k : ℕ) (d : Entry) → k < length between → (get_or between k d).place < length points
    entries_inside of_all =
        All-weaker (Contains between) (λ (e : Entry). e.place < length points) (λ (e : Entry) h. (All-contains (IsPointEntry points) stretch.by_x.items e is.whole.right (of_all e h)).inside) between (All-contains_itself between)

    -- the entries between the sides have all that lie in the rectangle
    pub stretch_entries : (left right : ℤ) → left ≡ envelope.left → right ≡ envelope.right → ((e : Entry) → Contains stretch.by_x.items e → lt_z e.x left ≡ false → lt_z right e.x ≡ false → Contains between e) →
        (i : ℕ) → IsFromTo stretch.first stretch.end i → IsPlaceWithin envelope points i → HasEntry between i
    stretch_entries left right l r whole i h at =
        let has = is.whole.whole i h in let e = has.0 in
        let tells = All-contains (IsPointEntry points) stretch.by_x.items e is.whole.right has.1 in
        let sides = within_sides envelope points i at in let d = sides.0 in
        let here : e.x ≡ (get_or points i d).x = tells.x d ∙ ap (λ n. (get_or points n d).x) has.2 in
        (e, whole e has.1 (ap₂ lt_z here l ∙ sides.1) (ap₂ lt_z r here ∙ sides.2), has.2)
