-- Segments that are blocked: those that conflict with a segment of a kept ring.
use Rattle.std.proofs.Common.{◌≡◌, ℕ, ◌+◌, ◌<◌, Bool, true, false, not, ◌&&◌, ◌||◌, if◌then◌else◌, List, [], ◌∷◌, ◌++◌, Contains, length, take, get_or, refl, sym, ap, subst, ◌∙◌, ⊎_elim}
use Rattle.std.specs.Prelude.{is_some}
use Rattle.std.specs.List.{list_any}
use Rattle.std.proofs.lemmas.Bool.{and_parts, false≢true, or_cases, or_left}
use Rattle.std.proofs.lemmas.List.{append_assoc}
use Rattle.std.proofs.lemmas.List.Folds.{list_any-append}
use Rattle.osm_lattice.specs.declared.seg.Seg.{Seg}
use Rattle.osm_lattice.specs.Conflict.{conflict_of}
use Rattle.osm_lattice.specs.ConflictLaws.{ConflictIsSymmetric}
use Rattle.osm_lattice.specs.OrderLaws.{SegmentOrderTellsApart}
use Rattle.osm_segments.specs.declared.pairs.Pair.{Pair}
use Rattle.coast_sides.specs.ChoiceSteps.{AreBlocked, are_paired, is_same_segment}
use Rattle.osm_segments.specs.Pairs.{conflicts_of}
use Rattle.coast_sides.specs.Sorting.{AreConflicts, conflicts_with}
use Rattle.coast_sides.proofs.Conflicts.{is_eq_same, once_stands, pair_made, pair_passes, pair_stands}
use Rattle.coast_sides.proofs.ListSteps.{taken_more}
use Rattle.coast_sides.proofs.SomeMember.{any_from, some_passes}

module _ (exact : SegmentOrderTellsApart) (symmetric : ConflictIsSymmetric) where
  -- ---- one more segment of a kept ring

  either_found : (b k c : Bool) → (k ≡ true → c ≡ true) → (c ≡ true → (b || k) ≡ true) → (b || k) ≡ (b || (c || false))
  either_found true k c there back = refl
  either_found false k true there back = back refl
  either_found false true false there back = absurd (false≢true (there refl))
  either_found false false false there back = refl

  conflict_turned : (s t : Seg) → is_some (conflict_of s t) ≡ is_some (conflict_of t s)
  conflict_turned s t = ap is_some (symmetric s t)

  pub one_blocked : (segs held : List Seg) (known known_then : Seg → Seg → Bool) (blocked blocked_then : Seg → Bool) (s : Seg) → Contains segs s → AreBlocked segs held known blocked
      → ((t : Seg) → blocked_then t ≡ (blocked t || known s t)) → ((r t : Seg) → known_then r t ≡ (not (is_same_segment s r) && known r t)) → AreBlocked segs (held ++ s ∷ []) known_then blocked_then
  one_blocked segs held known known_then blocked blocked_then s here are more fewer = record { found = found; left = left; right = right }
    where
      found : (t : Seg) → Contains segs t → blocked_then t ≡ conflicts_with (held ++ s ∷ []) t
      found t c =
          more t
          ∙ (either_found (blocked t) (known s t) (is_some (conflict_of t s)) (λ k. conflict_turned t s ∙ are.right s t k) (λ e. are.left s t here c (conflict_turned s t ∙ e))
          ∙ (ap (λ b. b || (is_some (conflict_of t s) || false)) (are.found t c)
          ∙ sym (list_any-append (λ u. is_some (conflict_of t u)) held (s ∷ []))))

      still : (r t : Seg) (b k i : Bool) → blocked t ≡ b → known r t ≡ k → is_same_segment s r ≡ i → (b || k) ≡ true → ((b || known s t) || (not i && k)) ≡ true
      still r t true k i eb ek ei h = refl
      still r t false true false eb ek ei h = or_left_false (known s t)
        where
          or_left_false : (a : Bool) → (a || true) ≡ true
          or_left_false true = refl
          or_left_false false = refl
      still r t false true true eb ek ei h =
          let same : s ≡ r = is_eq_same exact s r ei in
          or_left (known s t) false (ap (λ u. known u t) same ∙ ek)
      still r t false false i eb ek ei h = absurd (false≢true h)

      left : (r t : Seg) → Contains segs r → Contains segs t → is_some (conflict_of r t) ≡ true → (blocked_then t || known_then r t) ≡ true
      left r t c d e =
          ap (λ b. b || known_then r t) (more t) ∙ (ap (λ b. (blocked t || known s t) || b) (fewer r t) ∙ still r t (blocked t) (known r t) (is_same_segment s r) refl refl refl (are.left r t c d e))

      right : (r t : Seg) → known_then r t ≡ true → is_some (conflict_of r t) ≡ true
      right r t k = are.right r t (and_parts (not (is_same_segment s r)) (known r t) (sym (fewer r t) ∙ k)).1

  pub next_blocked : (segs held round : List Seg) (i : ℕ) (s : Seg) (known known_then : Seg → Seg → Bool) (blocked blocked_then : Seg → Bool) → i < length round → s ≡ get_or round i s → Contains segs s
      → AreBlocked segs (held ++ take i round) known blocked → ((t : Seg) → blocked_then t ≡ (blocked t || known s t)) → ((r t : Seg) → known_then r t ≡ (not (is_same_segment s r) && known r t))
      → AreBlocked segs (held ++ take (i + 1) round) known_then blocked_then
  next_blocked segs held round i s known known_then blocked blocked_then h is here are more fewer =
      subst (λ hs. AreBlocked segs hs known_then blocked_then)
      (append_assoc held (take i round) (s ∷ []) ∙ ap (λ ts. held ++ ts) (sym (taken_more round i s h is)))
      (one_blocked segs (held ++ take i round) known known_then blocked blocked_then s here are more fewer)

  -- ---- at first nothing is blocked, and each conflict is known

  paired_conflict : (s t : Seg) (p : Pair) → is_some (conflict_of p.first p.second) ≡ true → are_paired s t p ≡ true → is_some (conflict_of s t) ≡ true
  paired_conflict s t p e h =
      ⊎_elim
      (λ (f : (is_same_segment p.first s && is_same_segment p.second t) ≡ true).
      subst (λ u. is_some (conflict_of u t) ≡ true) (is_eq_same exact p.first s (and_parts (is_same_segment p.first s) (is_same_segment p.second t) f).0)
      (subst (λ u. is_some (conflict_of p.first u) ≡ true) (is_eq_same exact p.second t (and_parts (is_same_segment p.first s) (is_same_segment p.second t) f).1) e))
      (λ (b : (is_same_segment p.second s && is_same_segment p.first t) ≡ true).
      conflict_turned s t
      ∙ subst (λ u. is_some (conflict_of u s) ≡ true) (is_eq_same exact p.first t (and_parts (is_same_segment p.second s) (is_same_segment p.first t) b).1)
      (subst (λ u. is_some (conflict_of p.first u) ≡ true) (is_eq_same exact p.second s (and_parts (is_same_segment p.second s) (is_same_segment p.first t) b).0) e))
      (or_cases (is_same_segment p.first s && is_same_segment p.second t) (is_same_segment p.second s && is_same_segment p.first t) h)

  pub foes_known : (segs : List Seg) (pairs : List Pair) (known : Seg → Seg → Bool) → AreConflicts segs pairs → ((s t : Seg) → known s t ≡ list_any (are_paired s t) pairs) → AreBlocked segs [] known (λ s. false)
  foes_known segs pairs known are is = record { found = λ t c. refl; left = left; right = right }
    where
      left : (s t : Seg) → Contains segs s → Contains segs t → is_some (conflict_of s t) ≡ true → (false || known s t) ≡ true
      left s t c d e =
          let p = pair_passes s t (conflicts_of are.distinct) (pair_made exact symmetric are.distinct s t (once_stands exact symmetric segs are.distinct are.once s c) (once_stands exact symmetric segs are.distinct are.once t d) e) in
          is s t ∙ any_from (are_paired s t) pairs p.item (subst (λ (ps : List Pair). Contains ps p.item) (sym are.are) p.member) p.passes

      right : (s t : Seg) → known s t ≡ true → is_some (conflict_of s t) ≡ true
      right s t k =
          let p = some_passes (are_paired s t) pairs (sym (is s t) ∙ k) in
          let stands = pair_stands exact symmetric are.distinct p.item (subst (λ (ps : List Pair). Contains ps p.item) are.are p.member) in
          paired_conflict s t p.item stands.2 p.passes

-- ---- a ring none of whose segments is blocked

pub free_round : (segs held round : List Seg) (free : Bool) (known : Seg → Seg → Bool) (blocked : Seg → Bool) → free ≡ true → AreBlocked segs (held ++ round) known blocked → AreBlocked segs (held ++ (if free then round else [])) known blocked
free_round segs held round free known blocked e are = subst (λ (hs : List Seg). AreBlocked segs hs known blocked) (ap (λ (b : Bool). held ++ (if b then round else [])) (sym e)) are
