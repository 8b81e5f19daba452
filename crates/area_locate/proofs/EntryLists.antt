-- Entries of places, put together and in order.
use Rattle.std.proofs.Common.{Contains, List, [], ap, arith, drop, eq-or-lt_of_le, false, get_or, length, max, not, subst, sym, take, true, ℕ, ℤ, ⊎_elim, ◌++◌, ◌+◌, ◌-◌, ◌<◌, ◌∙◌, ◌≤◌, ◌∷◌, ◌≡◌}
use lib.Signed.{lt_z}
use Rattle.std.specs.List.{AllWithin}
use Rattle.std.specs.List.Sorted.{IsPartitionedBy, IsPermutation, IsSortedByKey}
use Rattle.std.specs.Ordering.{int_cmp, is_lt}
use Rattle.std.proofs.lemmas.Bool.{cases_lt}
use Rattle.std.proofs.lemmas.Cmp.{int_cmp_total}
use Rattle.std.proofs.lemmas.Int.{ints}
use Rattle.std.proofs.lemmas.List.{get_or-drop, get_or-take, length-drop, length-take}
use Rattle.std.proofs.lemmas.List.Elements.{All-append, All-push, Contains-append_left, Contains-append_right, Contains-push}
use Rattle.std.proofs.lemmas.List.Sorted.{All-permutation, Contains-permutation, ranks_by, sorted_far}
use Rattle.osm_lattice.specs.declared.loc.Loc.{Loc}
use Rattle.area_locate.specs.declared.stretch.Entry.{Entry}
use Rattle.area_locate.specs.Index.{AreEntries, IsPointEntry, XNeverFalls}
use Rattle.area_locate.proofs.WithinPoints.{at_most_too, below_too}

-- ---- put together
module _ (points : List Loc) (first : ℕ) where
  pub one_entry_more : (old new : List Entry) (place : ℕ) (e : Entry) → new ≡ old ++ e ∷ [] → IsPointEntry points e → e.place ≡ place → AreEntries points first place old → AreEntries points first (place + 1) new
  one_entry_more old new place e grown is at was = subst (AreEntries points first (place + 1)) (sym grown) (record {
    right = All-push (IsPointEntry points) old e was.right is;
    whole = λ i h. let begun = h.0 in let l = h.1 in ⊎_elim
        (λ (same : i ≡ place). (e, Contains-push old e, subst (λ n. e.place ≡ n) (sym same) at))
        (λ (before : i < place). let had = was.whole i (begun, before) in (had.0, Contains-append_left old (e ∷ []) had.0 had.1, had.2))
        (eq-or-lt_of_le (omega arith));
  })

  pub entries_joined : (old more new : List Entry) (mid end : ℕ) → new ≡ old ++ more → AreEntries points first mid old → AreEntries points mid end more → AreEntries points first end new
  entries_joined old more new mid end grown was then = subst (AreEntries points first end) (sym grown) (record {
    right = All-append (IsPointEntry points) old more was.right then.right;
    whole = λ i h. ⊎_elim
        (λ (before : i < mid). let had = was.whole i (h.0, before) in (had.0, Contains-append_left old more had.0 had.1, had.2))
        (λ (after : mid ≤ i). let has = then.whole i (after, h.1) in (has.0, Contains-append_right old more has.0 has.1, has.2))
        (cases_lt i mid);
  })

  pub entries_moved : (old new : List Entry) (end : ℕ) → IsPermutation old new → AreEntries points first end old → AreEntries points first end new
  entries_moved old new end moved was = record {
    right = All-permutation (IsPointEntry points) old new moved was.right;
    whole = λ i h. let had = was.whole i h in (had.0, Contains-permutation old new had.0 moved had.1, had.2);
  }

-- ---- in order
not_less : (y z : ℤ) → is_lt (int_cmp y z) ≡ false → lt_z y z ≡ false
not_less y z h = grind (arith, ints)

pub x_rises : (entries : List Entry) → IsSortedByKey (λ (e : Entry). e.x) int_cmp entries → XNeverFalls entries
x_rises entries sorted i j d h l =
    not_less (get_or entries j d).x (get_or entries i d).x (sorted_far (λ (e f : Entry). is_lt (int_cmp e.x f.x)) (ranks_by int_cmp_total (λ (e : Entry). e.x)) entries sorted i j d h l)

module _ (entries : List Entry) (rising : XNeverFalls entries) where
  pub left_parts : (left : ℤ) → IsPartitionedBy (λ (e : Entry). lt_z e.x left) entries
  left_parts left i j d h l k = below_too (get_or entries i d).x (get_or entries j d).x left (rising i j d h l) k

  pub right_parts : (right : ℤ) → IsPartitionedBy (λ (e : Entry). not (lt_z right e.x)) entries
  right_parts right i j d h l k = at_most_too (get_or entries i d).x (get_or entries j d).x right (rising i j d h l) k

-- an entry that is neither before nor behind stands between
pub stands_between : (entries : List Entry) (left right : ℤ) (from to : ℕ) → AllWithin (λ (e : Entry). lt_z e.x left ≡ true) entries 0 from → AllWithin (λ (e : Entry). not (lt_z right e.x) ≡ false) entries to (length entries) →
    (e : Entry) → Contains entries e → lt_z e.x left ≡ false → lt_z right e.x ≡ false → Contains (take (max to from - from) (drop from entries)) e
stands_between entries left right from to before behind e some l r =
    let k = some.0 in let inside = some.1 in
    let begun : from ≤ k = ⊎_elim (λ (h : k < from). absurd (cc (sym (subst (λ (f : Entry). lt_z f.x left ≡ true) some.2 (before k e (omega arith) h)) ∙ l))) (λ (h : from ≤ k). h) (cases_lt k from) in
    let ends : k < to = ⊎_elim (λ (h : k < to). h) (λ (h : to ≤ k). absurd (cc (sym (ap not r) ∙ subst (λ (f : Entry). not (lt_z right f.x) ≡ false) some.2 (behind k e h inside)))) (cases_lt k to) in
    let at : from + (k - from) ≡ k = omega arith in (
      k - from,
      simp (length-take, length-drop) (omega arith),
      get_or-take (max to from - from) (drop from entries) (k - from) e (omega arith) ∙ get_or-drop from entries (k - from) e ∙ ap (λ n. get_or entries n e) at ∙ some.2,
    )
