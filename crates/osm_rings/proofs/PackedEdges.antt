-- One more edge that is packed.
use Rattle.std.proofs.Common.{List, [], arith, get_or, length, subst, sym, ℕ, ⊎_elim, ◌+◌, ◌++◌, ◌<◌, ◌∙◌, ◌∷◌, ◌≡◌, ◌≤◌}
use Rattle.std.proofs.lemmas.Bool.{cases_lt}
use Rattle.std.proofs.lemmas.List.{get_or_append_left, get_or_default, get_or_push, length-append}
use Rattle.osm_geom.specs.declared.edge.Edge.{Edge}
use Rattle.osm_rings.specs.Packed.{AreFirstPacked, IsPackedAs}
use Rattle.osm_rings.specs.declared.packed.Packed.{Packed}

module _ (n : ℕ) (es : List Edge) (ps : List Packed) (e : Edge) (p : Packed) (so_far : AreFirstPacked n es ps) (h : n < length es) (is : e ≡ get_or es n e) (one : IsPackedAs e p) where
  at-end : (f : Edge) (q : Packed) → IsPackedAs (get_or es n f) (get_or (ps ++ p ∷ []) n q)
  at-end f q =
      subst (IsPackedAs (get_or es n f)) (sym (get_or_push ps p q n so_far.long))
      (subst (λ x. IsPackedAs x p) (is ∙ get_or_default es n e f h) one)

  each-more : (k : ℕ) (f : Edge) (q : Packed) → k < n + 1 → IsPackedAs (get_or es k f) (get_or (ps ++ p ∷ []) k q)
  each-more k f q l =
      ⊎_elim
      (λ (before : k < n). subst (IsPackedAs (get_or es k f)) (sym (get_or_append_left ps (p ∷ []) q k (let long = so_far.long in omega arith))) (so_far.each k f q before))
      (λ (from : n ≤ k). let here : n ≡ k = omega arith in subst (λ j. IsPackedAs (get_or es j f) (get_or (ps ++ p ∷ []) j q)) here (at-end f q))
      (cases_lt k n)

  pub packed-more : AreFirstPacked (n + 1) es (ps ++ p ∷ [])
  packed-more = record {
    long = let long = so_far.long in let more = length-append ps (p ∷ []) in omega arith;
    each = each-more;
  }
