-- Lists that wait: the one that comes last is the next.
use Rattle.std.proofs.Common.{Bool, List, None, Option, Some, [], ap, false, map, subst, sym, ◌++◌, ◌∙◌, ◌∷◌, ◌≡◌, reverse, ℕ}
use Rattle.std.proofs.lemmas.List.{map-append, reverse-append}
use Rattle.std.proofs.lemmas.List.Elements.{All-pop}
use Rattle.osm_geom.specs.declared.edge.Edge.{Edge}
use Rattle.coast_split.specs.declared.batches.Batches.{Batches}
use Rattle.coast_split.specs.Batches.{batched_edges}
use Rattle.coast_split.specs.LeavesLeft.{IsNextLeaf}
use Rattle.coast_split.specs.SplitTree.{is_large}
use Rattle.coast_split.specs.Splitting.{HaveSameLeaves, IsCutOff}
use Rattle.coast_split.specs.Waiting.{AreWaiting, IsWaiting, lists_in, lists_of_only}
use Rattle.coast_split.proofs.LeavesLeft.{AreSidedHalves, cut-same, not-split, same-self, whole-next}
use Rattle.coast_split.proofs.Splitting.{low-falls}

module _ (whole : List Edge) where
  pub lists-push : (bs : List Batches) (b : Batches) → lists_in whole (bs ++ b ∷ []) ≡ batched_edges whole b ∷ lists_in whole bs
  lists-push bs b = ap reverse (map-append (batched_edges whole) bs (b ∷ [])) ∙ reverse-append (map (batched_edges whole) bs) (batched_edges whole b ∷ [])

  pub popped : (old rest : List Batches) (b : Batches) → old ≡ rest ++ b ∷ [] → AreWaiting whole old → AreWaiting whole rest × IsWaiting whole b
  popped old rest b e h = let p = All-pop (IsWaiting whole) old rest (Some b) e h in (p.0, p.1)

  pub popped-same : (m o : ℕ) (old rest : List Batches) (b : Batches) → old ≡ rest ++ b ∷ [] → HaveSameLeaves m o (lists_in whole old) (batched_edges whole b ∷ lists_in whole rest)
  popped-same m o old rest b e = subst (HaveSameLeaves m o (lists_in whole old)) (ap (lists_in whole) e ∙ lists-push rest b) (same-self m o (lists_in whole old))

  pub cut-off-waiting : (m o : ℕ) (list low high : Batches) (old new : List Batches) → AreSidedHalves m o (batched_edges whole list) (batched_edges whole low) (batched_edges whole high) → new ≡ old ++ high ∷ [] →
      IsCutOff m o (batched_edges whole list) (lists_in whole old) (batched_edges whole low) (lists_in whole new)
  cut-off-waiting m o list low high old new h e = record {
    sided = h.low_sided;
    smaller = low-falls m o (batched_edges whole list) h.is_cut (batched_edges whole low) h.low_half;
    same = subst (λ v. HaveSameLeaves m o (batched_edges whole list ∷ lists_in whole old) (batched_edges whole low ∷ v)) (sym (ap (lists_in whole) e ∙ lists-push old high))
        (cut-same m o (batched_edges whole list) (batched_edges whole low) (batched_edges whole high) h (lists_in whole old));
  }

  pub none-wait : (bs : List Batches) → bs ≡ [] → lists_in whole bs ≡ []
  none-wait bs e = ap (lists_in whole) e

-- a list that is the only one
pub only-next : (m o : ℕ) (before after : Option (List Edge)) (es : List Edge) (rest : List (List Edge)) → before ≡ Some es → after ≡ None → is_large m es ≡ false →
    IsNextLeaf m o (lists_of_only before ++ rest) (record { edges = es; large = false }) (lists_of_only after ++ rest)
only-next m o before after es rest e h few =
    subst (λ x. IsNextLeaf m o (lists_of_only x ++ rest) (record { edges = es; large = false }) (lists_of_only after ++ rest)) (sym e)
    (subst (λ x. IsNextLeaf m o (es ∷ rest) (record { edges = es; large = false }) (lists_of_only x ++ rest)) (sym h)
    (subst (λ (b : Bool). IsNextLeaf m o (es ∷ rest) (record { edges = es; large = b }) rest) few (whole-next m o es (not-split m o es few) rest)))
