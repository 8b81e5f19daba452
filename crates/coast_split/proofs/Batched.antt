-- One batch more; whole lists in batches; and their portions.
use Rattle.std.proofs.Common.{All, List, [], ap, arith, drop, false, length, subst, suc, sym, take, zero, ℕ, ◌+◌, ◌-◌, ◌≤◌, ◌++◌, ◌∙◌, ◌∷◌, ◌≡◌}
use Rattle.std.proofs.lemmas.List.{append-nil, length-append, take_all}
use Rattle.std.proofs.lemmas.List.Concat.{flat_map-append}
use Rattle.std.proofs.lemmas.List.Elements.{All-push}
use Rattle.osm_geom.specs.declared.cut.Cut.{Cut}
use Rattle.osm_geom.specs.declared.cut.Side.{Side}
use Rattle.osm_geom.specs.declared.edge.Edge.{Edge}
use Rattle.osm_geom.specs.declared.point.Point.{Point}
use Rattle.coast_split.specs.declared.batches.Batch.{Batch}
use Rattle.coast_split.specs.declared.batches.Batches.{Batches}
use Rattle.coast_split.specs.Batches.{AddsEdges, AddsPortions, AreBatches, IsBatch, KeepsBothEnds, batch_edges, batched_edges, edges_of_batches}
use Rattle.coast_split.specs.Envelope.{envelope_of}
use Rattle.coast_split.specs.Half.{ArePortions, has_portion}
use Rattle.coast_split.specs.Walk.{ends_on}
use Rattle.coast_split.proofs.Lists.{ends-append, portions-append}
use Rattle.coast_split.proofs.Placings.{beyond-portions, kept-ends, kept-portions}

-- the first n items, and k more
taken-more : (es : List Edge) (n k m : ℕ) → k + n ≡ m → take n es ++ take k (drop n es) ≡ take m es
taken-more es zero k m h = ap (λ j. take j es) (omega (arith, h))
taken-more [] (suc n) k m h = take_all k [] (omega arith) ∙ sym (take_all m [] (omega arith))
taken-more (e ∷ es) (suc n) k zero h = absurd (omega (arith, h))
taken-more (e ∷ es) (suc n) k (suc m) h = ap (λ l. e ∷ l) (taken-more es n k m (omega (arith, h)))

pub parts-taken : (es : List Edge) (n m : ℕ) → n ≤ m → take n es ++ take (m - n) (drop n es) ≡ take m es
parts-taken es n m h = taken-more es n (m - n) m (omega (arith, h))

module _ (whole : List Edge) where
  -- the edges of some batches and one more
  pub edges-push : (bs : List Batch) (b : Batch) → edges_of_batches whole (bs ++ b ∷ []) ≡ edges_of_batches whole bs ++ batch_edges whole b
  edges-push bs b = flat_map-append (batch_edges whole) bs (b ∷ []) ∙ ap (λ l. edges_of_batches whole bs ++ l) (append-nil (batch_edges whole b))

  pub pushed : (old new : Batches) (b : Batch) → AreBatches whole old → IsBatch whole b → new.batches.items ≡ old.batches.items ++ b ∷ [] → new.edge_count ≡ old.edge_count + length (batch_edges whole b) →
      new.envelope ≡ envelope_of (batched_edges whole old ++ batch_edges whole b) → AddsEdges whole old new (batch_edges whole b)
  pushed old new b h k items count envelope =
      let e : batched_edges whole new ≡ batched_edges whole old ++ batch_edges whole b = ap (edges_of_batches whole) items ∙ edges-push old.batches.items b in
      record {
        batches = record {
          each = subst (All (IsBatch whole)) (sym items) (All-push (IsBatch whole) old.batches.items b h.each k);
          count = count ∙ ap (λ n. n + length (batch_edges whole b)) h.count ∙ sym (length-append (batched_edges whole old) (batch_edges whole b)) ∙ ap length (sym e);
          envelope = envelope ∙ ap envelope_of (sym e);
        };
        edges = e;
      }

  pub nothing-added : (list : Batches) → AreBatches whole list → AddsEdges whole list list []
  nothing-added list h = record { batches = h; edges = sym (append-nil (batched_edges whole list)) }

  -- ---- portions
  module _ (cut : Cut) (s : Side) where
    pub none-added : (es : List Edge) (list : Batches) (before : List Point) → AreBatches whole list → All (λ (e : Edge). has_portion cut s e ≡ false) es → AddsPortions whole cut s es list list before before
    none-added es list before h k = record { portions = []; are_portions = beyond-portions cut s es k; added = nothing-added list h; ends = sym (append-nil before) }

    pub kept-added : (b copy : Batch) (old new : Batches) (before : List Point) → AreBatches whole old → IsBatch whole b → copy ≡ b → All (KeepsBothEnds cut s) (batch_edges whole b) →
        (AreBatches whole old → IsBatch whole copy → AddsEdges whole old new (batch_edges whole copy)) → AddsPortions whole cut s (batch_edges whole b) old new before before
    kept-added b copy old new before h k e kept f = record {
      portions = batch_edges whole b;
      are_portions = kept-portions cut s (batch_edges whole b) kept;
      added = subst (λ x. AddsEdges whole old new (batch_edges whole x)) e (f h (subst (IsBatch whole) (sym e) k));
      ends = sym (ap (λ l. before ++ l) (kept-ends cut s (batch_edges whole b) kept) ∙ append-nil before);
    }

    -- those of some batches are made
    pub record HavePortions (bs : List Batch) (made : Batches) (met : List Point) : Type 0 where
      pub batches : AreBatches whole made
      pub portions : ArePortions cut s (edges_of_batches whole bs) (batched_edges whole made)
      pub ends : met ≡ ends_on cut (batched_edges whole made)

    pub none-made : (made : Batches) (ends : List Point) → AreBatches whole made → batched_edges whole made ≡ [] → ends ≡ [] → HavePortions [] made ends
    none-made made ends h e k = record { batches = h; portions = e; ends = k ∙ ap (ends_on cut) (sym e) }

    pub more-made : (bs : List Batch) (b : Batch) (old new : Batches) (before after : List Point) → HavePortions bs old before → AddsPortions whole cut s (batch_edges whole b) old new before after → HavePortions (bs ++ b ∷ []) new after
    more-made bs b old new before after h a = record {
      batches = a.added.batches;
      portions = subst (λ es. ArePortions cut s es (batched_edges whole new)) (sym (edges-push bs b))
          (subst (ArePortions cut s (edges_of_batches whole bs ++ batch_edges whole b)) (sym a.added.edges) (portions-append cut s (edges_of_batches whole bs) (batch_edges whole b) (batched_edges whole old) a.portions h.portions a.are_portions));
      ends = a.ends ∙ ap (λ l. l ++ ends_on cut a.portions) h.ends ∙ sym (ends-append cut (batched_edges whole old) a.portions) ∙ ap (ends_on cut) (sym a.added.edges);
    }
