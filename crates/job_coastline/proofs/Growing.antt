-- What is written of lists of things, seen one thing after the other.
use Rattle.std.proofs.Common.{◌≡◌, ◌∙◌, sym, ap, ap₂, subst, Result, Ok, Err, OnOk, ℕ, ◌+◌, ◌<◌, ◌≤◌, List, [], ◌∷◌, ◌++◌, length, take, get_or, append-nil, append_assoc, arith}
use Rattle.std.specs.List.{flat_map, sum_by}
use Rattle.std.proofs.lemmas.List.{take_more, take_all}
use Rattle.std.proofs.lemmas.Grind.{flat_map-append}
use Rattle.std.proofs.lemmas.List.Sums.{sum_by_more}
use Rattle.osm_geom.specs.declared.edge.Edge.{Edge}
use Rattle.osm_job.specs.Sent.{lines_text}
use Rattle.osm_nest.specs.RingLists.{all_edges}
use Rattle.osm_text.specs.declared.coast.CoastLine.{CoastLine}
use Rattle.job_coastline.specs.PieceSteps.{Adds}
use Rattle.job_coastline.specs.declared.pieces.Pieces.{Pieces}

pub flat_map-next : {X Y : Type 0} (g : X → List Y) (xs : List X) (k : ℕ) (x : X) → k < length xs → x ≡ get_or xs k x → flat_map g (take (k + 1) xs) ≡ flat_map g (take k xs) ++ g x
flat_map-next {X} {Y} g xs k x lt is =
    ap (flat_map g) (take_more xs k x lt) ∙ flat_map-append g (take k xs) (get_or xs k x ∷ []) ∙ ap (λ (zs : List Y). flat_map g (take k xs) ++ zs) (append-nil (g (get_or xs k x)))
    ∙ ap (λ (z : X). flat_map g (take k xs) ++ g z) (sym is)

pub flat_map-all : {X Y : Type 0} (g : X → List Y) (xs : List X) (n : ℕ) → length xs ≤ n → flat_map g (take n xs) ≡ flat_map g xs
flat_map-all g xs n all = ap (flat_map g) (take_all n xs all)

-- ---- pieces

pub adds_nothing : (pieces : Pieces) → Adds pieces pieces [] 0 []
adds_nothing pieces = record {
  written = sym (append-nil (lines_text pieces.texts.items));
  printed = omega arith;
  told = sym (append-nil pieces.lines.items);
}

pub adds_both : (before middle after : Pieces) (t u : List ℕ) (m n : ℕ) (k l : List CoastLine) → Adds before middle t m k → Adds middle after u n l → Adds before after (t ++ u) (m + n) (k ++ l)
adds_both before middle after t u m n k l first then = record {
  written = then.written ∙ ap (λ (xs : List ℕ). xs ++ u) first.written ∙ append_assoc (lines_text before.texts.items) t u;
  printed = let p = first.printed in let q = then.printed in omega arith;
  told = then.told ∙ ap (λ (xs : List CoastLine). xs ++ l) first.told ∙ append_assoc before.lines.items k l;
}

module _ {X : Type 0} (text : X → List ℕ) (count : X → ℕ) (lines : X → List CoastLine) (xs : List X) where
  sum_next : (k : ℕ) (x : X) → k < length xs → x ≡ get_or xs k x → sum_by count (take (k + 1) xs) ≡ sum_by count (take k xs) + count x
  sum_next k x lt is = sum_by_more count xs k x lt ∙ ap (λ (z : X). sum_by count (take k xs) + count z) (sym is)

  -- what one more adds
  pub adds_next : (k : ℕ) (x : X) → k < length xs → x ≡ get_or xs k x → (before middle after : Pieces) →
      Adds before middle (flat_map text (take k xs)) (sum_by count (take k xs)) (flat_map lines (take k xs)) → Adds middle after (text x) (count x) (lines x) →
      Adds before after (flat_map text (take (k + 1) xs)) (sum_by count (take (k + 1) xs)) (flat_map lines (take (k + 1) xs))
  adds_next k x lt is before middle after first then =
      subst (λ (t : List ℕ). Adds before after t (sum_by count (take (k + 1) xs)) (flat_map lines (take (k + 1) xs))) (sym (flat_map-next text xs k x lt is))
      (subst (λ (n : ℕ). Adds before after (flat_map text (take k xs) ++ text x) n (flat_map lines (take (k + 1) xs))) (sym (sum_next k x lt is))
      (subst (λ (l : List CoastLine). Adds before after (flat_map text (take k xs) ++ text x) (sum_by count (take k xs) + count x) l) (sym (flat_map-next lines xs k x lt is))
      (adds_both before middle after (flat_map text (take k xs)) (text x) (sum_by count (take k xs)) (count x) (flat_map lines (take k xs)) (lines x) first then)))

  pub adds_all : (n : ℕ) → length xs ≤ n → (before after : Pieces) → Adds before after (flat_map text (take n xs)) (sum_by count (take n xs)) (flat_map lines (take n xs)) →
      Adds before after (flat_map text xs) (sum_by count xs) (flat_map lines xs)
  adds_all n all before after adds =
      subst (λ (zs : List X). Adds before after (flat_map text zs) (sum_by count zs) (flat_map lines zs)) (take_all n xs all) adds

-- ---- the edges of rings

pub edges_next : (outer : List Edge) (rings : List (List Edge)) (k : ℕ) (ring : List Edge) → k < length rings → ring ≡ get_or rings k ring → (edges more given : List Edge) → edges ≡ outer ++ all_edges (take k rings) → given ≡ ring → more ≡ edges ++ given →
    more ≡ outer ++ all_edges (take (k + 1) rings)
edges_next outer rings k ring lt is edges more given so_far same grown =
    grown ∙ ap₂ (λ (xs ys : List Edge). xs ++ ys) so_far same ∙ append_assoc outer (all_edges (take k rings)) ring
    ∙ ap (λ (xs : List Edge). outer ++ xs) (sym (flat_map-next (λ (r : List Edge). r) rings k ring lt is))

pub on_ok : {T E : Type 0} (r : Result T E) (P Q : Type 0) → (P → Q) → OnOk r P → OnOk r Q
on_ok (Ok x) P Q f h = f h
on_ok (Err e) P Q f h = tt
