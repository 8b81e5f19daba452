-- Where the signed count of a list is 0 or 1, it is the parity of its count.
use Rattle.std.proofs.Common.{List, ap, arith, inl, inr, pos, sym, ℕ, ℤ, ◌%◌, ◌+◌, ◌*◌, ◌-ℤ◌, ◌∙◌, ◌≡◌, ◌⊎◌}
use Rattle.std.proofs.lemmas.Int.{ints}
use Rattle.plane.specs.Edge as plane
use Rattle.plane.specs.Scale.{scaled_point}
use Rattle.plane.specs.Vector.{Vector, east}
use Rattle.plane_lists.specs.Lists.EdgeList.{down_count, up_count}
use Rattle.plane_lists.specs.Lists.ScaledEdges.{scaled_edges}
use Rattle.plane_lists.proofs.WindingKit.{counted-both-ways}
use Rattle.lists.proofs.ListsKit.{even_or_odd, odd_sum}
use Rattle.osm_geom.specs.declared.edge.Edge.{Edge}
use Rattle.osm_geom.specs.InPlane.Multiple.{product_of_denominators, whole_edges}
use Rattle.osm_geom.specs.InPlane.Sided.{count_at, signed_count_at}

even-none : (n u d : ℕ) → n ≡ u + d → pos u -ℤ pos d ≡ pos 0 → n % 2 ≡ 0
even-none n u d e h = let same : u ≡ d = omega (arith, ints) in let two : n ≡ 2 * u = omega arith in omega arith

module _ (q : ℤ) (p : Vector) (es : List Edge) where
  abbrev P : Vector
  P = scaled_point (pos (product_of_denominators es)) p

  abbrev L : List plane.Edge
  L = scaled_edges q (whole_edges es)

  pub once-odd : signed_count_at q p es ≡ pos 1 → count_at q p es % 2 ≡ 1
  once-odd h = odd_sum (count_at q p es) (up_count east P L) (down_count east P L) (counted-both-ways east P L) h

  pub none-even : signed_count_at q p es ≡ pos 0 → count_at q p es % 2 ≡ 0
  none-even h = even-none (count_at q p es) (up_count east P L) (down_count east P L) (counted-both-ways east P L) h

  -- where the signed count is a parity, so is the count
  odd-by : (k : ℕ) → signed_count_at q p es ≡ pos (k % 2) → (k % 2 ≡ 0) ⊎ (k % 2 ≡ 1) → count_at q p es % 2 ≡ 1 → pos (k % 2) ≡ pos 1
  odd-by k h (inr e) odd = ap (λ n. pos n) e
  odd-by k h (inl e) odd = let even = none-even (h ∙ ap (λ n. pos n) e) in absurd (omega arith)

  pub odd-parity : (k : ℕ) → signed_count_at q p es ≡ pos (k % 2) → count_at q p es % 2 ≡ 1 → pos (k % 2) ≡ pos 1
  odd-parity k h odd = odd-by k h (even_or_odd k) odd

  pub parity-odd : (k : ℕ) → signed_count_at q p es ≡ pos (k % 2) → pos (k % 2) ≡ pos 1 → count_at q p es % 2 ≡ 1
  parity-odd k h e = once-odd (h ∙ e)

  parity-by : (k : ℕ) → signed_count_at q p es ≡ pos (k % 2) → (k % 2 ≡ 0) ⊎ (k % 2 ≡ 1) → pos (count_at q p es % 2) ≡ pos (k % 2)
  parity-by k h (inl e) = ap (λ n. pos n) (none-even (h ∙ ap (λ n. pos n) e) ∙ sym e)
  parity-by k h (inr e) = ap (λ n. pos n) (once-odd (h ∙ ap (λ n. pos n) e) ∙ sym e)

  pub parity-is : (k : ℕ) → signed_count_at q p es ≡ pos (k % 2) → pos (count_at q p es % 2) ≡ pos (k % 2)
  parity-is k h = parity-by k h (even_or_odd k)
