-- Lists in which no segment stands twice have no repeats.
use Rattle.std.proofs.Common.{List, [], arith, nat_le, refl, suc, zero, ℕ, ◌≡◌, ◌≤◌, if◌then◌else◌}
use Rattle.lists.specs.Rising.{count_of}
use Rattle.osm_lattice.specs.declared.seg.Seg.{Seg}
use Rattle.osm_lattice.specs.Seg.{seg_cmp}
use Rattle.osm_segments.specs.Repeats.{AreRepeats}

-- what stands once at most isn't repeated
pub not-repeated : (n : ℕ) → n ≤ 1 → ◌≡◌ {A = ℕ} 0 (if nat_le 2 n then 1 else 0)
not-repeated zero h = refl
not-repeated (suc zero) h = refl
not-repeated (suc (suc n)) h = absurd (omega arith)

pub none-repeated : (segs : List Seg) → ((s : Seg) → count_of seg_cmp s segs ≤ 1) → AreRepeats segs []
none-repeated segs once = record {
  twice = λ s. not-repeated (count_of seg_cmp s segs) (once s);
  times = λ k d h. absurd (omega arith);
  rising = λ i j d h l. absurd (omega arith);
}
