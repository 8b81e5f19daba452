-- A ring begun at another of its edges.
use Rattle.std.proofs.Common.{◌≡◌, ◌≢◌, ℕ, ◌+◌, ◌-◌, ◌<◌, List, ◌++◌, length, get_or, take, drop, All, sym, ap, subst, ◌∙◌, arith, ⊎_elim}
use Rattle.std.specs.declared.cmp.Ordering.TheVariants.{Less}
use Rattle.std.proofs.lemmas.Bool.{cases_lt}
use Rattle.std.proofs.lemmas.List.{get_or_default, get_or-drop, get_or-take, get_or_append_left, get_or-append_right, length-append, length-drop, length-take-le}
use Rattle.osm_geom.specs.declared.edge.Edge.{Edge}
use Rattle.osm_geom.specs.Point.{point_cmp}
use Rattle.osm_rings.specs.Ring.{IsRing}
use Rattle.osm_rings.specs.Turned.{BeginsLeast}

module _ (es : List Edge) (n : ℕ) (h : n < length es) where
  abbrev turned : List Edge
  turned = drop n es ++ take n es

  dropped : length (drop n es) ≡ length es - n
  dropped = length-drop n es

  taken : length (take n es) ≡ n
  taken = length-take-le n es (omega arith)

  same-length : length turned ≡ length es
  same-length = let a = length-append (drop n es) (take n es) in let b = dropped in let c = taken in omega arith

  early : (k : ℕ) (d : Edge) → n + k < length es → get_or turned k d ≡ get_or es (n + k) d
  early k d l = let b = dropped in get_or_append_left (drop n es) (take n es) d k (omega arith) ∙ get_or-drop n es k d

  late : (k i : ℕ) (d : Edge) → k ≡ length es - n + i → i < n → get_or turned k d ≡ get_or es i d
  late k i d e l =
      let b = dropped in
      let at : k - (length es - n) ≡ i = omega arith in
      get_or-append_right (drop n es) (take n es) (length es - n) k d b (omega arith) ∙ (ap (λ m. get_or (take n es) m d) at ∙ get_or-take n es i d l)

  module _ (ring : IsRing es) where
    -- the edge at a place begins where the one before it ends
    joins : (k : ℕ) (d : Edge) → k + 1 < length es → (get_or turned k d).to ≡ (get_or turned (k + 1) d).from
    joins k d l = ⊎_elim
        (λ m.
        let a = early k d (omega arith) in
        let b = early (k + 1) d (omega arith) in
        let same : n + k + 1 ≡ n + (k + 1) = omega arith in
        ap (λ e. e.to) a ∙ (ring.chained (n + k) d (omega arith) ∙ (ap (λ i. (get_or es i d).from) same ∙ ap (λ e. e.from) (sym b))))
        (λ m. ⊎_elim
        (λ last.
        let a = early k d last in
        let b = late (k + 1) 0 d (omega arith) (omega arith) in
        let same : n + k ≡ length es - 1 = omega arith in
        ap (λ e. e.to) a ∙ (ap (λ i. (get_or es i d).to) same ∙ (ring.closed d ∙ ap (λ e. e.from) (sym b))))
        (λ past.
        let i = n + k - length es in
        let a = late k i d (omega arith) (omega arith) in
        let b = late (k + 1) (i + 1) d (omega arith) (omega arith) in
        ap (λ e. e.to) a ∙ (ring.chained i d (omega arith) ∙ ap (λ e. e.from) (sym b)))
        (cases_lt (n + k) (length es)))
        (cases_lt (n + (k + 1)) (length es))

    ends : (d : Edge) → (get_or turned (length es - 1) d).to ≡ (get_or turned 0 d).from
    ends d = ⊎_elim
        (λ some.
        let a = late (length es - 1) (n - 1) d (omega arith) (omega arith) in
        let b = early 0 d (omega arith) in
        let same : n - 1 + 1 ≡ n + 0 = omega arith in
        ap (λ e. e.to) a ∙ (ring.chained (n - 1) d (omega arith) ∙ (ap (λ i. (get_or es i d).from) same ∙ ap (λ e. e.from) (sym b))))
        (λ none.
        let a = early (length es - 1) d (omega arith) in
        let b = early 0 d (omega arith) in
        let same : n + (length es - 1) ≡ length es - 1 = omega arith in
        let start : n + 0 ≡ 0 = omega arith in
        ap (λ e. e.to) a ∙ (ap (λ i. (get_or es i d).to) same ∙ (ring.closed d ∙ (ap (λ i. (get_or es i d).from) (sym start) ∙ ap (λ e. e.from) (sym b)))))
        (cases_lt 0 n)

    apart : (i j : ℕ) (d : Edge) → i < j → j < length es → (get_or turned i d).from ≢ (get_or turned j d).from
    apart i j d l m same = ⊎_elim
        (λ a.
        let x = early i d (omega arith) in
        let y = early j d a in
        ring.simple (n + i) (n + j) d (omega arith) a (ap (λ e. e.from) (sym x) ∙ (same ∙ ap (λ e. e.from) y)))
        (λ a. ⊎_elim
        (λ b.
        let q = n + j - length es in
        let x = early i d b in
        let y = late j q d (omega arith) (omega arith) in
        ring.simple q (n + i) d (omega arith) b (ap (λ e. e.from) (sym y) ∙ (sym same ∙ ap (λ e. e.from) x)))
        (λ b.
        let p = n + i - length es in
        let q = n + j - length es in
        let x = late i p d (omega arith) (omega arith) in
        let y = late j q d (omega arith) (omega arith) in
        ring.simple p q d (omega arith) (omega arith) (ap (λ e. e.from) (sym x) ∙ (same ∙ ap (λ e. e.from) y)))
        (cases_lt (n + i) (length es)))
        (cases_lt (n + j) (length es))

    pub ring-turned : IsRing turned
    ring-turned =
        let size = same-length in
        let long = ring.long in
        record {
          long = omega arith;
          chained = λ k d l. joins k d (omega arith);
          closed = λ d. ap (λ m. (get_or turned (m - 1) d).to) size ∙ ends d;
          simple = λ i j d l m. apart i j d l (omega arith);
        }

  -- it begins at the least point, where that edge leaves the least one
  pub turned-least : All (λ e. point_cmp e.from (get_or es n e).from ≢ Less) es → BeginsLeast turned
  turned-least least k d l less =
      let size = same-length in
      let x = get_or turned k d in
      let first : get_or turned 0 x ≡ get_or es n x = early 0 x (omega arith) ∙ ap (λ i. get_or es i x) (omega arith) in
      let at_n : point_cmp x.from (get_or es n x).from ≡ Less = subst (λ e. point_cmp x.from e.from ≡ Less) first less in
      ⊎_elim
      (λ a. let is : get_or es (n + k) x ≡ x = sym (early k x a) ∙ get_or_default turned k x d l in
      by-place (n + k) x a is at_n)
      (λ a. let is : get_or es (n + k - length es) x ≡ x = sym (late k (n + k - length es) x (omega arith) (omega arith)) ∙ get_or_default turned k x d l in
      by-place (n + k - length es) x (omega arith) is at_n)
      (cases_lt (n + k) (length es))
    where
      by-place : (i : ℕ) (x : Edge) → i < length es → get_or es i x ≡ x → point_cmp x.from (get_or es n x).from ≡ Less → ⊥
      by-place i x l is less = subst (λ e. point_cmp e.from (get_or es n e).from ≢ Less) is (least i x l) less
