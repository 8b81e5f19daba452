-- Edges right of an anchor in the plane's words, and the order of these edges.
use Rattle.std.proofs.Common.{◌≡◌, inl, inr, true, false, ◌&&◌, ℕ, List, [], ◌∷◌, refl, sym, ap, ◌∙◌}
use Rattle.std.specs.Ordering.{is_lt}
use Rattle.plane.specs.Height.{is_in_span, is_right_above, order_above}
use Rattle.plane.specs.Sign.{is_plus}
use Rattle.lists.proofs.ListsKit.{and-left}
use Rattle.std.proofs.lemmas.Bool.{false_from_ne_true}
use Rattle.plane.proofs.PlaneKit.{right_chain, right_itself}
use Rattle.osm_geom.specs.declared.edge.Edge.{Edge}
use Rattle.osm_geom.specs.JustAbove.{just_above_cmp}
use Rattle.osm_geom.specs.Span.{lower_end, spans}
use Rattle.osm_geom.specs.InPlane.Multiple.{IsWholeAt, product_of_denominators}
use Rattle.osm_nest.specs.Beside.{IsRightOf, is_nearer, is_right_of_lower_end}
use Rattle.osm_nest.proofs.InPlane.{above-at, segment_at, spans-at, whole-at}

pub right-at : (k : ℕ) (a f : Edge) → IsWholeAt k a → IsWholeAt k f → is_right_of_lower_end a f ≡ is_right_above (segment_at k a).from (segment_at k a) (segment_at k f)
unfolding is_right_of_lower_end
right-at k a f w v =
    ap (λ b. b && is_lt (just_above_cmp a f (lower_end a))) (spans-at k a f w v)
    ∙ ap (λ b. is_in_span (segment_at k a).from (segment_at k f) && b) (above-at k a a f w w v)

pub nearer-at : (k : ℕ) (a f g : Edge) → IsWholeAt k a → IsWholeAt k f → IsWholeAt k g → is_nearer a f g ≡ is_plus (order_above (segment_at k a).from (segment_at k f) (segment_at k g))
unfolding is_nearer
nearer-at k a f g w v u = above-at k a f g w v u

-- an edge right of the anchor spans its lower end
pub right_spans : (a f : Edge) → IsRightOf a f → spans f (lower_end a) ≡ true
unfolding is_right_of_lower_end
right_spans a f right = and-left (spans f (lower_end a)) (is_lt (just_above_cmp a f (lower_end a))) right

-- ---- the order
module _ (a f g h : Edge) where
  abbrev four : List Edge
  four = a ∷ f ∷ g ∷ h ∷ []

  abbrev k : ℕ
  k = product_of_denominators four

  w_a : IsWholeAt k a
  w_a = whole-at four a (inl refl)

  w_f : IsWholeAt k f
  w_f = whole-at four f (inr (inl refl))

  w_g : IsWholeAt k g
  w_g = whole-at four g (inr (inr (inl refl)))

  w_h : IsWholeAt k h
  w_h = whole-at four h (inr (inr (inr (inl refl))))

  span-of : (x : Edge) → IsWholeAt k x → is_right_of_lower_end a x ≡ true → is_in_span (segment_at k a).from (segment_at k x) ≡ true
  span-of x w r = and-left _ (is_plus (order_above (segment_at k a).from (segment_at k a) (segment_at k x))) (sym (right-at k a x w_a w) ∙ r)

  -- of edges right of a: f is nearer than g, and g than h, so f than h
  pub nearer-chain : is_right_of_lower_end a f ≡ true → is_right_of_lower_end a g ≡ true → is_right_of_lower_end a h ≡ true → is_nearer a f g ≡ true → is_nearer a g h ≡ true → is_nearer a f h ≡ true
  nearer-chain rf rg rh m n =
      nearer-at k a f h w_a w_f w_h
      ∙ right_chain (segment_at k a).from (segment_at k f) (segment_at k g) (segment_at k h) (span-of f w_f rf) (span-of g w_g rg) (span-of h w_h rh)
      (sym (nearer-at k a f g w_a w_f w_g) ∙ m) (sym (nearer-at k a g h w_a w_g w_h) ∙ n)

pub not-nearer-itself : (a f : Edge) → is_nearer a f f ≡ false
not-nearer-itself a f =
    let k = product_of_denominators (a ∷ f ∷ []) in
    let v = whole-at (a ∷ f ∷ []) f (inr (inl refl)) in
    nearer-at k a f f (whole-at (a ∷ f ∷ []) a (inl refl)) v v ∙ right_itself (segment_at k a).from (segment_at k f)

-- what isn't nearer than g isn't nearer than what is nearer than g
pub not-nearer : (a f g h : Edge) → is_right_of_lower_end a f ≡ true → is_right_of_lower_end a g ≡ true → is_right_of_lower_end a h ≡ true → is_nearer a f g ≡ false → is_nearer a h g ≡ true → is_nearer a f h ≡ false
not-nearer a f g h rf rg rh n m = false_from_ne_true (is_nearer a f h) (λ k. let t = nearer-chain a f h g rf rh rg k m in cc (sym t ∙ n))
