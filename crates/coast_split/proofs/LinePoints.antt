-- Points put in order along a line, each once.
use Rattle.std.proofs.Common.{List, [], ap, inl, inr, not, refl, ◌∙◌, ◌∷◌, ◌≡◌}
use Rattle.plane.specs.Sign.{Minus, Null, Plus, Sign, is_minus, negated}
use Rattle.lists.specs.Member.{EachPair, In}
use Rattle.lists.proofs.ListsKit.{all-in, in-all}
use Rattle.osm_geom.specs.declared.cut.Cut.{Cut}
use Rattle.osm_geom.specs.declared.cut.Side.{Side}
use Rattle.osm_geom.specs.declared.point.Point.{Point}
use Rattle.coast_split.proofs.LineOrders.{R, line-back, line-same, plus-then}

module _ (cut : Cut) (s : Side) where
  abbrev pub Rises : Point → Point → Type 0
  Rises p q = R cut s p q ≡ Plus

  -- the points of a list, in order along the line
  pub record InOrder (xs : List Point) : Type 0 where
    pub all : List Point
    pub into : (v : Point) → In v xs → In v all
    pub out : (v : Point) → In v all → In v xs
    pub rising : EachPair Rises all

  first-rises : (p z : Point) (zs : List Point) → Rises p z → EachPair Rises (z ∷ zs) → (v : Point) → In v (z ∷ zs) → Rises p v
  first-rises p z zs e h v (inl k) = ap (R cut s p) k ∙ e
  first-rises p z zs e h v (inr i) = plus-then cut s p z v e (ap (λ o. not (is_minus o)) (in-all (Rises z) zs v h.0 i))

  then-rises : (p z : Point) (zs : List Point) → Rises z p → EachPair Rises (z ∷ zs) → (v : Point) → In v (p ∷ zs) → Rises z v
  then-rises p z zs e h v (inl k) = ap (R cut s z) k ∙ e
  then-rises p z zs e h v (inr i) = in-all (Rises z) zs v h.0 i

  same-into : (p z : Point) (zs : List Point) → p ≡ z → (v : Point) → In v (p ∷ z ∷ zs) → In v (z ∷ zs)
  same-into p z zs e v (inl k) = inl (k ∙ e)
  same-into p z zs e v (inr i) = i

  turned-into : (p z : Point) (zs all : List Point) → ((v : Point) → In v (p ∷ zs) → In v all) → (v : Point) → In v (p ∷ z ∷ zs) → In v (z ∷ all)
  turned-into p z zs all f v (inl k) = inr (f v (inl k))
  turned-into p z zs all f v (inr (inl k)) = inl k
  turned-into p z zs all f v (inr (inr i)) = inr (f v (inr i))

  beside : (p z : Point) (zs : List Point) (v : Point) → In v (p ∷ zs) → In v (p ∷ z ∷ zs)
  beside p z zs v (inl k) = inl k
  beside p z zs v (inr i) = inr (inr i)

  turned-out : (p z : Point) (zs all : List Point) → ((v : Point) → In v all → In v (p ∷ zs)) → (v : Point) → In v (z ∷ all) → In v (p ∷ z ∷ zs)
  turned-out p z zs all f v (inl k) = inr (inl k)
  turned-out p z zs all f v (inr i) = beside p z zs v (f v i)

  put-by : (p z : Point) (zs : List Point) → EachPair Rises (z ∷ zs) → InOrder (p ∷ zs) → (o : Sign) → R cut s p z ≡ o → InOrder (p ∷ z ∷ zs)
  put-by p z zs h r Plus e = record { all = p ∷ z ∷ zs; into = λ v i. i; out = λ v i. i; rising = (all-in (Rises p) (z ∷ zs) (first-rises p z zs e h), h) }
  put-by p z zs h r Null e = record { all = z ∷ zs; into = same-into p z zs (line-same cut s p z e); out = λ v i. inr i; rising = h }
  put-by p z zs h r Minus e =
      let back : Rises z p = line-back cut s p z ∙ ap negated e in
      record {
        all = z ∷ r.all;
        into = turned-into p z zs r.all r.into;
        out = turned-out p z zs r.all r.out;
        rising = (all-in (Rises z) r.all (λ v i. then-rises p z zs back h v (r.out v i)), r.rising);
      }

  put : (p : Point) (zs : List Point) → EachPair Rises zs → InOrder (p ∷ zs)
  put p [] h = record { all = p ∷ []; into = λ v i. i; out = λ v i. i; rising = (all-in (Rises p) [] (λ v i. absurd i), tt) }
  put p (z ∷ zs) h = put-by p z zs h (put p zs h.1) (R cut s p z) refl

  rest-in : (x : Point) (xs ys : List Point) → ((v : Point) → In v xs → In v ys) → (v : Point) → In v (x ∷ xs) → In v (x ∷ ys)
  rest-in x xs ys f v (inl k) = inl k
  rest-in x xs ys f v (inr i) = inr (f v i)

  pub in_order : (xs : List Point) → InOrder xs
  in_order [] = record { all = []; into = λ v i. i; out = λ v i. i; rising = tt }
  in_order (x ∷ xs) =
      let r = in_order xs in let p = put x r.all r.rising in
      record {
        all = p.all;
        into = λ v i. p.into v (rest-in x xs r.all r.into v i);
        out = λ v i. rest-in x r.all xs r.out v (p.out v i);
        rising = p.rising;
      }
