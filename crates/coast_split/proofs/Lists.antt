-- Portions and ends on the line, one edge after the other.
use Rattle.std.proofs.Common.{Bool, List, [], ap, false, get_or, length, refl, subst, sym, take, true, ℕ, ◌++◌, ◌+◌, ◌<◌, ◌∙◌, ◌∷◌, ◌≡◌}
use Rattle.std.proofs.lemmas.List.{append_assoc, append-nil, take_more}
use Rattle.osm_geom.specs.declared.cut.Cut.{Cut}
use Rattle.osm_geom.specs.declared.cut.Side.{Side}
use Rattle.osm_geom.specs.declared.edge.Edge.{Edge}
use Rattle.osm_geom.specs.declared.point.Point.{Point}
use Rattle.coast_split.specs.Half.{ArePortions, IsPortion, NextPortion, has_portion}
use Rattle.coast_split.specs.Walk.{end_on, ends_on}

module _ (cut : Cut) (s : Side) where
  next-by : (e : Edge) (b : Bool) (P Q : List Edge → Type 0) (ts us : List Edge) → ((vs : List Edge) → P vs → Q (vs ++ us)) → NextPortion cut s e b P ts → NextPortion cut s e b Q (ts ++ us)
  next-by e false P Q ts us f n = f ts n
  next-by e true P Q [] us f n = absurd n
  next-by e true P Q (t ∷ ts) us f n = (n.0, f ts n.1)

  pub next-known : (e : Edge) (b : Bool) (P : List Edge → Type 0) (ts : List Edge) → has_portion cut s e ≡ b → NextPortion cut s e b P ts → NextPortion cut s e (has_portion cut s e) P ts
  next-known e b P ts h n = subst (λ x. NextPortion cut s e x P ts) (sym h) n

  -- the portions of one list, and then of another
  pub portions-append : (es fs ts us : List Edge) → ArePortions cut s es ts → ArePortions cut s fs us → ArePortions cut s (es ++ fs) (ts ++ us)
  portions-append [] fs ts us h k = subst (λ vs. ArePortions cut s fs (vs ++ us)) (sym h) k
  portions-append (e ∷ es) fs ts us h k = next-by e (has_portion cut s e) (ArePortions cut s es) (ArePortions cut s (es ++ fs)) ts us (λ vs p. portions-append es fs vs us p k) h

  pub none-more : (es ts : List Edge) (e : Edge) → ArePortions cut s es ts → has_portion cut s e ≡ false → ArePortions cut s (es ++ e ∷ []) ts
  none-more es ts e h n = subst (ArePortions cut s (es ++ e ∷ [])) (append-nil ts) (portions-append es (e ∷ []) ts [] h (next-known e false (λ vs. vs ≡ []) [] n refl))

  pub one-more : (es ts : List Edge) (e t : Edge) → ArePortions cut s es ts → has_portion cut s e ≡ true → IsPortion cut s e t → ArePortions cut s (es ++ e ∷ []) (ts ++ t ∷ [])
  one-more es ts e t h n p = portions-append es (e ∷ []) ts (t ∷ []) h (next-known e true (λ vs. vs ≡ []) (t ∷ []) n (p, refl))

-- the ends of one list, and then of another
pub ends-append : (cut : Cut) (ts us : List Edge) → ends_on cut (ts ++ us) ≡ ends_on cut ts ++ ends_on cut us
ends-append cut [] us = refl
ends-append cut (t ∷ ts) us =
    ap (λ l. end_on cut t.from ++ (end_on cut t.to ++ l)) (ends-append cut ts us)
    ∙ ap (λ l. end_on cut t.from ++ l) (sym (append_assoc (end_on cut t.to) (ends_on cut ts) (ends_on cut us)))
    ∙ sym (append_assoc (end_on cut t.from) (end_on cut t.to ++ ends_on cut ts) (ends_on cut us))

pub ends-more : (cut : Cut) (ts : List Edge) (t : Edge) → ends_on cut (ts ++ t ∷ []) ≡ (ends_on cut ts ++ end_on cut t.from) ++ end_on cut t.to
ends-more cut ts t =
    ends-append cut ts (t ∷ []) ∙ ap (λ l. ends_on cut ts ++ (end_on cut t.from ++ l)) (append-nil (end_on cut t.to)) ∙ sym (append_assoc (ends_on cut ts) (end_on cut t.from) (end_on cut t.to))

pub next-taken : {X : Type 0} (es : List X) (i : ℕ) (e : X) → e ≡ get_or es i e → i < length es → take (i + 1) es ≡ take i es ++ e ∷ []
next-taken es i e is inside = take_more es i e inside ∙ ap (λ x. take i es ++ x ∷ []) (sym is)

module _ (cut : Cut) (s : Side) (es : List Edge) (i : ℕ) (e : Edge) (is : e ≡ get_or es i e) (inside : i < length es) (ps : List Edge) (so_far : ArePortions cut s (take i es) ps) where
  pub step-none : (new : List Edge) → new ≡ ps → has_portion cut s e ≡ false → ArePortions cut s (take (i + 1) es) new
  step-none new grown n =
      subst (λ us. ArePortions cut s us new) (sym (next-taken es i e is inside)) (subst (ArePortions cut s (take i es ++ e ∷ [])) (sym grown) (none-more cut s (take i es) ps e so_far n))

  pub step-one : (new : List Edge) (t : Edge) → new ≡ ps ++ t ∷ [] → (has_portion cut s e ≡ true) × IsPortion cut s e t → ArePortions cut s (take (i + 1) es) new
  step-one new t grown p =
      subst (λ us. ArePortions cut s us new) (sym (next-taken es i e is inside)) (subst (ArePortions cut s (take i es ++ e ∷ [])) (sym grown) (one-more cut s (take i es) ps e t so_far p.0 p.1))

pub ends-step : (cut : Cut) (ts : List Edge) (i : ℕ) (t : Edge) → t ≡ get_or ts i t → i < length ts → (old a b c : List Point) → a ≡ old ++ ends_on cut (take i ts) → b ≡ a ++ end_on cut t.from → c ≡ b ++ end_on cut t.to → c ≡ old ++ ends_on cut (take (i + 1) ts)
ends-step cut ts i t is inside old a b c ha hb hc =
    let us = ends_on cut (take i ts) in
    hc ∙ ap (λ l. l ++ end_on cut t.to) (hb ∙ ap (λ l. l ++ end_on cut t.from) ha) ∙ append_assoc (old ++ us) (end_on cut t.from) (end_on cut t.to) ∙ append_assoc old us (end_on cut t.from ++ end_on cut t.to)
    ∙ ap (λ l. old ++ l) (sym (ap (ends_on cut) (next-taken ts i t is inside) ∙ ends-more cut (take i ts) t ∙ append_assoc us (end_on cut t.from) (end_on cut t.to)))
