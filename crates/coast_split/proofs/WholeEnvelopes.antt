-- The envelope of a list as one value, edge by edge.
use Rattle.std.proofs.Common.{List, [], ap, arith, get_or, length, refl, sym, take, ℕ, ◌+◌, ◌++◌, ◌<◌, ◌≤◌, ◌∙◌, ◌∷◌, ◌≡◌}
use Rattle.std.proofs.lemmas.List.{take_all}
use Rattle.osm_geom.specs.declared.cut.Axis.{Axis}
use Rattle.osm_geom.specs.declared.cut.Axis.TheVariants.{X, Y}
use Rattle.osm_geom.specs.declared.edge.Edge.{Edge}
use Rattle.coast_split.specs.declared.envelope.Envelope.{Envelope}
use Rattle.coast_split.specs.Envelope.{IsSmall, envelope_at, envelope_from, envelope_of, joined_envelope, middle_in, width_in}
use Rattle.coast_split.specs.SplitTree.{high_from, low_from, middle_by, width_of}
use Rattle.coast_split.proofs.Lists.{next-taken}
use Rattle.coast_split.proofs.Sizes.{envelope_small}

-- each of its four numbers goes through the list by itself
parted : (v : Envelope) (es : List Edge) →
    envelope_from v es ≡ record { low_x = low_from X v.low_x es; high_x = high_from X v.high_x es; low_y = low_from Y v.low_y es; high_y = high_from Y v.high_y es }
parted v [] = refl
parted v (e ∷ es) = parted (joined_envelope (joined_envelope v (envelope_at e.from)) (envelope_at e.to)) es

whole-envelope : (e : Edge) (es : List Edge) → envelope_from (envelope_at e.from) (e ∷ es) ≡ envelope_of (e ∷ es)
whole-envelope e es = parted (envelope_at e.from) (e ∷ es)

pub all-joined : (es : List Edge) (e : Edge) (i : ℕ) (v w : Envelope) → 0 < length es → e ≡ get_or es 0 e → length es ≤ i → w ≡ envelope_at e.from → v ≡ envelope_from w (take i es) → v ≡ envelope_of es
all-joined [] e i v w some is done hw hv = absurd (omega (arith, some))
all-joined (d ∷ es) e i v w some is done hw hv =
    hv ∙ ap (envelope_from w) (take_all i (d ∷ es) done) ∙ ap (λ x. envelope_from x (d ∷ es)) (hw ∙ ap (λ (x : Edge). envelope_at x.from) is) ∙ whole-envelope d es

-- ---- one edge more
edge-more : (v : Envelope) (es : List Edge) (e : Edge) → envelope_from v (es ++ e ∷ []) ≡ joined_envelope (joined_envelope (envelope_from v es) (envelope_at e.from)) (envelope_at e.to)
edge-more v [] e = refl
edge-more v (d ∷ es) e = edge-more (joined_envelope (joined_envelope v (envelope_at d.from)) (envelope_at d.to)) es e

pub edge-step : (v : Envelope) (es : List Edge) (i : ℕ) (e : Edge) → e ≡ get_or es i e → i < length es → (l a b m n : Envelope) →
    l ≡ envelope_from v (take i es) → a ≡ envelope_at e.from → m ≡ joined_envelope l a → b ≡ envelope_at e.to → n ≡ joined_envelope m b → n ≡ envelope_from v (take (i + 1) es)
edge-step v es i e is inside l a b m n hl ha hm hb hn =
    hn ∙ ap (λ z. joined_envelope z b) (hm ∙ ap (λ z. joined_envelope z a) hl ∙ ap (joined_envelope (envelope_from v (take i es))) ha) ∙ ap (joined_envelope (joined_envelope (envelope_from v (take i es)) (envelope_at e.from))) hb
    ∙ sym (edge-more v (take i es) e) ∙ ap (envelope_from v) (sym (next-taken es i e is inside))

-- ---- what it says of the list
pub small-envelope : (es : List Edge) → IsSmall (envelope_of es)
small-envelope es =
    let x = envelope_small X es in let y = envelope_small Y es in
    record { low_x = x.0; high_x = x.1; low_y = y.0; high_y = y.1 }

pub same-width : (axis : Axis) (es : List Edge) → width_in axis (envelope_of es) ≡ width_of axis es
same-width X es = refl
same-width Y es = refl

pub same-middle : (axis : Axis) (es : List Edge) → middle_in axis (envelope_of es) ≡ (middle_by axis es).at
same-middle X es = refl
same-middle Y es = refl
