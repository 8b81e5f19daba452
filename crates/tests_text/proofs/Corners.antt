-- Rings along three and along four edges.
use Rattle.std.proofs.Common.{◌≡◌, ◌≢◌, ◌∙◌, ℕ, zero, suc, ◌+◌, ◌<◌, [], ◌∷◌, get_or, sym, arith}
use Rattle.std.proofs.lemmas.List.Elements.{All-cons, All-nil}
use Rattle.std.proofs.lemmas.List.Kept.{AllPairs-cons}
use Rattle.osm_geom.specs.declared.edge.Edge.{Edge}
use Rattle.osm_rings.specs.Ring.{IsRing}

abbrev Apart : Edge → Edge → Type 0
Apart e f = e.from ≢ f.from

apart : (e f : Edge) → e.to ≡ f.from → Apart e f
apart e f is same = e.apart (same ∙ sym is)

backwards : (e f : Edge) → Apart e f → Apart f e
backwards e f differ same = differ (sym same)

pub triangle_ring : (e f g : Edge) → e.to ≡ f.from → f.to ≡ g.from → g.to ≡ e.from → IsRing (e ∷ f ∷ g ∷ [])
triangle_ring e f g ef fg ge = record {
  long = omega arith;
  chained = chained;
  closed = λ o. ge;
  simple = AllPairs-cons Apart e (f ∷ g ∷ []) (All-cons (Apart e) f (g ∷ []) (apart e f ef) (All-cons (Apart e) g [] (backwards g e (apart g e ge)) (All-nil (Apart e))))
      (AllPairs-cons Apart f (g ∷ []) (All-cons (Apart f) g [] (apart f g fg) (All-nil (Apart f)))
      (AllPairs-cons Apart g [] (All-nil (Apart g)) (λ i j o before inside. absurd (omega arith))));
}
  where
    chained : (k : ℕ) (o : Edge) → k + 1 < 3 → (get_or (e ∷ f ∷ g ∷ []) k o).to ≡ (get_or (e ∷ f ∷ g ∷ []) (k + 1) o).from
    chained zero o inside = ef
    chained (suc zero) o inside = fg
    chained (suc (suc k)) o inside = absurd (omega arith)

pub quadrilateral_ring : (e f g h : Edge) → e.to ≡ f.from → f.to ≡ g.from → g.to ≡ h.from → h.to ≡ e.from → Apart e g → Apart f h → IsRing (e ∷ f ∷ g ∷ h ∷ [])
quadrilateral_ring e f g h ef fg gh he eg fh = record {
  long = omega arith;
  chained = chained;
  closed = λ o. he;
  simple = AllPairs-cons Apart e (f ∷ g ∷ h ∷ []) (All-cons (Apart e) f (g ∷ h ∷ []) (apart e f ef) (All-cons (Apart e) g (h ∷ []) eg (All-cons (Apart e) h [] (backwards h e (apart h e he)) (All-nil (Apart e)))))
      (AllPairs-cons Apart f (g ∷ h ∷ []) (All-cons (Apart f) g (h ∷ []) (apart f g fg) (All-cons (Apart f) h [] fh (All-nil (Apart f))))
      (AllPairs-cons Apart g (h ∷ []) (All-cons (Apart g) h [] (apart g h gh) (All-nil (Apart g)))
      (AllPairs-cons Apart h [] (All-nil (Apart h)) (λ i j o before inside. absurd (omega arith)))));
}
  where
    chained : (k : ℕ) (o : Edge) → k + 1 < 4 → (get_or (e ∷ f ∷ g ∷ h ∷ []) k o).to ≡ (get_or (e ∷ f ∷ g ∷ h ∷ []) (k + 1) o).from
    chained zero o inside = ef
    chained (suc zero) o inside = fg
    chained (suc (suc zero)) o inside = gh
    chained (suc (suc (suc k))) o inside = absurd (omega arith)
