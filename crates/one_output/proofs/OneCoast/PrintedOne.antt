-- The lines of a coastline report are printed in one way.
use Rattle.std.proofs.Common.{All, List, [], ap, sym, ℕ, ◌++◌, ◌∙◌, ◌∷◌, ◌≡◌}
use Rattle.std.proofs.lemmas.List.Elements.{All-head, All-tail}
use Rattle.osm_text.specs.Coast.{CoastLineIsOne, HasItsKind}
use Rattle.osm_text.specs.declared.coast.CoastLine.{CoastLine}
use Rattle.job_coastline.specs.Report.{ArePrinted}

pub printed_one : CoastLineIsOne → (lines : List CoastLine) → All HasItsKind lines → (a b : List ℕ) → ArePrinted lines a → ArePrinted lines b → a ≡ b
printed_one one [] k a b s t = s ∙ sym t
printed_one one (line ∷ lines) k a b s t =
    let first = one line (All-head HasItsKind line lines k) s.0 t.0 s.2 t.2 in
    let rest = printed_one one lines (All-tail HasItsKind line lines k) s.1 t.1 s.3 t.3 in
    s.4 ∙ ap (λ (l : List ℕ). l ++ s.1) first ∙ ap (λ (l : List ℕ). t.0 ++ l) rest ∙ sym t.4
