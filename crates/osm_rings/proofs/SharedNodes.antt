-- Marks of edges that leave a node alone.
use Rattle.std.proofs.Common.{◌≡◌, ◌≢◌, ℕ, ◌+◌, ◌<◌, List, length, get_or, set, All, Bool, true, false, sym, ap, subst, ◌∙◌, arith, ⊎_elim}
use Rattle.std.proofs.lemmas.Bool.{cases_lt}
use Rattle.std.proofs.lemmas.Grind.{get_or-set_at}
use Rattle.std.proofs.lemmas.List.{get_or_default, get_or-set_other}
use Rattle.std.proofs.lemmas.List.Elements.{All-contains}
use Rattle.osm_geom.specs.declared.edge.Edge.{Edge}
use Rattle.osm_rings.specs.declared.departure.Departure.{Departure}
use Rattle.osm_rings.specs.Departures.{AreDepartures, IsDepartureOf, IsFirstAt, TellStarts, start_at}
use Rattle.osm_rings.specs.Pieces.{HaveOwnNumbers}
use Rattle.osm_rings.proofs.Starts.{clash, lt, lt-itself, one-edge, same-some}

-- the departure at a place leaves its point alone
pub record IsAlone (ws : List Departure) (place : ℕ) : Type 0 where
  pub first : (d : Departure) → IsFirstAt ws (get_or ws place d).edge.now.from place
  pub last : (d : Departure) → place + 1 < length ws → lt (get_or ws place d).edge.now.from (get_or ws (place + 1) d).edge.now.from ≡ true

-- of the first n departures each does whose edge isn't marked
abbrev pub AreMarkedUpTo : List Departure → ℕ → List Bool → Type 0
AreMarkedUpTo ws n marks = (k : ℕ) (d : Departure) → k < n → k < length ws → get_or marks (get_or ws k d).place true ≡ false → IsAlone ws k

module _ (es : List Edge) (ws : List Departure) (right : All (IsDepartureOf es) ws) where
  pub marked-more : (n : ℕ) (marks after : List Bool) (mark : Bool) (w : Departure) → n < length ws → w ≡ get_or ws n w → length marks ≡ length es → after ≡ set marks (get_or ws n w).place mark
      → ((mark ≡ false) → IsAlone ws n) → AreMarkedUpTo ws n marks → AreMarkedUpTo ws (n + 1) after
  marked-more n marks after mark w inside is sized made alone so_far k d h fits unmarked = ⊎_elim
      (λ below. kept (λ e. absurd (omega arith)))
      (λ from. ⊎_elim
      (λ above. kept (λ e. absurd (omega arith)))
      (λ upto. changed (omega arith))
      (cases_lt w.place (get_or ws k d).place))
      (cases_lt (get_or ws k d).place w.place)
    where
      here : (e : Departure) → get_or ws n e ≡ w
      here e = get_or_default ws n e w inside ∙ sym is

      room : w.place < length marks
      room = let e = (right n w inside).inside in let i = ap (λ (v : Departure). v.place) is in omega (arith, e, i, sized)

      made_here : after ≡ set marks w.place mark
      made_here = made ∙ ap (λ (v : Departure). set marks v.place mark) (sym is)

      kept : (get_or ws k d).place ≢ w.place → IsAlone ws k
      kept other = ⊎_elim
          (λ early. so_far k d early fits (sym (get_or-set_other marks w.place (get_or ws k d).place mark true other) ∙ (ap (λ ms. get_or ms (get_or ws k d).place true) (sym made_here) ∙ unmarked)))
          (λ late. absurd (other (ap (λ (v : Departure). v.place) (ap (λ j. get_or ws j d) (let e : k ≡ n = omega arith in e) ∙ here d))))
          (cases_lt k n)

      changed : (get_or ws k d).place ≡ w.place → IsAlone ws k
      changed same =
          let off : mark ≡ false = sym (get_or-set_at marks w.place (get_or ws k d).place mark true same room) ∙ (ap (λ ms. get_or ms (get_or ws k d).place true) (sym made_here) ∙ unmarked) in
          let one : IsAlone ws n = alone off in
          ⊎_elim
          (λ early.
          let there : (get_or ws k d).edge.now.from ≡ (get_or ws n d).edge.now.from = one-edge es ws right k n d fits inside (same ∙ ap (λ (v : Departure). v.place) (sym (here d))) in
          absurd (clash (lt (get_or ws k d).edge.now.from (get_or ws n d).edge.now.from) ((one.first d).0 k d (omega arith) early) (ap (λ p. lt p (get_or ws n d).edge.now.from) there ∙ lt-itself (get_or ws n d).edge.now.from)))
          (λ late. let e : n ≡ k = omega arith in subst (IsAlone ws) e one)
          (cases_lt k n)

-- an edge that isn't marked has a number of its own
pub own-numbers : (es : List Edge) (ws : List Departure) → AreDepartures es ws → (n : ℕ) (numbers : List ℕ) (marks : List Bool) → n ≡ length ws → length numbers ≡ length es → TellStarts es numbers → AreMarkedUpTo ws n marks → HaveOwnNumbers numbers marks
own-numbers es ws are n numbers marks all sized tell marked i j hi hj unmarked same =
    let a = are.whole i (omega arith) in let w = a.0 in let m = a.1.0 in
    let b = are.whole j (omega arith) in let v = b.0 in let o = b.1.0 in
    let right_w : IsDepartureOf es w = All-contains (IsDepartureOf es) ws w are.right a.1 in
    let right_v : IsDepartureOf es v = All-contains (IsDepartureOf es) ws v are.right b.1 in
    let points : v.edge.now.from ≡ w.edge.now.from = same-some v.edge.now.from w.edge.now.from (sym right_v.from ∙ (ap (start_at es) b.2 ∙ (sym ((tell i j (omega arith) (omega arith)).0 same) ∙ (ap (start_at es) (sym a.2) ∙ right_w.from)))) in
    let at_m : get_or ws m w ≡ w = a.1.2 in
    let at_o : get_or ws o w ≡ v = get_or_default ws o w v b.1.1 ∙ b.1.2 in
    let from_o : (get_or ws o w).edge.now.from ≡ (get_or ws m w).edge.now.from = ap (λ (u : Departure). u.edge.now.from) at_o ∙ (points ∙ ap (λ (u : Departure). u.edge.now.from) (sym at_m)) in
    let alone : IsAlone ws m = marked m w (let inside = a.1.1 in omega arith) a.1.1 (ap (λ (u : Departure). get_or marks u.place true) at_m ∙ (ap (λ k. get_or marks k true) a.2 ∙ unmarked)) in
    ⊎_elim
    (λ early. absurd (clash (lt (get_or ws o w).edge.now.from (get_or ws m w).edge.now.from) ((alone.first w).0 o w (omega arith) early) (ap (λ p. lt p (get_or ws m w).edge.now.from) from_o ∙ lt-itself (get_or ws m w).edge.now.from)))
    (λ from. ⊎_elim
    (λ late.
    let inside = b.1.1 in
    let up : lt (get_or ws m w).edge.now.from (get_or ws (m + 1) w).edge.now.from ≡ true = alone.last w (omega arith) in
    absurd (clash (lt (get_or ws o w).edge.now.from (get_or ws (m + 1) w).edge.now.from) (ap (λ p. lt p (get_or ws (m + 1) w).edge.now.from) from_o ∙ up) (are.rising (m + 1) o w (omega arith) inside)))
    (λ upto.
    let one : m ≡ o = omega arith in
    sym a.2 ∙ (ap (λ (u : Departure). u.place) (sym at_m ∙ (ap (λ k. get_or ws k w) one ∙ at_o)) ∙ b.2))
    (cases_lt m o))
    (cases_lt o m)
