use Rattle.std.proofs.Common.{arith, ap, get_or, set, subst, sym, take, true, false, [], ◌++◌, ◌∷◌, ◌+◌, ◌-◌, ◌∙◌, ◌≡◌, ◌<◌}
use Rattle.lists.specs.Tallied.{IsCancelled}
use Rattle.lists.proofs.Items.{same_get}
use Rattle.lists.proofs.CancelSteps.{cancel_at, left_at}
use Rattle.lists.proofs.odd.cancel_in.Goals.{else-left-gt0-via-then-left-gt0+else-eq, else-left-gt0-via-else-left-gt0}
use Rattle.lists.proofs.odd.cancel_in.Goals as goal

pub returns-then-eq-clause-left : goal.returns-then-eq-clause-left
returns-then-eq-clause-left g c = λ passed x is inv upto.
    let items = c.args.items.now.items in let item = c.index.result.now in
    let same : item ≡ x = c.index.ensures ∙ (same_get items c.args.place item x c.requires.inside ∙ sym is) in
    let E = g.T.PartialEq.eq in
    let y = c.index-then-left-gt0.result.now in
    let tie : E y x ≡ true = ap (E y) (sym same) ∙ (sym c.eq.ensures ∙ c.if-eq.true) in
    let before = c.requires.before in let inside = c.requires.inside in
    cancel_at g.met.T.Ord.total g.met.T.Ord.matches_eq items c.args.left passed x y (omega arith) c.if-left-gt0.true c.index-then-left-gt0.ensures tie inv

pub returns-clause-left : goal.returns-clause-left
returns-clause-left g c = λ passed x is inv upto.
    let items = c.args.items.now.items in let left = c.args.left in let item = c.index.result.now in
    let same : x ≡ item = is ∙ (same_get items c.args.place x item c.requires.inside ∙ sym c.index.ensures) in
    let E = g.T.PartialEq.eq in
    let before = c.requires.before in let inside = c.requires.inside in
    let other : (d : g.row.T.Denot) → 0 < left → E (get_or items (left - 1) d) x ≡ false = elim c.else-left-gt0.branch [
      | else-left-gt0-via-then-left-gt0+else-eq w ↦ (λ d some.
          let y = w.index-then-left-gt0.result.now in
          let at : get_or items (left - 1) d ≡ y = same_get items (left - 1) d y (omega arith) ∙ sym w.index-then-left-gt0.ensures in
          ap (λ z. E z x) at ∙ (ap (E y) same ∙ (sym w.eq.ensures ∙ w.if-eq.false)))
      | else-left-gt0-via-else-left-gt0 w ↦ (λ d some. let none = w.if-left-gt0.false in absurd (omega arith))
    ] in
    let done = left_at g.met.T.Ord.total g.met.T.Ord.matches_eq items left passed x (omega arith) other inv upto in
    subst (λ z. IsCancelled g.T.Ord.cmp (passed ++ x ∷ []) (take (left + 1) (set items left z))) same done
