-- The numbers tell the points apart, and an edge that isn't marked leaves one alone.
use Rattle.std.proofs.Common.{arith, false, get_or, length, refl, rules, subst, true, ◌∙◌, ◌≡◌}
use Rattle.std.proofs.lemmas.List.{length-set}
use Rattle.osm_rings.specs.Departures.{IsFirstAt}
use Rattle.osm_rings.proofs.SharedNodes.{IsAlone, marked-more, own-numbers}
use Rattle.osm_rings.proofs.Starts.{clash, numbered-all, numbered-more, numbers-below, numbers-tell}
use Rattle.osm_rings.proofs.nodes.nodes_of.Goals as goal
use Rattle.osm_rings.proofs.nodes.nodes_of.Goals.{then-number-place, else-number-place}

pub loop-place-init : goal.loop-place-init
loop-place-init c = record {
  sized = let l = c.in_ok-numbers.ensures.len in let ok = c.in_ok-numbers.numbers.ok.0 in omega (arith, l, ok);
  marked = let l = c.in_ok-shared.ensures.len in let ok = c.in_ok-shared.shared.ok.0 in omega (arith, l, ok);
  numbered = record { last = λ d h. absurd (omega arith); each = λ k d h. absurd (omega arith) };
  own = λ k d h. absurd (omega arith);
}

pub number_at-number-requires-clause-before : goal.number_at-number-requires-clause-before
number_at-number-requires-clause-before c = c.loop-place.invariant.numbered.last

pub loop-place-preserved : goal.loop-place-preserved
loop-place-preserved c =
    let es = c.args.edges.now in let ws = c.args.departures.now in let n = c.loop-place.place in
    let numbers = c.loop-place.numbers.items in let marks = c.loop-place.shared.items in let w = c.index-departures-place.result in
    let mark = c.if-number-place.value in
    let alone : mark ≡ false → IsAlone ws n = λ off.
    elim c.if-number-place.branch [
      | then-number-place v ↦ let on : mark ≡ true = search rules in absurd (clash mark on off)
      | else-number-place v ↦
          let here : c.number_at-number.result ≡ n = search rules in
          let last : v.is_last_there.result ≡ true = search rules in
          record {
            first = λ d. subst (IsFirstAt ws (get_or ws n d).edge.now.from) here (c.number_at-number.ensures d);
            last = λ d h. v.is_last_there.ensures last d h;
          }
    ] in
    record {
      sized = length-set numbers (get_or ws n w).place c.number_at-number.result ∙ c.loop-place.invariant.sized;
      marked = length-set marks (get_or ws n w).place mark ∙ c.loop-place.invariant.marked;
      numbered = numbered-more es ws c.requires.right n c.loop-place.number c.number_at-number.result numbers _ w c.loop-place-test.true c.index-departures-place.is c.loop-place.invariant.sized refl c.number_at-number.ensures c.loop-place.invariant.numbered;
      own = marked-more es ws c.requires.right n marks _ mark w c.loop-place-test.true c.index-departures-place.is c.loop-place.invariant.marked refl alone c.loop-place.invariant.own;
    }

pub returns-clause-below : goal.returns-clause-below
returns-clause-below c =
    let es = c.args.edges.now in let ws = c.args.departures.now in
    let whole : c.loop-place.place ≡ length ws = omega arith in
    numbers-below es ws c.requires c.loop-place.numbers.items (numbered-all es ws c.requires c.loop-place.place c.loop-place.number c.loop-place.numbers.items whole c.loop-place.invariant.sized c.loop-place.invariant.numbered)

pub returns-clause-tell : goal.returns-clause-tell
returns-clause-tell c =
    let es = c.args.edges.now in let ws = c.args.departures.now in
    let whole : c.loop-place.place ≡ length ws = omega arith in
    numbers-tell es ws c.requires c.loop-place.numbers.items (numbered-all es ws c.requires c.loop-place.place c.loop-place.number c.loop-place.numbers.items whole c.loop-place.invariant.sized c.loop-place.invariant.numbered)

pub returns-clause-own : goal.returns-clause-own
returns-clause-own c =
    let whole : c.loop-place.place ≡ length c.args.departures.now = omega arith in
    own-numbers c.args.edges.now c.args.departures.now c.requires c.loop-place.place c.loop-place.numbers.items c.loop-place.shared.items whole c.loop-place.invariant.sized (returns-clause-tell c) c.loop-place.invariant.own
