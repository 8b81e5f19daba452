-- Truth values. What std says of them stands in its lemmas/Bool.
use Rattle.std.proofs.Common.{Bool, false, inl, inr, not, refl, sym, true, ◌&&◌, ◌||◌, ◌∙◌, ◌≡◌, ◌⊎◌}
use Rattle.std.proofs.lemmas.Bool.{and_parts}

pub and-left : (p q : Bool) → (p && q) ≡ true → p ≡ true
and-left p q h = (and_parts p q h).0

pub and-right : (p q : Bool) → (p && q) ≡ true → q ≡ true
and-right p q h = (and_parts p q h).1

pub or-out : (p q : Bool) → (p || q) ≡ true → (p ≡ true) ⊎ (q ≡ true)
or-out true q h = inl refl
or-out false q h = inr h

pub not-not : (p : Bool) → not (not p) ≡ p
not-not true = refl
not-not false = refl

pub not-true-out : (p : Bool) → not p ≡ true → p ≡ false
not-true-out false h = refl
not-true-out true h = absurd (cc h)

pub not-false-out : (p : Bool) → not p ≡ false → p ≡ true
not-false-out true h = refl
not-false-out false h = absurd (cc h)

pub not-same : (p q : Bool) → not p ≡ not q → p ≡ q
not-same true true h = refl
not-same false false h = refl
not-same true false h = absurd (cc h)
not-same false true h = absurd (cc h)

pub true_from_not : (p q : Bool) → p ≡ not q → p ≡ false → q ≡ true
true_from_not p true h k = refl
true_from_not p false h k = absurd (cc (sym h ∙ k))

pub false_from_not : (p q : Bool) → p ≡ not q → p ≡ true → q ≡ false
false_from_not p false h k = refl
false_from_not p true h k = absurd (cc (sym h ∙ k))

-- a test has one answer
pub clash : (b : Bool) → b ≡ true → b ≡ false → ⊥
clash b h k = cc
