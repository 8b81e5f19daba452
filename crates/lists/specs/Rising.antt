-- Lists in strict order, and how often an item stands in a list.
use Rattle.std.specs.Prelude.{◌≡◌, ℕ, Bool, List, AllPairs, cond, count_by, min}
use Rattle.std.specs.declared.cmp.Ordering.{Ordering}
use Rattle.std.specs.declared.cmp.Ordering.TheVariants.{Less, Equal}
use Rattle.std.specs.Ordering.{is_eq}

-- each item is less than every later one
abbrev pub IsRising : {X : Type 0} → (X → X → Ordering) → List X → Type 0
IsRising cmp xs = AllPairs (λ x y. cmp x y ≡ Less) xs

-- how often an item stands in a list
abbrev pub count_of : {X : Type 0} → (X → X → Ordering) → X → List X → ℕ
count_of cmp x xs = count_by (λ y. is_eq (cmp y x)) xs

-- a list in strict order is determined by how often each item stands in it, where only one item ties with another: itself
abbrev pub CountsDetermine : {X : Type 0} → (X → X → Ordering) → Type 0
CountsDetermine {X} cmp =
    ((x y : X) → cmp x y ≡ Equal → x ≡ y) → (xs ys : List X) → IsRising cmp xs → IsRising cmp ys → ((x : X) → count_of cmp x xs ≡ count_of cmp x ys) → xs ≡ ys

-- of the items of a list, those that stand there a number of times that passes a test form a list in strict order
abbrev pub CountedListsExist : {X : Type 0} → (X → X → Ordering) → Type 0
CountedListsExist {X} cmp =
    (q : ℕ → Bool) (xs : List X) → (ys : List X) × IsRising cmp ys × ((x : X) → count_of cmp x ys ≡ cond (q (count_of cmp x xs)) (min 1 (count_of cmp x xs)) 0)
