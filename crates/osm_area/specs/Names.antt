-- Names of ways. No public contract cites this.
use Rattle.std.specs.Prelude.{Bool, true, not, ◌&&◌, List, [], ◌∷◌, ℤ}
use Rattle.std.specs.List.{list_any}
use Rattle.std.specs.Ordering.{int_eq}

-- the name is one of these
abbrev pub has_name : List ℤ → ℤ → Bool
has_name names name = list_any (λ other. int_eq other name) names

-- none occurs again after itself
abbrev pub differ : List ℤ → Bool
differ [] = true
differ (name ∷ names) = not (has_name names name) && differ names
