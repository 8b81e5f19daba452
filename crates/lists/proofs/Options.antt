-- Options.
use Rattle.std.proofs.Common.{None, Option, Some, false, is_some, option_map, refl, true, true≢false, ◌≡◌, ◌≢◌}
use Rattle.std.proofs.lemmas.Bool.{false≢true}

pub is_some-map : {A B : Type 0} (f : A → B) (o : Option A) → is_some (option_map f o) ≡ is_some o
is_some-map f None = refl
is_some-map f (Some x) = refl

pub none_from : {A : Type 0} (o : Option A) → is_some o ≡ false → o ≡ None
none_from None absent = refl
none_from (Some x) absent = absurd (true≢false absent)

pub some_not_none : {A : Type 0} (o : Option A) → is_some o ≡ true → o ≢ None
some_not_none None some none = absurd (false≢true some)
some_not_none (Some x) some none = absurd (cc)
