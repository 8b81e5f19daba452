-- A loop that lists what it takes of each item, or of each held object that passes.
use Rattle.std.proofs.Common.{◌≡◌, ◌∙◌, ◌+◌, ◌<◌, ◌++◌, ◌∷◌, [], ℕ, Bool, true, false, List, append-nil, append_assoc, ap, drop, filter, get_or, length, map, refl, sym, take, ◌≤◌}
use Rattle.std.proofs.lemmas.List.{drop_all, drop_more, map-append, take_more}
use Rattle.osm_elements.specs.declared.object.Object.{Object}
use Rattle.osm_objects.specs.declared.held.Placed.{Placed}
use Rattle.osm_objects.specs.Others.{object_held}
use Rattle.osm_objects.proofs.StoreLemmas.{objects_from}

-- ---- of each item

pub one_more : {X Y : Type 0} (f : X → Y) (before now : List Y) (xs : List X) (k : ℕ) (x : X) → k < length xs → x ≡ get_or xs k x → now ≡ before ++ map f (take k xs) →
    now ++ f x ∷ [] ≡ before ++ map f (take (k + 1) xs)
one_more {X} {Y} f before now xs k x less is e =
    ap (λ (ys : List Y). ys ++ f x ∷ []) e ∙ append_assoc before (map f (take k xs)) (f x ∷ [])
    ∙ ap (λ (ys : List Y). before ++ ys) (ap (λ (z : X). map f (take k xs) ++ f z ∷ []) is ∙ sym (map-append f (take k xs) (get_or xs k x ∷ [])) ∙ ap (map f) (sym (take_more xs k x less)))

-- ---- of each held object that passes

passed : {Y : Type 0} (p : Object → Bool) (f : Object → Y) (o : Object) (os : List Object) → p o ≡ true → map f (filter p (o ∷ os)) ≡ f o ∷ map f (filter p os)
passed p f o os passes = rw passes refl

failed : {Y : Type 0} (p : Object → Bool) (f : Object → Y) (o : Object) (os : List Object) → p o ≡ false → map f (filter p (o ∷ os)) ≡ map f (filter p os)
failed p f o os fails = rw fails refl

module _ {Y : Type 0} (p : Object → Bool) (f : Object → Y) (held : List Placed) (k : ℕ) (list whole : List Y) where
  -- what the objects from a place on give
  abbrev from : ℕ → List Y
  from i = map f (filter p (objects_from (drop i held)))

  next : (e : Placed) → k < length held → e ≡ get_or held k e → objects_from (drop k held) ≡ object_held e ∷ objects_from (drop (k + 1) held)
  next e less is = ap objects_from (drop_more held k e less) ∙ ap (λ (q : Placed). object_held q ∷ objects_from (drop (k + 1) held)) (sym is)

  pub one_listed : (e : Placed) → k < length held → e ≡ get_or held k e → p (object_held e) ≡ true → list ++ from k ≡ whole → (list ++ f (object_held e) ∷ []) ++ from (k + 1) ≡ whole
  one_listed e less is passes so_far =
      append_assoc list (f (object_held e) ∷ []) (from (k + 1))
      ∙ ap (λ (ys : List Y). list ++ ys) (sym (ap (λ (os : List Object). map f (filter p os)) (next e less is) ∙ passed p f (object_held e) (objects_from (drop (k + 1) held)) passes)) ∙ so_far

  pub one_left_out : (e : Placed) → k < length held → e ≡ get_or held k e → p (object_held e) ≡ false → list ++ from k ≡ whole → list ++ from (k + 1) ≡ whole
  one_left_out e less is fails so_far =
      ap (λ (ys : List Y). list ++ ys) (sym (ap (λ (os : List Object). map f (filter p os)) (next e less is) ∙ failed p f (object_held e) (objects_from (drop (k + 1) held)) fails)) ∙ so_far

  pub all_listed : length held ≤ k → list ++ from k ≡ whole → list ≡ whole
  all_listed end so_far =
      sym (append-nil list) ∙ ap (λ (more : List Placed). list ++ map f (filter p (objects_from more))) (sym (drop_all k held end)) ∙ so_far
