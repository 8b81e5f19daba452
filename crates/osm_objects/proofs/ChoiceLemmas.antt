-- The candidates of every choice are among those of the choice that keeps the untagged and has no lists.
use Rattle.std.proofs.Common.{◌≡◌, Bool, true, false, cond, ◌&&◌, ◌||◌, not, List, [], ◌∷◌, length, map, filter, nat_le, nat_lt, refl, All, codes}
use Rattle.std.specs.Prelude.{Contains}
use Rattle.std.proofs.lemmas.List.Elements.{All-nil, All-cons, All-weaker, Contains-append_left, Contains-append_right, Contains-push}
use Rattle.osm_elements.specs.declared.object.Tag.{Tag}
use Rattle.osm_elements.specs.declared.object.Object.{Object}
use Rattle.osm_elements.specs.declared.object.Object.TheVariants as object
use Rattle.osm_objects.specs.declared.choice.Choice.{Choice}
use Rattle.osm_objects.specs.Object.{ref_of}
use Rattle.osm_objects.specs.Tags.{is_tagged}
use Rattle.osm_objects.specs.Candidates.{area_tags, has_key_or_any, has_no_key, is_area_way, is_candidate, is_closed, may_have_area, candidates, without_lists}

-- ---- a wider test lets more pass

module _ {A B : Type 0} (f : A → B) (p q : A → Bool) (wider : (x : A) → p x ≡ true → q x ≡ true) where
  behind : (x : A) (xs ys : List A) → All (Contains (map f (filter q xs))) (map f ys) → All (Contains (f x ∷ map f (filter q xs))) (map f ys)
  behind x xs ys = All-weaker (Contains (map f (filter q xs))) (Contains (f x ∷ map f (filter q xs))) (Contains-append_right (f x ∷ []) (map f (filter q xs))) (map f ys)

  among : (xs : List A) → All (Contains (map f (filter q xs))) (map f (filter p xs))
  among [] = All-nil (Contains [])
  among (x ∷ xs) = by (p x) (q x) (wider x) (among xs)
    where
      by : (b c : Bool) → (b ≡ true → c ≡ true) → All (Contains (map f (filter q xs))) (map f (filter p xs))
          → All (Contains (map f (cond c (x ∷ filter q xs) (filter q xs)))) (map f (cond b (x ∷ filter p xs) (filter p xs)))
      by true true w rest =
          All-cons (Contains (f x ∷ map f (filter q xs))) (f x) (map f (filter p xs))
          (Contains-append_left (f x ∷ []) (map f (filter q xs)) (f x) (Contains-push [] (f x))) (behind x xs (filter p xs) rest)
      by true false w rest = let no : false ≡ true = w refl in absurd (cc)
      by false true w rest = behind x xs (filter p xs) rest
      by false false w rest = rest

-- ---- without lists more pass

area : (told barred free has : Bool) → (told || (not barred && free && has)) ≡ true → (told || (not barred && true && true)) ≡ true
area true barred free has is = refl
area false true free has is = absurd (cc)
area false false free has is = refl

way : (long closed a b : Bool) → (a ≡ true → b ≡ true) → (long && closed && a) ≡ true → (long && closed && b) ≡ true
way true true a b f is = f is
way true false a b f is = absurd (cc)
way false closed a b f is = absurd (cc)

wider-area : (choice : Choice) (tags : List Tag) → is_area_way choice tags ≡ true → is_area_way (without_lists true) tags ≡ true
wider-area choice tags =
    area (is_tagged (codes "area") (codes "yes") tags) (is_tagged (codes "area") (codes "no") tags) (has_no_key choice.linear_keys tags) (has_key_or_any choice.area_keys tags)

may : (choice : Choice) (o : Object) → may_have_area choice o ≡ true → may_have_area (without_lists true) o ≡ true
unfolding may_have_area
may choice (object.Node id live tags place) is = is
may choice (object.Way id live tags refs) is =
    way (nat_le 4 (length refs)) (is_closed refs) (is_area_way choice tags) (is_area_way (without_lists true) tags) (wider-area choice tags) is
may choice (object.Relation id live tags members) is = is

tagged : (m n keep has : Bool) → (m ≡ true → n ≡ true) → (m && (keep || has)) ≡ true → (n && (true || has)) ≡ true
tagged true n keep has f is = rw (f refl) refl
tagged false n keep has f is = absurd (cc)

wider-candidate : (choice : Choice) (o : Object) → is_candidate choice o ≡ true → is_candidate (without_lists true) o ≡ true
unfolding is_candidate
wider-candidate choice o is = tagged (may_have_area choice o) (may_have_area (without_lists true) o) choice.keep_untagged (nat_lt 0 (length (area_tags o))) (may choice o) is

pub widest : (choice : Choice) (objects : List Object) → All (Contains (candidates (without_lists true) objects)) (candidates choice objects)
widest choice objects = among ref_of (is_candidate choice) (is_candidate (without_lists true)) (wider-candidate choice) objects
