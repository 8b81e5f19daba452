-- The object of tags: its keys rise, and each key has the first of the tags that have it.
use Rattle.std.proofs.Common.{◌≡◌, ◌∙◌, ℕ, Bool, true, false, cond, ◌||◌, List, [], ◌∷◌, Option, None, Some, is_some, fold, bytes_eq, if◌then◌else◌, nat_cmp, Ordering, Less, Equal, Greater, is_eq, true≢false, refl, sym, ap}
use Rattle.std.specs.List.{list_any}
use Rattle.std.specs.Option.{option_or}
use Rattle.std.specs.Ordering.{match_ordering, ordering_reverse}
use Rattle.std.specs.Cmp.Lexicographic.{slice_cmp}
use Rattle.std.proofs.lemmas.Cmp.{nat_list_cmp_total}
use Rattle.std.proofs.lemmas.Slice.Eq.{bytes_eq-Decides}
use Rattle.std.proofs.lemmas.Map.Text.{is_eq-slice_cmp}
use Rattle.osm_elements.specs.declared.object.Tag.{Tag}
use Rattle.osm_text.specs.Properties.{IsBelow, KeysRise, by_key, first_tag_with, put_tag, with_tag}
use Rattle.osm_text.proofs.PropertyLemmas.{or-left, or-right}

-- ---- keys rise

-- what stands before all of the tags and before t stands before what `put_tag` leaves
below-put : (u t : Tag) (tags : List Tag) → slice_cmp nat_cmp u.key t.key ≡ Less → IsBelow u tags → IsBelow u (put_tag t tags)
below-put u t [] before below = before
below-put u t (w ∷ tags) before below = by (slice_cmp nat_cmp t.key w.key)
  where
    by : (o : Ordering) → IsBelow u (match_ordering o (t ∷ w ∷ tags) (w ∷ put_tag t tags) (w ∷ put_tag t tags))
    by Less = before
    by Equal = below
    by Greater = below

put-rises : (t : Tag) (tags : List Tag) → list_any (λ u. bytes_eq t.key u.key) tags ≡ false → KeysRise tags → KeysRise (put_tag t tags)
put-rises t [] absent rise = (tt, tt)
put-rises t (u ∷ tags) absent rise =
    by (slice_cmp nat_cmp t.key u.key) refl (is_eq-slice_cmp t.key u.key ∙ or-left (bytes_eq t.key u.key) (list_any (λ w. bytes_eq t.key w.key) tags) absent) (put-rises t tags (or-right (bytes_eq t.key u.key) (list_any (λ w. bytes_eq t.key w.key) tags) absent) rise.1)
  where
    by : (o : Ordering) → slice_cmp nat_cmp t.key u.key ≡ o → is_eq (slice_cmp nat_cmp t.key u.key) ≡ false → KeysRise (put_tag t tags) → KeysRise (match_ordering o (t ∷ u ∷ tags) (u ∷ put_tag t tags) (u ∷ put_tag t tags))
    by Less is apart rest = (is, rise)
    by Equal is apart rest = absurd (true≢false (sym (ap is_eq is) ∙ apart))
    by Greater is apart rest = (below-put u t tags (nat_list_cmp_total.antisymm u.key t.key ∙ ap ordering_reverse is) rise.0, rest)

with-rises : (tags : List Tag) (t : Tag) → KeysRise tags → KeysRise (with_tag tags t)
with-rises tags t rise = by (list_any (λ u. bytes_eq t.key u.key) tags) refl
  where
    by : (b : Bool) → list_any (λ u. bytes_eq t.key u.key) tags ≡ b → KeysRise (if b then tags else put_tag t tags)
    by true there = rise
    by false absent = put-rises t tags absent rise

all-rise : (done tags : List Tag) → KeysRise done → KeysRise (fold with_tag done tags)
all-rise done [] rise = rise
all-rise done (t ∷ tags) rise = all-rise (with_tag done t) tags (with-rises done t rise)

pub by_key_rises : (tags : List Tag) → KeysRise (by_key tags)
by_key_rises tags = all-rise [] tags tt

-- ---- each key has its first tag

put-other : (key : List ℕ) (t : Tag) (done : List Tag) → bytes_eq key t.key ≡ false → first_tag_with key (put_tag t done) ≡ first_tag_with key done
put-other key t [] other = rw other refl
put-other key t (u ∷ done) other = by (slice_cmp nat_cmp t.key u.key) (put-other key t done other)
  where
    by : (o : Ordering) → first_tag_with key (put_tag t done) ≡ first_tag_with key done → first_tag_with key (match_ordering o (t ∷ u ∷ done) (u ∷ put_tag t done) (u ∷ put_tag t done)) ≡ first_tag_with key (u ∷ done)
    by Less rest = rw other refl
    by Equal rest = ap (cond (bytes_eq key u.key) (Some u)) rest
    by Greater rest = ap (cond (bytes_eq key u.key) (Some u)) rest

put-own : (t : Tag) (done : List Tag) → list_any (λ u. bytes_eq t.key u.key) done ≡ false → bytes_eq t.key t.key ≡ true → first_tag_with t.key (put_tag t done) ≡ Some t
put-own t [] absent own = rw own refl
put-own t (u ∷ done) absent own =
    by (slice_cmp nat_cmp t.key u.key)
    (rw (or-left (bytes_eq t.key u.key) (list_any (λ w. bytes_eq t.key w.key) done) absent) (put-own t done (or-right (bytes_eq t.key u.key) (list_any (λ w. bytes_eq t.key w.key) done) absent) own))
  where
    by : (o : Ordering) → first_tag_with t.key (u ∷ put_tag t done) ≡ Some t → first_tag_with t.key (match_ordering o (t ∷ u ∷ done) (u ∷ put_tag t done) (u ∷ put_tag t done)) ≡ Some t
    by Less rest = rw own refl
    by Equal rest = rest
    by Greater rest = rest

is_some-find : (key : List ℕ) (tags : List Tag) → is_some (first_tag_with key tags) ≡ list_any (λ u. bytes_eq key u.key) tags
is_some-find key [] = refl
is_some-find key (u ∷ tags) = by (bytes_eq key u.key) (is_some-find key tags)
  where
    by : (b : Bool) → is_some (first_tag_with key tags) ≡ list_any (λ w. bytes_eq key w.key) tags → is_some (cond b (Some u) (first_tag_with key tags)) ≡ (b || list_any (λ w. bytes_eq key w.key) tags)
    by true rest = refl
    by false rest = rest

or-none : (o : Option Tag) → option_or o None ≡ o
or-none None = refl
or-none (Some t) = refl

or-some : (o : Option Tag) (t : Tag) → is_some o ≡ true → o ≡ option_or o (Some t)
or-some None t there = absurd (true≢false (sym there))
or-some (Some u) t there = refl

or-new : (o : Option Tag) (t : Tag) → is_some o ≡ false → Some t ≡ option_or o (Some t)
or-new None t there = refl
or-new (Some u) t there = absurd (true≢false there)

with-own : (t : Tag) (done : List Tag) → bytes_eq t.key t.key ≡ true → first_tag_with t.key (with_tag done t) ≡ option_or (first_tag_with t.key done) (Some t)
with-own t done own = by (list_any (λ u. bytes_eq t.key u.key) done) refl
  where
    by : (b : Bool) → list_any (λ u. bytes_eq t.key u.key) done ≡ b → first_tag_with t.key (if b then done else put_tag t done) ≡ option_or (first_tag_with t.key done) (Some t)
    by true there = or-some (first_tag_with t.key done) t (is_some-find t.key done ∙ there)
    by false absent = put-own t done absent own ∙ or-new (first_tag_with t.key done) t (is_some-find t.key done ∙ absent)

with-other : (key : List ℕ) (t : Tag) (done : List Tag) → bytes_eq key t.key ≡ false → first_tag_with key (with_tag done t) ≡ first_tag_with key done
with-other key t done other = by (list_any (λ u. bytes_eq t.key u.key) done)
  where
    by : (b : Bool) → first_tag_with key (if b then done else put_tag t done) ≡ first_tag_with key done
    by true = refl
    by false = put-other key t done other

with-at : (key : List ℕ) (t : Tag) (done : List Tag) → first_tag_with key (with_tag done t) ≡ option_or (first_tag_with key done) (cond (bytes_eq key t.key) (Some t) None)
with-at key t done = by (bytes_eq key t.key) refl
  where
    by : (b : Bool) → bytes_eq key t.key ≡ b → first_tag_with key (with_tag done t) ≡ option_or (first_tag_with key done) (cond b (Some t) None)
    by true same = let is : key ≡ t.key = (bytes_eq-Decides key t.key).0 same in rw is (with-own t done ((bytes_eq-Decides t.key t.key).1 refl))
    by false other = with-other key t done other ∙ sym (or-none (first_tag_with key done))

joined : (o : Option Tag) (b : Bool) (t : Tag) (rest : Option Tag) → option_or (option_or o (cond b (Some t) None)) rest ≡ option_or o (cond b (Some t) rest)
joined None true t rest = refl
joined None false t rest = refl
joined (Some u) b t rest = refl

fold-at : (key : List ℕ) (done tags : List Tag) → first_tag_with key (fold with_tag done tags) ≡ option_or (first_tag_with key done) (first_tag_with key tags)
fold-at key done [] = sym (or-none (first_tag_with key done))
fold-at key done (t ∷ tags) =
    fold-at key (with_tag done t) tags ∙ ap (λ (o : Option Tag). option_or o (first_tag_with key tags)) (with-at key t done) ∙ joined (first_tag_with key done) (bytes_eq key t.key) t (first_tag_with key tags)

pub first_stands : (tags : List Tag) (key : List ℕ) → first_tag_with key (by_key tags) ≡ first_tag_with key tags
first_stands tags key = fold-at key [] tags
