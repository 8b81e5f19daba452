-- Of equal keys the first alone, one tag more at a time.
use Rattle.std.proofs.Common.{◌≡◌, ℕ, ◌+◌, ◌<◌, ◌≤◌, min, Bool, true, false, cond, not, ◌||◌, List, [], ◌∷◌, ◌++◌, length, take, drop, Some, refl, sym, ap, subst, Result, Ok, Err, ◌∙◌, inl, inr, arith}
use native.Mathlib.Numerals.{unary_clauses}
use Rattle.std.specs.BTreeSet.{BTreeSet, contains_text, IsEmpty}
use Rattle.std.specs.List.{list_any, filter}
use Rattle.std.specs.Str.{bytes_eq}
use Rattle.std.specs.declared.string.String.{String}
use Rattle.std.proofs.lemmas.Bool.{cases_Bool, cases_lt, cond-true, cond-false, false_from_ne_true, or_parts, false≢true}
use Rattle.std.proofs.lemmas.List.{take_all, drop_all, take-append-drop, drop-append-le, length-append}
use Rattle.std.proofs.lemmas.List.Folds.{list_any-append}
use Rattle.std.proofs.lemmas.Slice.Eq.{bytes_eq-Decides}
use Rattle.osm_elements.specs.declared.object.Tag.{Tag}
use Rattle.opl_reader.specs.declared.fault.LineFault.{LineFault}
use Rattle.opl_reader.specs.declared.fault.LineError.{LineError}
use Rattle.opl_reader.specs.declared.fault.LineError.TheVariants.{Fault, OutOfMemory}
use Rattle.opl_reader.specs.Reading.{◌>>=◌, Fails}
use Rattle.opl_reader.specs.Items.{first_of_each}
use Rattle.opl_reader.specs.StringReading.{string_of, string_at}
use Rattle.opl_reader.specs.ItemReading.{halves, tag_at}
use Rattle.opl_reader.specs.Steps.{tag, kept_with, kept_at, HasKeysOf}

-- a tag has this key
abbrev pub has_this : List ℕ → Tag → Bool
has_this key t = bytes_eq t.key key

abbrev without : List ℕ → List Tag → List Tag
without key tags = filter (λ u. not (bytes_eq u.key key)) tags

same_key : (a b : List ℕ) → bytes_eq a b ≡ true → a ≡ b
same_key a b e = (bytes_eq-Decides a b).0 e

other_way : (a b : List ℕ) → bytes_eq a b ≡ false → bytes_eq b a ≡ false
other_way a b e = false_from_ne_true (bytes_eq b a) (λ t. false≢true (sym e ∙ (bytes_eq-Decides a b).1 (sym (same_key b a t))))

-- what goes has another key than this
any-without : (gone key : List ℕ) (tags : List Tag) → bytes_eq gone key ≡ false → list_any (has_this key) (without gone tags) ≡ list_any (has_this key) tags
any-without gone key [] ne = refl
any-without gone key (t ∷ tags) ne =
    elim (cases_Bool (bytes_eq t.key gone)) [
      | inl e ↦
          let k : bytes_eq t.key key ≡ false = ap (λ (x : List ℕ). bytes_eq x key) (same_key t.key gone e) ∙ ne in
          rw (e, k) (any-without gone key tags ne)
      | inr e ↦ rw e (ap (λ (b : Bool). bytes_eq t.key key || b) (any-without gone key tags ne))
    ]

without-push-gone : (gone : List ℕ) (tags : List Tag) (t : Tag) → bytes_eq t.key gone ≡ true → without gone (tags ++ t ∷ []) ≡ without gone tags
without-push-gone gone [] t e = rw e refl
without-push-gone gone (u ∷ tags) t e = ap (λ (r : List Tag). cond (not (bytes_eq u.key gone)) (u ∷ r) r) (without-push-gone gone tags t e)

without-push-kept : (gone : List ℕ) (tags : List Tag) (t : Tag) → bytes_eq t.key gone ≡ false → without gone (tags ++ t ∷ []) ≡ without gone tags ++ t ∷ []
without-push-kept gone [] t e = rw e refl
without-push-kept gone (u ∷ tags) t e =
    elim (cases_Bool (bytes_eq u.key gone)) [
      | inl k ↦ rw k (without-push-kept gone tags t e)
      | inr k ↦ rw k (ap (λ (r : List Tag). u ∷ r) (without-push-kept gone tags t e))
    ]

pub push-new : (tags : List Tag) (t : Tag) → list_any (has_this t.key) (first_of_each tags) ≡ false → first_of_each (tags ++ t ∷ []) ≡ first_of_each tags ++ t ∷ []
push-new [] t h = refl
push-new (u ∷ tags) t h =
    let parts = or_parts (bytes_eq u.key t.key) (list_any (has_this t.key) (without u.key (first_of_each tags))) h in
    let none : list_any (has_this t.key) (first_of_each tags) ≡ false = sym (any-without u.key t.key (first_of_each tags) parts.0) ∙ parts.1 in
    ap (λ (r : List Tag). u ∷ r) (ap (without u.key) (push-new tags t none) ∙ without-push-kept u.key (first_of_each tags) t (other_way u.key t.key parts.0))

pub push-old : (tags : List Tag) (t : Tag) → list_any (has_this t.key) (first_of_each tags) ≡ true → first_of_each (tags ++ t ∷ []) ≡ first_of_each tags
push-old [] t h = absurd (false≢true h)
push-old (u ∷ tags) t h =
    ap (λ (r : List Tag). u ∷ r) (elim (cases_Bool (bytes_eq u.key t.key)) [
      | inl e ↦
          let gone : bytes_eq t.key u.key ≡ true = (bytes_eq-Decides t.key u.key).1 (sym (same_key u.key t.key e)) in
          elim (cases_Bool (list_any (has_this t.key) (first_of_each tags))) [
            | inl in_tags ↦ ap (without u.key) (push-old tags t in_tags)
            | inr new_one ↦ ap (without u.key) (push-new tags t new_one) ∙ without-push-gone u.key (first_of_each tags) t gone
          ]
      | inr ne ↦
          let some : list_any (has_this t.key) (without u.key (first_of_each tags)) ≡ true = sym (ap (λ (b : Bool). b || list_any (has_this t.key) (without u.key (first_of_each tags))) ne) ∙ h in
          ap (without u.key) (push-old tags t (sym (any-without u.key t.key (first_of_each tags) ne) ∙ some))
    ])

pub push-kept : (front : List Tag) (t : Tag) → kept_with (first_of_each front) t ≡ first_of_each (front ++ t ∷ [])
push-kept front t =
    elim (cases_Bool (list_any (has_this t.key) (first_of_each front))) [
      | inl old ↦ cond-true _ (first_of_each front) (first_of_each front ++ t ∷ []) old ∙ sym (push-old front t old)
      | inr new_one ↦ cond-false _ (first_of_each front) (first_of_each front ++ t ∷ []) new_one ∙ sym (push-new front t new_one)
    ]

-- ---- keys of later tags

pub no-keys : {Y : Type 0} (keys : BTreeSet (String Y)) → IsEmpty keys → HasKeysOf keys []
no-keys keys none = λ key. rw none refl

-- the first tags and those behind them
any-parts : (n few : ℕ) (key : List ℕ) (tags : List Tag) → few ≡ min (length tags) n → (list_any (has_this key) (take few tags) || list_any (has_this key) (drop n tags)) ≡ list_any (has_this key) tags
any-parts n few key tags is =
    let same : take few tags ≡ take n tags = elim (cases_lt (length tags) n) [
      | inl lt ↦ take_all few tags (omega arith) ∙ sym (take_all n tags (omega arith))
      | inr le ↦ let k : few ≡ n = omega arith in rw k refl
    ] in
    rw same (sym (list_any-append (has_this key) (take n tags) (drop n tags)) ∙ ap (list_any (has_this key)) (take-append-drop n tags))

-- the key is none of the first tags'
pub any-later : (n few : ℕ) (key : List ℕ) (tags : List Tag) (found : Bool) → few ≡ min (length tags) n → false ≡ list_any (has_this key) (take few tags) → found ≡ list_any (has_this key) (drop n tags) → found ≡ list_any (has_this key) tags
any-later n few key tags found is none later = later ∙ ap (λ (b : Bool). b || list_any (has_this key) (drop n tags)) none ∙ any-parts n few key tags is

-- a tag more of the first few
pub keys-few : {Y : Type 0} (n : ℕ) (keys : BTreeSet (String Y)) (tags : List Tag) (t : Tag) → length tags < n → HasKeysOf keys (drop n tags) → HasKeysOf keys (drop n (tags ++ t ∷ []))
keys-few n keys tags t lt has =
    let before : drop n tags ≡ [] = drop_all n tags (omega arith) in
    let after : drop n (tags ++ t ∷ []) ≡ [] = drop_all n (tags ++ t ∷ []) (omega (arith, length-append tags (t ∷ []))) in
    subst (HasKeysOf keys) (before ∙ sym after) has

-- a later tag more, whose key is added
pub keys-more : {Y : Type 0} (n : ℕ) (old new : BTreeSet (String Y)) (tags : List Tag) (t : Tag) → n ≤ length tags → HasKeysOf old (drop n tags)
    → ((key : List ℕ) → contains_text new key ≡ cond (bytes_eq t.key key) true (contains_text old key)) → HasKeysOf new (drop n (tags ++ t ∷ []))
keys-more n old new tags t le has added = λ key.
    added key
    ∙ ap (λ (b : Bool). cond (bytes_eq t.key key) true b) (has key)
    ∙ either-way (bytes_eq t.key key) (list_any (has_this key) (drop n tags))
    ∙ sym (list_any-append (has_this key) (drop n tags) (t ∷ []))
    ∙ ap (list_any (has_this key)) (sym (drop-append-le n tags (t ∷ []) le))
  where
    either-way : (b c : Bool) → cond b true c ≡ (c || (b || false))
    either-way true true = refl
    either-way true false = refl
    either-way false true = refl
    either-way false false = refl

-- ---- the first few, one by one

pub few_none : (key : List ℕ) (n : ℕ) (rest : List Tag) (b : Bool) → rest ≡ [] → list_any (has_this key) (take n rest) ≡ b → false ≡ b
few_none key n rest b none is = sym (subst (λ (zs : List Tag). list_any (has_this key) zs ≡ false) (sym (ap (take n) none ∙ take_all n [] (omega arith))) refl) ∙ is

few_cons : (n m : ℕ) (rest more : List Tag) (t : Tag) → m + 1 ≡ n → rest ≡ t ∷ more → take n rest ≡ t ∷ take m more
few_cons n m rest more t one is = rw (← one, is) (simp unary_clauses refl)

pub few_hit : (key : List ℕ) (n m : ℕ) (rest more : List Tag) (t : Tag) (b : Bool) → m + 1 ≡ n → rest ≡ t ∷ more → bytes_eq t.key key ≡ true → list_any (has_this key) (take n rest) ≡ b → true ≡ b
few_hit key n m rest more t b one is here any = sym (rw (few_cons n m rest more t one is) (rw here refl)) ∙ any

pub few_miss : (key : List ℕ) (n m : ℕ) (rest more : List Tag) (t : Tag) (b : Bool) → m + 1 ≡ n → rest ≡ t ∷ more → bytes_eq t.key key ≡ false → list_any (has_this key) (take n rest) ≡ b → list_any (has_this key) (take m more) ≡ b
few_miss key n m rest more t b one is here any = sym (ap (λ (c : Bool). c || list_any (has_this key) (take m more)) here) ∙ (sym (ap (list_any (has_this key)) (few_cons n m rest more t one is)) ∙ any)

pub few_end : (key : List ℕ) (n : ℕ) (rest : List Tag) (b : Bool) → n ≡ 0 → list_any (has_this key) (take n rest) ≡ b → false ≡ b
few_end key n rest b none is = subst (λ (k : ℕ). list_any (has_this key) (take k rest) ≡ b) none is

pub any-later-few : (n : ℕ) (key : List ℕ) (tags : List Tag) (found : Bool) → false ≡ list_any (has_this key) (take n tags) → found ≡ list_any (has_this key) (drop n tags) → found ≡ list_any (has_this key) tags
any-later-few n key tags found none later =
    later ∙ (ap (λ (b : Bool). b || list_any (has_this key) (drop n tags)) none ∙ (sym (list_any-append (has_this key) (take n tags) (drop n tags)) ∙ ap (list_any (has_this key)) (take-append-drop n tags)))

pub any-early-few : (n : ℕ) (key : List ℕ) (tags : List Tag) → true ≡ list_any (has_this key) (take n tags) → true ≡ list_any (has_this key) tags
any-early-few n key tags some =
    ap (λ (b : Bool). b || list_any (has_this key) (drop n tags)) some ∙ (sym (list_any-append (has_this key) (take n tags) (drop n tags)) ∙ ap (list_any (has_this key)) (take-append-drop n tags))

-- ---- the tag of an item

pub kept_from : (r : Result Tag LineFault) (tags new : List Tag) → (r >>= λ t. Ok (kept_with tags t)) ≡ Ok new → (t : Tag) × (r ≡ Ok t) × (kept_with tags t ≡ new)
kept_from (Ok t) tags new e = (t, refl, cc)
kept_from (Err f) tags new e = absurd cc

pub not_kept : (r : Result Tag LineFault) (tags : List Tag) (err : LineError) → Fails err (r >>= λ t. Ok (kept_with tags t)) → Fails err r
not_kept (Ok t) tags OutOfMemory h = tt
not_kept (Err g) tags OutOfMemory h = tt
not_kept (Ok t) tags (Fault f) h = absurd cc
not_kept (Err g) tags (Fault f) h = cc

plain_tag : (place : ℕ) (item key value : List ℕ) → Some (key, value) ≡ halves 61 item → string_of key ≡ Some key → string_of value ≡ Some value → tag_at place item ≡ Ok (tag key value)
unfolding tag_at string_at
plain_tag place item key value cut k v = rw (sym cut, k, v) refl

-- a key and a value that stand for themselves
pub plain_kept : (tags : List Tag) (place : ℕ) (item key value : List ℕ) → Some (key, value) ≡ halves 61 item → string_of key ≡ Some key → string_of value ≡ Some value
    → kept_at tags place item ≡ Ok (kept_with tags (tag key value))
plain_kept tags place item key value cut k v = ap (λ (r : Result Tag LineFault). r >>= λ t. Ok (kept_with tags t)) (plain_tag place item key value cut k v)
