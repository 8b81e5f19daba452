-- Texts in one block: those that stand behind their lengths, and usual ones.
use Rattle.std.proofs.Common.{◌≡◌, ◌∙◌, refl, sym, ap, subst, ℕ, zero, suc, ◌+◌, ◌*◌, ◌/◌, ◌%◌, ◌<◌, ◌≤◌, List, [], ◌∷◌, ◌++◌, length, take, drop, append-nil, append_assoc, length-append, length-drop, inl, inr, Result, Ok, Err, arith}
use Rattle.std.specs.Prelude.{slice_index, OnOk}
use Rattle.std.specs.Str.{IsUtf8}
use Rattle.std.proofs.lemmas.Bool.{cases_lt, lt-ltb, le-ltb}
use Rattle.std.proofs.lemmas.List.{take-append-le, drop-append-le, take_all, get_or_append_left}
use Rattle.std.proofs.Math.Seq.{drop-append_seam}
use Rattle.osm_elements.specs.declared.object.Tag.{Tag}
use Rattle.osm_elements.specs.declared.object.Member.{Member}
use Rattle.osm_elements.specs.declared.object.ObjectRef.{ObjectRef}
use Rattle.osm_elements.specs.Seen.{member_of}
use Rattle.osm_elements.specs.Packed.{usual_text, length_bytes, head_len, text_len, text_by, first_text, after_text, Tell, IsTextAdded, BothAdded, BeginsWithText, tags_in, AreKeysAndValues, members_in, HaveRoles}

pub as_many : (count : ℕ) (bytes : List ℕ) → length (tags_in count bytes) ≡ count
as_many zero bytes = refl
as_many (suc count) bytes = ap (λ (n : ℕ). suc n) (as_many count (after_text (after_text bytes)))

take_front : (n : ℕ) (xs ys : List ℕ) → n ≡ length xs → take n (xs ++ ys) ≡ xs
take_front n xs ys e = take-append-le n xs ys (omega arith) ∙ take_all n xs (omega arith)

drop_front : (n : ℕ) (xs ys : List ℕ) → n ≡ length xs → drop n (xs ++ ys) ≡ ys
drop_front n xs ys e = rw e (drop-append_seam xs ys)

-- ---- a text that was put behind its length

-- so many bytes in front tell this length, and none of them the text
pub record Tells (bytes : List ℕ) (count len : ℕ) : Type 0 where
  pub head : head_len bytes ≡ count
  pub text : text_len bytes ≡ len
  pub whole : (behind : List ℕ) → text_by (slice_index bytes 0) behind ≡ behind

digits : (n : ℕ) → n % 256 + 256 * (n / 256 % 256) + 65536 * (n / 65536 % 256) + 16777216 * (n / 16777216) ≡ n
digits n = omega arith

length_told : (n : ℕ) (more : List ℕ) → Tells (length_bytes n ++ more) (length (length_bytes n)) n
unfolding length_bytes head_len text_len text_by
length_told n more =
    elim (cases_lt n 192) [
      | inl lt ↦
          let below : n < 255 = omega arith in
          rw (lt-ltb n 192 lt) (record { head = rw (lt-ltb n 255 below) refl; text = rw (lt-ltb n 192 lt) refl; whole = λ behind. rw (lt-ltb n 192 lt) refl })
      | inr le ↦ rw (le-ltb n 192 le) (record { head = refl; text = digits n; whole = λ behind. refl })
    ]

-- a text behind its length
abbrev whole_text : List ℕ → List ℕ
whole_text text = length_bytes (length text) ++ text

told : (text more : List ℕ) → Tells (whole_text text ++ more) (length (length_bytes (length text))) (length text)
told text more = subst (λ (b : List ℕ). Tells b (length (length_bytes (length text))) (length text)) (sym (append_assoc (length_bytes (length text)) text more)) (length_told (length text) (text ++ more))

behind_head : (text more : List ℕ) → drop (head_len (whole_text text ++ more)) (whole_text text ++ more) ≡ text ++ more
behind_head text more =
    ap (λ (n : ℕ). drop n (whole_text text ++ more)) (told text more).head
    ∙ ap (drop (length (length_bytes (length text)))) (append_assoc (length_bytes (length text)) text more)
    ∙ drop_front (length (length_bytes (length text))) (length_bytes (length text)) (text ++ more) refl

first_is : (text more : List ℕ) → first_text (whole_text text ++ more) ≡ text
first_is text more =
    (told text more).whole _
    ∙ ap (take (text_len (whole_text text ++ more))) (behind_head text more)
    ∙ take_front (text_len (whole_text text ++ more)) text more (told text more).text

after_is : (text more : List ℕ) → after_text (whole_text text ++ more) ≡ more
after_is text more = ap (drop (text_len (whole_text text ++ more))) (behind_head text more) ∙ drop_front (text_len (whole_text text ++ more)) text more (told text more).text

has_room : (text more : List ℕ) → head_len (whole_text text ++ more) + text_len (whole_text text ++ more) ≤ length (whole_text text ++ more)
has_room text more =
    let t = told text more in
    let h = t.head in
    let l = t.text in
    let a = length-append (whole_text text) more in
    let b = length-append (length_bytes (length text)) text in
    omega arith

whole_tells : (text : List ℕ) → Tell text (whole_text text)
whole_tells text = record { first = first_is text; after = after_is text; room = has_room text }

-- ---- a usual text

code_tells : (code : ℕ) (text : List ℕ) → 192 ≤ code → code < 255 → usual_text code ≡ text → Tell text (code ∷ [])
unfolding head_len text_len text_by
code_tells code text le lt is = record {
  first = λ more. rw (le-ltb code 192 le, lt-ltb code 255 lt) is;
  after = λ more. rw (le-ltb code 192 le, lt-ltb code 255 lt) refl;
  room = λ more. rw (le-ltb code 192 le, lt-ltb code 255 lt) (omega arith);
}

-- ---- as `push_text` knows them

pub usual_added : {X E : Type 0} (before text after : List ℕ) (code : ℕ) (r : Result X E) → 192 ≤ code → code < 255 → usual_text code ≡ text → OnOk r (after ≡ before ++ code ∷ []) → OnOk r (IsTextAdded before text after)
usual_added before text after code (Ok x) le lt is added = record { bytes = code ∷ []; is = added; tell = code_tells code text le lt is }
usual_added before text after code (Err e) le lt is added = tt

pub whole_added : {X E : Type 0} (before text after : List ℕ) (r : Result X E) → OnOk r (after ≡ before ++ whole_text text) → OnOk r (IsTextAdded before text after)
whole_added before text after (Ok x) added = record { bytes = whole_text text; is = added; tell = whole_tells text }
whole_added before text after (Err e) added = tt

-- ---- a text in front of others

begins : (text bytes more : List ℕ) → Tell text bytes → IsUtf8 text → BeginsWithText (bytes ++ more)
begins text bytes more t utf8 = record { room = t.room more; utf8 = subst IsUtf8 (sym (t.first more)) utf8 }

-- ---- more bytes behind a text

pub some_head : (bytes : List ℕ) → 0 < head_len bytes
unfolding head_len
some_head bytes = elim (cases_lt (slice_index bytes 0) 255) [
  | inl lt ↦ rw (lt-ltb _ 255 lt) (omega arith)
  | inr le ↦ rw (le-ltb _ 255 le) (omega arith)
]

-- more bytes behind change neither length
record Same (bytes more : List ℕ) : Type 0 where
  head : head_len (bytes ++ more) ≡ head_len bytes
  text : text_len (bytes ++ more) ≡ text_len bytes

told_by : (bytes more : List ℕ) → slice_index (bytes ++ more) 0 ≡ slice_index bytes 0 → head_len bytes ≤ length bytes → Same bytes more
unfolding head_len text_len
told_by bytes more e room =
    elim (cases_lt (slice_index bytes 0) 255) [
      | inl lt ↦ record { head = rw (e, lt-ltb _ 255 lt) refl; text = rw (e, lt-ltb _ 255 lt) refl }
      | inr le ↦
          let above : 192 ≤ slice_index bytes 0 = omega arith in
          let five : 5 ≤ length bytes = rw (le-ltb _ 255 le) at room in
          let at : (k : ℕ) → k < 5 → slice_index (bytes ++ more) k ≡ slice_index bytes k = λ k lt. get_or_append_left bytes more 0 k (omega arith) in
          let a = at 1 (omega arith) in
          let b = at 2 (omega arith) in
          let c = at 3 (omega arith) in
          let d = at 4 (omega arith) in
          record { head = rw (e, le-ltb _ 255 le) refl; text = rw (e, le-ltb _ 192 above, le-ltb _ 255 le, a, b, c, d) refl }
    ]

same_first : (bytes more : List ℕ) → BeginsWithText bytes → slice_index (bytes ++ more) 0 ≡ slice_index bytes 0
same_first bytes more b =
    let some = some_head bytes in
    let room = b.room in
    get_or_append_left bytes more 0 0 (omega arith)

same_told : (bytes more : List ℕ) → BeginsWithText bytes → Same bytes more
same_told bytes more b = let room = b.room in told_by bytes more (same_first bytes more b) (omega arith)

behind_more : (bytes more : List ℕ) → BeginsWithText bytes → drop (head_len (bytes ++ more)) (bytes ++ more) ≡ drop (head_len bytes) bytes ++ more
behind_more bytes more b =
    let room = b.room in
    ap (λ (n : ℕ). drop n (bytes ++ more)) (same_told bytes more b).head ∙ drop-append-le (head_len bytes) bytes more (omega arith)

behind_first : (bytes more : List ℕ) → BeginsWithText bytes → take (text_len (bytes ++ more)) (drop (head_len (bytes ++ more)) (bytes ++ more)) ≡ take (text_len bytes) (drop (head_len bytes) bytes)
behind_first bytes more b =
    let room = b.room in
    let n = length-drop (head_len bytes) bytes in
    ap (take (text_len (bytes ++ more))) (behind_more bytes more b)
    ∙ ap (λ (k : ℕ). take k (drop (head_len bytes) bytes ++ more)) (same_told bytes more b).text
    ∙ take-append-le (text_len bytes) (drop (head_len bytes) bytes) more (omega arith)

first_more : (bytes more : List ℕ) → BeginsWithText bytes → first_text (bytes ++ more) ≡ first_text bytes
first_more bytes more b =
    ap (λ (k : ℕ). text_by k (take (text_len (bytes ++ more)) (drop (head_len (bytes ++ more)) (bytes ++ more)))) (same_first bytes more b)
    ∙ ap (text_by (slice_index bytes 0)) (behind_first bytes more b)

after_more : (bytes more : List ℕ) → BeginsWithText bytes → after_text (bytes ++ more) ≡ after_text bytes ++ more
after_more bytes more b =
    let room = b.room in
    let n = length-drop (head_len bytes) bytes in
    ap (drop (text_len (bytes ++ more))) (behind_more bytes more b)
    ∙ ap (λ (k : ℕ). drop k (drop (head_len bytes) bytes ++ more)) (same_told bytes more b).text
    ∙ drop-append-le (text_len bytes) (drop (head_len bytes) bytes) more (omega arith)

begins_more : (bytes more : List ℕ) → BeginsWithText bytes → BeginsWithText (bytes ++ more)
begins_more bytes more b =
    let room = b.room in
    let t = same_told bytes more b in
    let h = t.head in
    let l = t.text in
    let n = length-append bytes more in
    record { room = omega arith; utf8 = subst IsUtf8 (sym (first_more bytes more b)) b.utf8 }

-- ---- a tag more

after_two : (bytes more : List ℕ) → BeginsWithText bytes → BeginsWithText (after_text bytes) → after_text (after_text (bytes ++ more)) ≡ after_text (after_text bytes) ++ more
after_two bytes more a b = ap after_text (after_more bytes more a) ∙ after_more (after_text bytes) more b

-- a tag whose key and value are told by these bytes
record TagBytes (key value bytes : List ℕ) : Type 0 where
  key_bytes : List ℕ
  value_bytes : List ℕ
  is : bytes ≡ key_bytes ++ (value_bytes ++ [])
  of_key : Tell key key_bytes
  of_value : Tell value value_bytes

-- the value's bytes are left
value_left : (key value tag : List ℕ) (t : TagBytes key value tag) → after_text tag ≡ t.value_bytes ++ []
value_left key value tag t = ap after_text t.is ∙ t.of_key.after (t.value_bytes ++ [])

after_tag : (key value tag : List ℕ) → TagBytes key value tag → after_text (after_text tag) ≡ []
after_tag key value tag t = ap after_text (value_left key value tag t) ∙ t.of_value.after []

one_fits : (key value tag : List ℕ) → IsUtf8 key → IsUtf8 value → TagBytes key value tag → AreKeysAndValues 1 tag
one_fits key value tag k v t = (
  subst BeginsWithText (sym t.is) (begins key t.key_bytes (t.value_bytes ++ []) t.of_key k),
  subst BeginsWithText (sym (value_left key value tag t)) (begins value t.value_bytes [] t.of_value v),
  after_tag key value tag t,
)

one_more_fits : (count : ℕ) (bytes key value tag : List ℕ) → IsUtf8 key → IsUtf8 value → TagBytes key value tag → AreKeysAndValues count bytes → AreKeysAndValues (suc count) (bytes ++ tag)
one_more_fits zero bytes key value tag k v t none = subst (λ (b : List ℕ). AreKeysAndValues 1 (b ++ tag)) (sym none) (one_fits key value tag k v t)
one_more_fits (suc count) bytes key value tag k v t (a, b, rest) = (
  begins_more bytes tag a,
  subst BeginsWithText (sym (after_more bytes tag a)) (begins_more (after_text bytes) tag b),
  subst (AreKeysAndValues (suc count)) (sym (after_two bytes tag a b)) (one_more_fits count (after_text (after_text bytes)) key value tag k v t rest),
)

abbrev tag_of : List ℕ → List ℕ → Tag
tag_of key value = record { key = key; value = value }

one_tag : (key value tag : List ℕ) → TagBytes key value tag → tags_in 1 tag ≡ tag_of key value ∷ []
one_tag key value tag t =
    let k : first_text tag ≡ key = ap first_text t.is ∙ t.of_key.first (t.value_bytes ++ []) in
    let v : first_text (after_text tag) ≡ value = ap first_text (value_left key value tag t) ∙ t.of_value.first [] in
    ap (λ (z : List ℕ). tag_of z (first_text (after_text tag)) ∷ []) k ∙ ap (λ (z : List ℕ). tag_of key z ∷ []) v

one_more_tag : (count : ℕ) (bytes key value tag : List ℕ) → TagBytes key value tag → AreKeysAndValues count bytes → tags_in (suc count) (bytes ++ tag) ≡ tags_in count bytes ++ tag_of key value ∷ []
one_more_tag zero bytes key value tag t none = ap (λ (b : List ℕ). tags_in 1 (b ++ tag)) none ∙ one_tag key value tag t
one_more_tag (suc count) bytes key value tag t (a, b, rest) =
    let k = first_more bytes tag a in
    let v : first_text (after_text (bytes ++ tag)) ≡ first_text (after_text bytes) = ap first_text (after_more bytes tag a) ∙ first_more (after_text bytes) tag b in
    ap (λ (z : List ℕ). tag_of z (first_text (after_text (bytes ++ tag))) ∷ tags_in (suc count) (after_text (after_text (bytes ++ tag)))) k
    ∙ ap (λ (z : List ℕ). tag_of (first_text bytes) z ∷ tags_in (suc count) (after_text (after_text (bytes ++ tag)))) v
    ∙ ap (λ (z : List ℕ). tag_of (first_text bytes) (first_text (after_text bytes)) ∷ tags_in (suc count) z) (after_two bytes tag a b)
    ∙ ap (λ (zs : List Tag). tag_of (first_text bytes) (first_text (after_text bytes)) ∷ zs) (one_more_tag count (after_text (after_text bytes)) key value tag t rest)

-- ---- as the functions know them

tag_added : (bytes key value new : List ℕ) → BothAdded bytes key value new → (tag : List ℕ) × TagBytes key value tag × (new ≡ bytes ++ tag)
tag_added bytes key value new b = (
  b.of_key.bytes ++ (b.of_value.bytes ++ []),
  record { key_bytes = b.of_key.bytes; value_bytes = b.of_value.bytes; is = refl; of_key = b.of_key.tell; of_value = b.of_value.tell },
  b.of_value.is
      ∙ ap (λ (z : List ℕ). z ++ b.of_value.bytes) b.of_key.is
      ∙ append_assoc bytes b.of_key.bytes b.of_value.bytes
      ∙ ap (λ (z : List ℕ). bytes ++ (b.of_key.bytes ++ z)) (sym (append-nil b.of_value.bytes)),
)

pub pushed_fits : (count next : ℕ) (bytes new key value : List ℕ) → IsUtf8 key → IsUtf8 value → AreKeysAndValues count bytes → next ≡ suc count → BothAdded bytes key value new → AreKeysAndValues next new
pushed_fits count next bytes new key value k v fits n b =
    let t = tag_added bytes key value new b in
    subst (λ (m : ℕ). AreKeysAndValues m new) (sym n) (subst (AreKeysAndValues (suc count)) (sym t.2) (one_more_fits count bytes key value t.0 k v t.1 fits))

pub pushed_tag : (count next : ℕ) (bytes new key value : List ℕ) (tags : List Tag) → AreKeysAndValues count bytes → next ≡ suc count → BothAdded bytes key value new → tags_in count bytes ≡ tags → tags_in next new ≡ tags ++ tag_of key value ∷ []
pushed_tag count next bytes new key value tags fits n b is =
    let t = tag_added bytes key value new b in
    ap (λ (m : ℕ). tags_in m new) n
    ∙ ap (tags_in (suc count)) t.2
    ∙ one_more_tag count bytes key value t.0 t.1 fits
    ∙ ap (λ (zs : List Tag). zs ++ tag_of key value ∷ []) is

-- ---- roles

pub as_many_members : (targets : List ObjectRef) (bytes : List ℕ) → length (members_in targets bytes) ≡ length targets
as_many_members [] bytes = refl
as_many_members (target ∷ targets) bytes = ap (λ (n : ℕ). suc n) (as_many_members targets (after_text bytes))

-- the bytes of a role, with no more behind them
role_fits : (target : ObjectRef) (role more : List ℕ) → IsUtf8 role → Tell role more → HaveRoles (target ∷ []) more
role_fits target role more utf8 t =
    let none = append-nil more in
    (subst BeginsWithText none (begins role more [] t utf8), sym (ap after_text none) ∙ t.after [])

one_more_role : (targets : List ObjectRef) (target : ObjectRef) (bytes role more : List ℕ) → IsUtf8 role → Tell role more → HaveRoles targets bytes → HaveRoles (targets ++ target ∷ []) (bytes ++ more)
one_more_role [] target bytes role more utf8 t none = subst (λ (b : List ℕ). HaveRoles (target ∷ []) (b ++ more)) (sym none) (role_fits target role more utf8 t)
one_more_role (other ∷ targets) target bytes role more utf8 t (a, rest) = (
  begins_more bytes more a,
  subst (HaveRoles (targets ++ target ∷ [])) (sym (after_more bytes more a)) (one_more_role targets target (after_text bytes) role more utf8 t rest),
)

one_more_member : (targets : List ObjectRef) (target : ObjectRef) (bytes role more : List ℕ) → Tell role more → HaveRoles targets bytes → members_in (targets ++ target ∷ []) (bytes ++ more) ≡ members_in targets bytes ++ member_of target role ∷ []
one_more_member [] target bytes role more t none =
    ap (λ (b : List ℕ). members_in (target ∷ []) (b ++ more)) none
    ∙ ap (λ (z : List ℕ). member_of target z ∷ []) (ap first_text (sym (append-nil more)) ∙ t.first [])
one_more_member (other ∷ targets) target bytes role more t (a, rest) =
    ap (λ (z : List ℕ). member_of other z ∷ members_in (targets ++ target ∷ []) (after_text (bytes ++ more))) (first_more bytes more a)
    ∙ ap (λ (z : List ℕ). member_of other (first_text bytes) ∷ members_in (targets ++ target ∷ []) z) (after_more bytes more a)
    ∙ ap (λ (ms : List Member). member_of other (first_text bytes) ∷ ms) (one_more_member targets target (after_text bytes) role more t rest)

pub pushed_role : (targets after : List ObjectRef) (target : ObjectRef) (bytes new role : List ℕ) → IsUtf8 role → HaveRoles targets bytes → after ≡ targets ++ target ∷ [] → IsTextAdded bytes role new → HaveRoles after new
pushed_role targets after target bytes new role utf8 fits a added =
    subst (λ (ts : List ObjectRef). HaveRoles ts new) (sym a) (subst (HaveRoles (targets ++ target ∷ [])) (sym added.is) (one_more_role targets target bytes role added.bytes utf8 added.tell fits))

pub pushed_member : (targets after : List ObjectRef) (target : ObjectRef) (bytes new role : List ℕ) (members : List Member) → HaveRoles targets bytes → after ≡ targets ++ target ∷ [] → IsTextAdded bytes role new → members_in targets bytes ≡ members
    → members_in after new ≡ members ++ member_of target role ∷ []
pushed_member targets after target bytes new role members fits a added is =
    ap (λ (ts : List ObjectRef). members_in ts new) a
    ∙ ap (members_in (targets ++ target ∷ [])) added.is
    ∙ one_more_member targets target bytes role added.bytes added.tell fits
    ∙ ap (λ (ms : List Member). ms ++ member_of target role ∷ []) is
