-- One walk along the members meets each way where it is first mentioned.
use Rattle.std.proofs.Common.{◌≡◌, ◌∙◌, Bool, true, false, not, cond, ◌&&◌, ◌||◌, List, [], ◌∷◌, filter, ℤ, Option, refl, sym, ap, int_eq}
use Rattle.std.specs.List.{cons_option, filter_map, list_any}
use Rattle.std.proofs.lemmas.Cmp.{int_eq_equiv}
use Rattle.lists.specs.Once.{each_once}
use Rattle.osm_lattice.specs.declared.seg.Seg.{Seg}
use Rattle.osm_elements.specs.declared.object.Member.{Member}
use Rattle.osm_elements.specs.declared.object.Object.{Object}
use Rattle.osm_elements.specs.declared.object.ObjectKind.TheVariants.{Way}
use Rattle.osm_objects.specs.Object.{same_kind}
use Rattle.osm_objects.specs.declared.problem.Note.{Note}
use Rattle.osm_nest.specs.declared.polygon.Polygon.{Polygon}
use Rattle.osm_area.specs.MemberWays.{ways_among}
use Rattle.osm_area.specs.Roles.{inners, is_in_rings, lies_in, mentions, outers, role_note}
use Rattle.osm_area.specs.RoleWalk.{mentions_first, note_along, notes_along}
use Rattle.osm_area.specs.Segments.{way_segments}
use Rattle.osm_area.proofs.RoleLemmas.{filter_map_same, first_role, note_by, note_is}

-- ---- lists

filter-all : {X : Type 0} (xs : List X) → filter (λ x. not false) xs ≡ xs
filter-all [] = refl
filter-all (x ∷ xs) = ap (λ ys. x ∷ ys) (filter-all xs)

-- those that were not seen, and are not this one
unseen : (seen : ℤ → Bool) (id : ℤ) (xs : List ℤ) → filter (λ w. not (seen w)) (filter (λ y. not (int_eq id y)) xs) ≡ filter (λ w. not (int_eq id w || seen w)) xs
unseen seen id [] = refl
unseen seen id (x ∷ xs) = by (unseen seen id xs) (int_eq id x) refl
  where
    by : filter (λ w. not (seen w)) (filter (λ y. not (int_eq id y)) xs) ≡ filter (λ w. not (int_eq id w || seen w)) xs → (b : Bool) → int_eq id x ≡ b
        → filter (λ w. not (seen w)) (filter (λ y. not (int_eq id y)) (x ∷ xs)) ≡ filter (λ w. not (int_eq id w || seen w)) (x ∷ xs)
    by rest true is = rw is rest
    by rest false other = rw other (ap (λ ys. cond (not (seen x)) (x ∷ ys) ys) rest)

filter_map_kept : {X Y : Type 0} (f g : X → Option Y) (p : X → Bool) → ((x : X) → p x ≡ true → f x ≡ g x) → (xs : List X) → filter_map f (filter p xs) ≡ filter_map g (filter p xs)
filter_map_kept f g p same [] = refl
filter_map_kept f g p same (x ∷ xs) = by (filter_map_kept f g p same xs) (p x) refl
  where
    by : filter_map f (filter p xs) ≡ filter_map g (filter p xs) → (b : Bool) → p x ≡ b → filter_map f (filter p (x ∷ xs)) ≡ filter_map g (filter p (x ∷ xs))
    by rest true is = rw is (rw (same x is) (ap (λ ys. cons_option (g x) ys) rest))
    by rest false other = rw other rest

-- ---- the walk

first-kept : (m : Member) (p : ℤ → Bool) → ((w : ℤ) → p w ≡ true → mentions w m ≡ false) → (ws : List ℤ) → mentions_first m (filter p ws) ≡ false
first-kept m p none [] = refl
first-kept m p none (w ∷ ws) = by (first-kept m p none ws) (p w) refl
  where
    by : mentions_first m (filter p ws) ≡ false → (b : Bool) → p w ≡ b → mentions_first m (filter p (w ∷ ws)) ≡ false
    by rest true is = rw is (none w is)
    by rest false other = rw other rest

-- a kept name is another
kept-other : (a b : Bool) → not (a || b) ≡ true → a ≡ false
kept-other true b h = absurd (cc)
kept-other false b h = refl

no-way : (ws : List ℤ) (m : Member) → same_kind m.kind Way ≡ false → mentions_first m ws ≡ false
no-way [] m none = refl
no-way (w ∷ ws) m none = rw none refl

module _ (polygons : List Polygon) (along : ℤ → List Seg) where
  skipped : (m : Member) (ms : List Member) (ws : List ℤ) → mentions_first m ws ≡ false → notes_along polygons along (m ∷ ms) ws ≡ notes_along polygons along ms ws
  skipped m ms [] none = refl
  skipped m ms (w ∷ ws) none = rw none refl

  -- the note by the first of the members that is the way
  abbrev note_first : List Member → ℤ → Option Note
  note_first members way = note_by (first_role members way) way (list_any (is_in_rings (outers polygons)) (along way)) (list_any (is_in_rings (inners polygons)) (along way))

  behind-other : (m : Member) (ms : List Member) (w : ℤ) → mentions w m ≡ false → note_first (m ∷ ms) w ≡ note_first ms w
  behind-other m ms w none = rw none refl

  -- the ways that are left
  abbrev left : (ℤ → Bool) → List Member → List ℤ
  left seen members = filter (λ w. not (seen w)) (each_once int_eq (ways_among members))

  abbrev IsWalked : List Member → List ℤ → Type 0
  IsWalked members ws = notes_along polygons along members ws ≡ filter_map (note_first members) ws

  not-a-way : (m : Member) (ms : List Member) (ws : List ℤ) → same_kind m.kind Way ≡ false → IsWalked ms ws → IsWalked (m ∷ ms) ws
  not-a-way m ms ws none rest =
      skipped m ms ws (no-way ws m none)
      ∙ (rest ∙ sym (filter_map_same (note_first (m ∷ ms)) (note_first ms) (λ w. behind-other m ms w (rw none refl)) ws))

  -- one more way, seen or not
  one-way : (m : Member) (ms : List Member) (seen : ℤ → Bool) → same_kind m.kind Way ≡ true → IsWalked ms (left (λ w. int_eq m.id w || seen w) ms) → (b : Bool) → seen m.id ≡ b
      → IsWalked (m ∷ ms) (cond (not b) (m.id ∷ left (λ w. int_eq m.id w || seen w) ms) (left (λ w. int_eq m.id w || seen w) ms))
  one-way m ms seen is rest b seen-is =
      let p : ℤ → Bool = λ w. not (int_eq m.id w || seen w) in
      let other : (w : ℤ) → p w ≡ true → mentions w m ≡ false = λ w kept. rw (kept-other (int_eq m.id w) (seen w) kept) (and-none (same_kind m.kind Way)) in
      let same = filter_map_kept (note_first (m ∷ ms)) (note_first ms) p (λ w kept. behind-other m ms w (other w kept)) (each_once int_eq (ways_among ms)) in
      by b (rest ∙ sym same) (first-kept m p other (each_once int_eq (ways_among ms)))
    where
      and-none : (a : Bool) → (a && false) ≡ false
      and-none true = refl
      and-none false = refl

      by : (b : Bool) → notes_along polygons along ms (left (λ w. int_eq m.id w || seen w) ms) ≡ filter_map (note_first (m ∷ ms)) (left (λ w. int_eq m.id w || seen w) ms)
          → mentions_first m (left (λ w. int_eq m.id w || seen w) ms) ≡ false
          → IsWalked (m ∷ ms) (cond (not b) (m.id ∷ left (λ w. int_eq m.id w || seen w) ms) (left (λ w. int_eq m.id w || seen w) ms))
      by true others none = skipped m ms (left (λ w. int_eq m.id w || seen w) ms) none ∙ others
      by false others none =
          let here : mentions m.id m ≡ true = rw (is, int_eq_equiv.refl m.id) refl in
          rw here (ap (λ ns. cons_option (note_along polygons m.role m.id (along m.id)) ns) others)

  walked : (members : List Member) (seen : ℤ → Bool) → IsWalked members (left seen members)
  walked [] seen = refl
  walked (m ∷ ms) seen = by (same_kind m.kind Way) refl (λ s. walked ms s)
    where
      by : (b : Bool) → same_kind m.kind Way ≡ b → ((s : ℤ → Bool) → IsWalked ms (left s ms)) → IsWalked (m ∷ ms) (left seen (m ∷ ms))
      by false none rest = rw none (not-a-way m ms (left seen ms) none (rest seen))
      by true is rest = rw (is, unseen seen m.id (each_once int_eq (ways_among ms))) (one-way m ms seen is (rest (λ w. int_eq m.id w || seen w)) (seen m.id) refl)

-- ways in order of first mention have the notes that the definition gives them
pub notes_walked : (objects : List Object) (members : List Member) (polygons : List Polygon) (ways : List ℤ) → ways ≡ each_once int_eq (ways_among members)
    → notes_along polygons (way_segments objects) members ways ≡ filter_map (role_note objects members polygons) ways
notes_walked objects members polygons ways w =
    let all : ways ≡ filter (λ (v : ℤ). not false) (each_once int_eq (ways_among members)) = w ∙ sym (filter-all (each_once int_eq (ways_among members))) in
    let first : ℤ → Option Note = note_first polygons (way_segments objects) members in
    ap (notes_along polygons (way_segments objects) members) all
    ∙ (walked polygons (way_segments objects) members (λ v. false)
    ∙ (ap (filter_map first) (sym all)
    ∙ filter_map_same first (role_note objects members polygons)
    (λ way. note_is objects members polygons way (first_role members way) (lies_in objects (outers polygons) way) (lies_in objects (inners polygons) way) refl refl refl)
    ways))
