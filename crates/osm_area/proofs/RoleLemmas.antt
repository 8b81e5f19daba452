-- Roles, and the notes on them, in the words of the definitions.
use Rattle.std.proofs.Common.{◌≡◌, ◌∙◌, Bool, true, false, cond, ◌&&◌, if◌then◌else◌, List, [], ◌∷◌, ◌++◌, append-nil, find, bytes_eq, codes, ℕ, ℤ, Option, None, Some, option_map, refl, sym, ap, subst}
use Rattle.std.specs.List.{filter_map, list_any}
use Rattle.std.specs.Option.{option_map_or}
use Rattle.std.proofs.lemmas.Slice.Eq.{bytes_eq-Decides}
use Rattle.osm_elements.specs.declared.object.Member.{Member}
use Rattle.osm_elements.specs.declared.object.Object.{Object}
use Rattle.osm_elements.specs.declared.object.ObjectKind.TheVariants.{Relation}
use Rattle.osm_elements.specs.declared.object.ObjectRef.{ObjectRef}
use Rattle.osm_objects.specs.Objects.{RelationParts, relation_of}
use Rattle.osm_objects.specs.declared.problem.Note.{Note}
use Rattle.osm_objects.specs.declared.problem.Note.TheVariants.{InnerInOuter, OuterInInner}
use Rattle.osm_nest.specs.declared.polygon.Polygon.{Polygon}
use Rattle.osm_area.specs.declared.roles.Role.{Role}
use Rattle.osm_area.specs.declared.roles.Role.TheVariants.{Inner, Outer, Other}
use Rattle.osm_area.specs.RoleKinds.{role_named, names_a_ring, note_on}
use Rattle.osm_area.specs.Roles.{mentions, lies_in, inners, outers, members_by, members_of, role_note, role_notes_of}
use Rattle.std.proofs.lemmas.Bool.{or_parts}

-- ---- lists

pub filter_map_same : {X Y : Type 0} (f g : X → Option Y) → ((x : X) → f x ≡ g x) → (xs : List X) → filter_map f xs ≡ filter_map g xs
filter_map_same f g same [] = refl
filter_map_same f g same (x ∷ xs) = rw (same x, filter_map_same f g same xs) refl

pub filter_map_none : {X Y : Type 0} (f : X → Option Y) → ((x : X) → f x ≡ None) → (xs : List X) → filter_map f xs ≡ []
filter_map_none f none [] = refl
filter_map_none f none (x ∷ xs) = rw (none x) (filter_map_none f none xs)

pub list_any_same : {X : Type 0} (p q : X → Bool) → ((x : X) → p x ≡ q x) → (xs : List X) → list_any p xs ≡ list_any q xs
list_any_same p q same [] = refl
list_any_same p q same (x ∷ xs) = rw (same x, list_any_same p q same xs) refl

-- ---- the note on a way

-- the role of the first of the members that is this way
abbrev pub first_role : List Member → ℤ → Option Role
first_role members way = option_map (λ m. role_named m.role) (find (mentions way) members)

-- the note on a way with this role, if it has any
abbrev pub note_by : Option Role → ℤ → (in_outer in_inner : Bool) → Option Note
note_by None way in_outer in_inner = None
note_by (Some role) way in_outer in_inner = note_on role way in_outer in_inner

-- no role is both
inner-not-outer : (role : List ℕ) → bytes_eq role (codes "inner") ≡ true → bytes_eq role (codes "outer") ≡ false
inner-not-outer role is = subst (λ r. bytes_eq r (codes "outer") ≡ false) (sym ((bytes_eq-Decides role (codes "inner")).0 is)) refl

note-by : (inner outer in_outer in_inner : Bool) (way : ℤ) → (inner ≡ true → outer ≡ false) → note_on (if inner then Inner else if outer then Outer else Other) way in_outer in_inner
    ≡ (if inner && in_outer then Some (InnerInOuter way) else if outer && in_inner then Some (OuterInInner way) else None)
note-by true true in_outer in_inner way apart = absurd (let e = apart refl in cc)
note-by true false true in_inner way apart = refl
note-by true false false in_inner way apart = refl
note-by false true in_outer true way apart = refl
note-by false true in_outer false way apart = refl
note-by false false in_outer in_inner way apart = refl

note-found : (found : Option Member) (way : ℤ) (in_outer in_inner : Bool) → note_by (option_map (λ (m : Member). role_named m.role) found) way in_outer in_inner
    ≡ (if option_map_or (λ (m : Member). bytes_eq m.role (codes "inner")) found false && in_outer then Some (InnerInOuter way)
    else if option_map_or (λ (m : Member). bytes_eq m.role (codes "outer")) found false && in_inner then Some (OuterInInner way) else None)
unfolding role_named
note-found None way in_outer in_inner = refl
note-found (Some m) way in_outer in_inner = note-by (bytes_eq m.role (codes "inner")) (bytes_eq m.role (codes "outer")) in_outer in_inner way (inner-not-outer m.role)

pub note_is : (objects : List Object) (members : List Member) (polygons : List Polygon) (way : ℤ) (role : Option Role) (in_outer in_inner : Bool)
    → role ≡ first_role members way → in_outer ≡ lies_in objects (outers polygons) way → in_inner ≡ lies_in objects (inners polygons) way
    → note_by role way in_outer in_inner ≡ role_note objects members polygons way
note_is objects members polygons way role in_outer in_inner r o i = rw (r, o, i) (note-found (find (mentions way) members) way (lies_in objects (outers polygons) way) (lies_in objects (inners polygons) way))

-- ---- no role of the two

found-none : (p q : Member → Bool) (members : List Member) → list_any q members ≡ false → option_map_or q (find p members) false ≡ false
found-none p q [] none = refl
found-none p q (m ∷ ms) none =
    let each = or_parts (q m) (list_any q ms) none in
    by (p m) each.0 (found-none p q ms each.1)
  where
    by : (b : Bool) → q m ≡ false → option_map_or q (find p ms) false ≡ false → option_map_or q (cond b (Some m) (find p ms)) false ≡ false
    by true first rest = first
    by false first rest = rest

note-none : (found : Option Member) (way : ℤ) (in_outer in_inner : Bool) → option_map_or names_a_ring found false ≡ false
    → (if option_map_or (λ (m : Member). bytes_eq m.role (codes "inner")) found false && in_outer then Some (InnerInOuter way)
    else if option_map_or (λ (m : Member). bytes_eq m.role (codes "outer")) found false && in_inner then Some (OuterInInner way) else None) ≡ None
note-none None way in_outer in_inner none = refl
note-none (Some m) way in_outer in_inner none =
    let each = or_parts (bytes_eq m.role (codes "inner")) (bytes_eq m.role (codes "outer")) none in
    rw (each.0, each.1) refl

pub notes_none : (objects : List Object) (members : List Member) (polygons : List Polygon) (ways : List ℤ) → list_any names_a_ring members ≡ false → filter_map (role_note objects members polygons) ways ≡ []
notes_none objects members polygons ways none =
    filter_map_none (role_note objects members polygons)
    (λ way. note-none (find (mentions way) members) way (lies_in objects (outers polygons) way) (lies_in objects (inners polygons) way) (found-none (mentions way) names_a_ring members none)) ways

-- ---- no members

-- no notes where there are no members
pub nothing_added : (objects : List Object) (candidate : ObjectRef) (ways : List ℤ) (polygons : List Polygon) (notes : List Note) → members_of objects candidate ≡ [] → notes ≡ notes ++ role_notes_of objects candidate ways polygons
nothing_added objects candidate ways polygons notes none =
    sym (append-nil notes) ∙ ap (λ ns. notes ++ ns) (sym (ap (λ ms. filter_map (role_note objects ms polygons) ways) none ∙ filter_map_none (role_note objects [] polygons) (λ way. refl) ways))

pub no_relation : (objects : List Object) (candidate : ObjectRef) → candidate.kind ≡ Relation → relation_of objects candidate.id ≡ None → members_of objects candidate ≡ []
no_relation objects candidate is none = ap (λ k. members_by objects k candidate.id) is ∙ ap (λ (r : Option RelationParts). option_map_or (λ (r : RelationParts). r.members) r []) none
