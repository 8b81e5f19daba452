-- Lists joined end to end, when one of them changes.
use Rattle.std.proofs.Common.{arith, drop, insert, length, remove, List, [], ◌++◌, ◌+◌, ◌-◌, ◌∷◌, ◌<◌, ◌≡◌, ◌≤◌, suc, take, zero, ℕ}
use Rattle.std.proofs.Math.ListN.{get_or, set}
use Rattle.std.proofs.Math.Nat.{not-suc-le-zero}
use Rattle.std.proofs.Math.Path.{ap, refl, sym, subst, ◌∙◌}
use Rattle.std.specs.List.{flat_map}
use Rattle.std.proofs.lemmas.List.{append_assoc, drop_more, get_or_default, length-take-le, set-append_left, set-append_right, set_split, take-append-drop, take-append-le, take-set, take-take}
use Rattle.std.proofs.lemmas.List.Concat.{flat_map-append, get_or-flat_map}
use Rattle.std.proofs.lemmas.List.Edits.{get_or-insert_below, insert-append_left, insert-append_right, remove-append_left, remove-append_right}
use Rattle.chunked_list.specs.Starts.{ItemsEnd}
use Rattle.chunked_list.proofs.Kept.{take-without}

-- a place in one of them, and how far in
abbrev IsIn : {X C : Type 0} → (C → List X) → List C → ℕ → ℕ → ℕ → C → Type 0
IsIn f cs place i at c = (i < length cs) × (c ≡ get_or cs i c) × (place ≡ length (flat_map f (take i cs)) + at) × (at < length (f c))

-- the item at a place is the last of the first ones, which end there
pub found : {X C : Type 0} (f : C → List X) (cs : List C) (place i within : ℕ) (c : C) → ItemsEnd f cs i within (place + 1) → c ≡ get_or cs i c → IsIn f cs place i (within - 1) c
found f cs place i within c end is =
    let own : 0 < within = end.some (omega arith) in
    let reach : within ≤ length (f c) = subst (λ y. within ≤ length (f y)) (sym is) (end.reach c) in
    (end.inside, is, omega (arith, end.front), omega arith)

pub item-at : {X C : Type 0} (f : C → List X) (cs : List C) (place i at : ℕ) (c : C) (x d : X) → IsIn f cs place i at c →
    x ≡ get_or (f c) at x → x ≡ get_or (flat_map f cs) place d
item-at f cs place i at c x d (inside, is, count, reach) read =
    let there : at < length (f (get_or cs i c)) = subst (λ y. at < length (f y)) is reach in
    let default : get_or (f c) at x ≡ get_or (f c) at d = get_or_default (f c) at x d reach in
    read ∙ default ∙ ap (λ y. get_or (f y) at d) is ∙ sym (get_or-flat_map f cs i at c d inside there) ∙ ap (λ n. get_or (flat_map f cs) n d) (sym count)

-- what stands before one of them, it, and what stands behind
parts : {X C : Type 0} (f : C → List X) (cs : List C) (i : ℕ) (c : C) → i < length cs → c ≡ get_or cs i c →
    flat_map f cs ≡ flat_map f (take i cs) ++ (f c ++ flat_map f (drop (suc i) cs))
parts f cs i c inside is =
    let next : i + 1 ≡ suc i = omega arith in
    ap (flat_map f) (sym (take-append-drop i cs)) ∙ flat_map-append f (take i cs) (drop i cs)
    ∙ ap (λ ds. flat_map f (take i cs) ++ flat_map f ds) (drop_more cs i c inside ∙ ap (λ n. get_or cs i c ∷ drop n cs) next ∙ ap (λ y. y ∷ drop (suc i) cs) (sym is))

parts-set : {X C : Type 0} (f : C → List X) (cs : List C) (i : ℕ) (c : C) → i < length cs →
    flat_map f (set cs i c) ≡ flat_map f (take i cs) ++ (f c ++ flat_map f (drop (suc i) cs))
parts-set f cs i c inside = ap (flat_map f) (set_split cs i c inside) ∙ flat_map-append f (take i cs) (c ∷ drop (suc i) cs)

pub same-set : {X C : Type 0} (f : C → List X) (cs : List C) (i : ℕ) (b c : C) → i < length cs → b ≡ get_or cs i b →
    f c ≡ f b → flat_map f (set cs i c) ≡ flat_map f cs
same-set f cs i b c inside is same =
    parts-set f cs i c inside ∙ ap (λ xs. flat_map f (take i cs) ++ (xs ++ flat_map f (drop (suc i) cs))) same
    ∙ sym (parts f cs i b inside is)

pub insert-set : {X C : Type 0} (f : C → List X) (cs : List C) (place i within : ℕ) (b c : C) (x : X) → ItemsEnd f cs i within place → b ≡ get_or cs i b →
    f c ≡ insert (f b) within x → flat_map f (set cs i c) ≡ insert (flat_map f cs) place x
insert-set f cs place i within b c x end is new =
    let front = flat_map f (take i cs) in
    let back = flat_map f (drop (suc i) cs) in
    let count = end.front in
    let reach : within ≤ length (f b) = subst (λ y. within ≤ length (f y)) (sym is) (end.reach b) in
    let there : place - length front ≡ within = omega arith in
    let inside : insert (f b ++ back) within x ≡ insert (f b) within x ++ back = insert-append_left (f b) back within x reach in
    let whole : insert (front ++ (f b ++ back)) place x ≡ front ++ insert (f b ++ back) (place - length front) x =
    insert-append_right front (f b ++ back) (length front) place x refl (omega arith) in
    parts-set f cs i c end.inside ∙ ap (λ xs. front ++ (xs ++ back)) new
    ∙ sym (ap (λ xs. insert xs place x) (parts f cs i b end.inside is) ∙ whole ∙ ap (λ n. front ++ insert (f b ++ back) n x) there ∙ ap (λ xs. front ++ xs) inside)

pub remove-set : {X C : Type 0} (f : C → List X) (cs : List C) (place i at : ℕ) (b c : C) → IsIn f cs place i at b →
    f c ≡ remove (f b) at → flat_map f (set cs i c) ≡ remove (flat_map f cs) place
remove-set f cs place i at b c (inside, is, count, reach) new =
    let front = flat_map f (take i cs) in
    let back = flat_map f (drop (suc i) cs) in
    let there : place - length front ≡ at = omega arith in
    let within : remove (f b ++ back) at ≡ remove (f b) at ++ back = remove-append_left (f b) back at reach in
    let whole : remove (front ++ (f b ++ back)) place ≡ front ++ remove (f b ++ back) (place - length front) =
    remove-append_right front (f b ++ back) (length front) place refl (omega arith) in
    parts-set f cs i c inside ∙ ap (λ xs. front ++ (xs ++ back)) new
    ∙ sym (ap (λ xs. remove xs place) (parts f cs i b inside is) ∙ whole ∙ ap (λ n. front ++ remove (f b ++ back) n) there ∙ ap (λ xs. front ++ xs) within)

pub set-set : {X C : Type 0} (f : C → List X) (cs : List C) (place i at : ℕ) (b c : C) (x : X) → IsIn f cs place i at b →
    f c ≡ set (f b) at x → flat_map f (set cs i c) ≡ set (flat_map f cs) place x
set-set f cs place i at b c x (inside, is, count, reach) new =
    let front = flat_map f (take i cs) in
    let back = flat_map f (drop (suc i) cs) in
    let there : place - length front ≡ at = omega arith in
    let within : set (f b ++ back) at x ≡ set (f b) at x ++ back = set-append_left (f b) back at x reach in
    let whole : set (front ++ (f b ++ back)) place x ≡ front ++ set (f b ++ back) (place - length front) x =
    set-append_right front (f b ++ back) (length front) place x refl (omega arith) in
    parts-set f cs i c inside ∙ ap (λ xs. front ++ (xs ++ back)) new
    ∙ sym (ap (λ xs. set xs place x) (parts f cs i b inside is) ∙ whole ∙ ap (λ n. front ++ set (f b ++ back) n x) there ∙ ap (λ xs. front ++ xs) within)

-- one of them in two
pub same-parted : {X C : Type 0} (f : C → List X) (cs : List C) (i : ℕ) (b c u : C) → i < length cs → b ≡ get_or cs i b →
    f b ≡ f c ++ f u → flat_map f (set (insert cs (suc i) u) i c) ≡ flat_map f cs
same-parted f (d ∷ cs) zero b c u inside is parted =
    sym (append_assoc (f c) (f u) (flat_map f cs)) ∙ ap (λ xs. xs ++ flat_map f cs) (sym parted ∙ ap f is)
same-parted f (d ∷ cs) (suc i) b c u inside is parted = ap (λ xs. f d ++ xs) (same-parted f cs i b c u (omega arith) is parted)
same-parted f [] zero b c u inside is parted = absurd (not-suc-le-zero inside)
same-parted f [] (suc i) b c u inside is parted = absurd (not-suc-le-zero inside)

-- a new list behind one of them leaves it where it is
pub before-new : {X C : Type 0} (f : C → List X) (cs new : List C) (i : ℕ) (b d u : C) → i < length cs → new ≡ insert cs (i + 1) u → b ≡ get_or cs i b → d ≡ get_or new i d → d ≡ b
before-new f cs new i b d u inside put is found =
    let below : get_or (insert cs (i + 1) u) i d ≡ get_or cs i d = get_or-insert_below cs (i + 1) u d i (omega arith) (omega arith) in
    found ∙ ap (λ xs. get_or xs i d) put ∙ below ∙ get_or_default cs i d b inside ∙ sym is

-- the items in the middle go over to a new list behind
pub same-split : {X C : Type 0} (f : C → List X) (cs new : List C) (i half : ℕ) (b d c u : C) → i < length cs → new ≡ insert cs (i + 1) u →
    b ≡ get_or cs i b → d ≡ get_or new i d → f c ≡ take half (f d) → f u ≡ drop half (f b) → flat_map f (set new i c) ≡ flat_map f cs
same-split f cs new i half b d c u inside put is found lower upper =
    let next : i + 1 ≡ suc i = omega arith in
    let same = before-new f cs new i b d u inside put is found in
    let cut : f b ≡ f c ++ f u = sym (take-append-drop half (f b)) ∙ ap (λ xs. xs ++ drop half (f b)) (sym (lower ∙ ap (λ y. take half (f y)) same)) ∙ ap (λ xs. f c ++ xs) (sym upper) in
    ap (λ xs. flat_map f (set xs i c)) (put ∙ ap (λ n. insert cs n u) next) ∙ same-parted f cs i b c u inside is cut

-- one without items dropped
pub same-dropped : {X C : Type 0} (f : C → List X) (cs : List C) (i : ℕ) (c : C) → i < length cs → c ≡ get_or cs i c → f c ≡ [] →
    flat_map f (remove cs i) ≡ flat_map f cs
same-dropped f cs i c inside is none =
    flat_map-append f (take i cs) (drop (suc i) cs)
    ∙ sym (parts f cs i c inside is ∙ ap (λ xs. flat_map f (take i cs) ++ (xs ++ flat_map f (drop (suc i) cs))) none)

-- ---- what stands before the lists that change is as it was

pub alike_dropped : {C : Type 0} (cs new : List C) (i : ℕ) → new ≡ remove cs i → take i new ≡ take i cs
alike_dropped cs new i dropped = ap (take i) dropped ∙ take-without cs i

pub alike_parted : {C : Type 0} (cs new : List C) (i : ℕ) (c u : C) → i < length cs → new ≡ insert cs (i + 1) u → take i (set new i c) ≡ take i cs
alike_parted cs new i c u inside put =
    let front : length (take (i + 1) cs) ≡ i + 1 = length-take-le (i + 1) cs (omega arith) in
    take-set new i c ∙ ap (take i) put ∙ take-append-le i (take (i + 1) cs) (u ∷ drop (i + 1) cs) (omega arith) ∙ take-take i (i + 1) cs (omega arith)

-- a first list without items
pub same_begun : {X C : Type 0} (f : C → List X) (cs new : List C) (u : C) → new ≡ insert cs 0 u → f u ≡ [] → flat_map f new ≡ flat_map f cs
same_begun f cs new u put none = ap (flat_map f) put ∙ ap (λ xs. xs ++ flat_map f cs) none
