-- A text spells one thing at most, and one knows where it ends.
use Rattle.std.proofs.Common.{List, [], ap, ap₂, append_assoc, arith, codes, drop, get_or, length, neg_ℤ, pos, refl, subst, sym, ℕ, ◌*◌, ◌++◌, ◌^◌, ◌∙◌, ◌∷◌, ◌≡◌}
use Rattle.std.specs.Char.{IsAsciiDigit}
use Rattle.std.specs.Str.Parse.{AllDigits, IsNumeral, digits_value}
use Rattle.std.proofs.lemmas.Str.Parse.{digit_from_value}
use Rattle.std.proofs.Math.Nat.{eq_of_mul-eq-mul_right}
use Rattle.plane_lists.specs.Rings.Polygon.{Polygon}
use Rattle.osm_notation.proofs.DecimalValues.{some-power}
use Rattle.plane.specs.Edge.{Edge}
use Rattle.plane.specs.Vector.{Vector}
use Rattle.plane.proofs.PlaneKit.{same_vector}
use Rattle.one_output.specs.ValidAreas.Numeral.{SpellsMagnitude, SpellsUnits, minus, plain, whole, with_decimals}
use Rattle.one_output.specs.ValidAreas.Spelled.{Notation, SpellsList, SpellsMultiPolygon, SpellsPolygon, SpellsPosition, SpellsRing, SpellsRow, edges_along, geo_json, well_known}

-- ---- texts in a row

head-same : (x y : ℕ) (xs ys : List ℕ) → x ∷ xs ≡ y ∷ ys → x ≡ y
head-same x y xs ys e = ap (λ (l : List ℕ). get_or l 0 0) e

tail-same : (x y : ℕ) (xs ys : List ℕ) → x ∷ xs ≡ y ∷ ys → xs ≡ ys
tail-same x y xs ys e = ap (drop 1) e

-- ---- numbers

-- no digit stands first
abbrev NoDigit : List ℕ → Type 0
NoDigit [] = Unit {0}
NoDigit (c ∷ rest) = IsAsciiDigit c → ⊥

-- what may stand behind a number: no digit and no point
abbrev Behind : List ℕ → Type 0
Behind [] = Unit {0}
Behind (c ∷ rest) = (IsAsciiDigit c → ⊥) × (c ≡ 46 → ⊥)

no-digit : (rest : List ℕ) → Behind rest → NoDigit rest
no-digit [] b = tt
no-digit (c ∷ rest) b = b.0

-- items whose texts say where they end
abbrev IsRead : {A : Type 0} → (List ℕ → A → Type 0) → Type 0
IsRead {A} Spells =
    (t u more rest : List ℕ) (a b : A) → Spells t a → Spells u b → Behind more → Behind rest → t ++ more ≡ u ++ rest → (a ≡ b) × (more ≡ rest)

digits-cut : (xs ys more rest : List ℕ) → AllDigits 10 xs → AllDigits 10 ys → NoDigit more → NoDigit rest → xs ++ more ≡ ys ++ rest → (xs ≡ ys) × (more ≡ rest)
digits-cut [] [] more rest a b m r e = (refl, e)
digits-cut [] (y ∷ ys) more rest a b m r e = absurd (subst NoDigit e m (digit_from_value y b.0))
digits-cut (x ∷ xs) [] more rest a b m r e = absurd (subst NoDigit (sym e) r (digit_from_value x a.0))
digits-cut (x ∷ xs) (y ∷ ys) more rest a b m r e =
    let c = digits-cut xs ys more rest a.1 b.1 m r (tail-same x y (xs ++ more) (ys ++ rest) e) in
    (ap₂ (λ (d : ℕ) (ds : List ℕ). d ∷ ds) (head-same x y (xs ++ more) (ys ++ rest) e) c.0, c.1)

-- a point and decimals behind ones
parted : (ones decimals rest : List ℕ) → ones ++ codes "." ++ decimals ++ rest ≡ ones ++ (46 ∷ decimals ++ rest)
parted ones decimals rest = append_assoc (ones ++ codes ".") decimals rest ∙ append_assoc ones (codes ".") (decimals ++ rest)

no-digit-point : IsAsciiDigit 46 → ⊥
no-digit-point d = let low = d.0 in absurd (omega arith)

whole-not-parted : (t u more rest ones decimals : List ℕ) → IsNumeral 10 t → IsNumeral 10 ones → u ≡ ones ++ codes "." ++ decimals → Behind more → t ++ more ≡ u ++ rest → ⊥
whole-not-parted t u more rest ones decimals d o is m e =
    let c = digits-cut t ones more (46 ∷ decimals ++ rest) d.1 o.1 (no-digit more m) no-digit-point (e ∙ ap (λ (l : List ℕ). l ++ rest) is ∙ parted ones decimals rest) in
    (subst Behind c.1 m).1 refl

magnitude-read : IsRead SpellsMagnitude
magnitude-read t u more rest m n (whole d w) (whole e v) bm br same =
    let c = digits-cut t u more rest d.0.1 e.0.1 (no-digit more bm) (no-digit rest br) same in
    (w ∙ ap (λ (ds : List ℕ). digits_value 10 ds * 10 ^ 7) c.0 ∙ sym v, c.1)
magnitude-read t u more rest m n (whole d w) (with_decimals ones decimals is o ds v) bm br same =
    absurd (whole-not-parted t u more rest ones decimals d.0 o.0 is bm same)
magnitude-read t u more rest m n (with_decimals ones decimals is o ds v) (whole d w) bm br same =
    absurd (whole-not-parted u t rest more ones decimals d.0 o.0 is br (sym same))
magnitude-read t u more rest m n (with_decimals ones decimals is o ds v) (with_decimals ones2 decimals2 is2 o2 ds2 v2) bm br same =
    let whole_same : ones ++ (46 ∷ decimals ++ more) ≡ ones2 ++ (46 ∷ decimals2 ++ rest) =
    sym (ap (λ (l : List ℕ). l ++ more) is ∙ parted ones decimals more) ∙ same ∙ ap (λ (l : List ℕ). l ++ rest) is2 ∙ parted ones2 decimals2 rest in
    let c = digits-cut ones ones2 (46 ∷ decimals ++ more) (46 ∷ decimals2 ++ rest) o.0.1 o2.0.1 no-digit-point no-digit-point whole_same in
    let k = digits-cut decimals decimals2 more rest ds.1 ds2.1 (no-digit more bm) (no-digit rest br) (tail-same 46 46 (decimals ++ more) (decimals2 ++ rest) c.1) in
    let power = 10 ^ length decimals2 in
    let worth : m * power ≡ n * power =
    ap (λ (l : List ℕ). m * 10 ^ length l) (sym k.0) ∙ v ∙ ap₂ (λ (a b : List ℕ). digits_value 10 (a ++ b) * 10 ^ 7) c.0 k.0 ∙ sym v2 in
    (eq_of_mul-eq-mul_right power (some-power (length decimals2)) m n worth, k.1)

-- a number begins with a digit
begins-numeral : (ds : List ℕ) → IsNumeral 10 ds → (d : ℕ) × (rest : List ℕ) × (ds ≡ d ∷ rest) × IsAsciiDigit d
begins-numeral [] n = absurd (let some = n.0 in omega arith)
begins-numeral (d ∷ ds) n = (d, ds, refl, digit_from_value d n.1.0)

begins : (t : List ℕ) (m : ℕ) → SpellsMagnitude t m → (d : ℕ) × (rest : List ℕ) × (t ≡ d ∷ rest) × IsAsciiDigit d
begins t m (whole n w) = begins-numeral t n.0
begins t m (with_decimals ones decimals is o ds v) =
    let b = begins-numeral ones o.0 in
    (b.0, b.1 ++ codes "." ++ decimals, is ∙ ap (λ (l : List ℕ). l ++ codes "." ++ decimals) b.2, b.3)

plain-not-minus : (t rest more behind : List ℕ) (m : ℕ) → SpellsMagnitude t m → t ++ more ≡ (45 ∷ rest) ++ behind → ⊥
plain-not-minus t rest more behind m s e =
    let b = begins t m s in
    let is : b.0 ≡ 45 = head-same b.0 45 (b.1 ++ more) (rest ++ behind) (sym (ap (λ (l : List ℕ). l ++ more) b.2) ∙ e) in
    let low = b.3.0 in
    absurd (omega arith)

units-read : IsRead SpellsUnits
units-read t u more rest y z (plain m s e) (plain n r f) bm br same =
    let c = magnitude-read t u more rest m n s r bm br same in
    (e ∙ ap (λ (k : ℕ). pos k) c.0 ∙ sym f, c.1)
units-read t u more rest y z (plain m s e) (minus n us is r f) bm br same =
    absurd (plain-not-minus t us more rest m s (same ∙ ap (λ (l : List ℕ). l ++ rest) is))
units-read t u more rest y z (minus m ts is s e) (plain n r f) bm br same =
    absurd (plain-not-minus u ts rest more n r (sym same ∙ ap (λ (l : List ℕ). l ++ more) is))
units-read t u more rest y z (minus m ts is s e) (minus n us is2 r f) bm br same =
    let behind : ts ++ more ≡ us ++ rest = tail-same 45 45 (ts ++ more) (us ++ rest) (sym (ap (λ (l : List ℕ). l ++ more) is) ∙ same ∙ ap (λ (l : List ℕ). l ++ rest) is2) in
    let c = magnitude-read ts us more rest m n s r bm br behind in
    (e ∙ ap (λ (k : ℕ). neg_ℤ (pos k)) c.0 ∙ sym f, c.1)

-- ---- positions

-- two numbers, and a byte between them behind which no number goes on
both-read : (c : ℕ) → Behind (c ∷ []) → (x y x2 y2 more rest : List ℕ) (p q : Vector) → SpellsUnits x p.x → SpellsUnits y p.y → SpellsUnits x2 q.x → SpellsUnits y2 q.y →
    Behind more → Behind rest → x ++ (c ∷ y ++ more) ≡ x2 ++ (c ∷ y2 ++ rest) → (p ≡ q) × (more ≡ rest)
both-read c b x y x2 y2 more rest p q sx sy sx2 sy2 bm br e =
    let first = units-read x x2 (c ∷ y ++ more) (c ∷ y2 ++ rest) p.x q.x sx sx2 b b e in
    let second = units-read y y2 more rest p.y q.y sy sy2 bm br (tail-same c c (y ++ more) (y2 ++ rest) first.1) in
    (same_vector p.x p.y q.x q.y first.0 second.0, second.1)

space-behind : Behind (32 ∷ [])
space-behind = ((λ d. let low = d.0 in absurd (omega arith)), (λ e. absurd (omega arith)))

comma-behind : Behind (44 ∷ [])
comma-behind = ((λ d. let low = d.0 in absurd (omega arith)), (λ e. absurd (omega arith)))

bracket-behind : Behind (93 ∷ [])
bracket-behind = ((λ d. let high = d.1 in absurd (omega arith)), (λ e. absurd (omega arith)))

parenthesis-behind : Behind (41 ∷ [])
parenthesis-behind = ((λ d. let low = d.0 in absurd (omega arith)), (λ e. absurd (omega arith)))

json-parted : (x y rest : List ℕ) → codes "[" ++ x ++ codes "," ++ y ++ codes "]" ++ rest ≡ 91 ∷ x ++ (44 ∷ y ++ (93 ∷ rest))
json-parted x y rest =
    append_assoc (codes "[" ++ x ++ codes "," ++ y) (codes "]") rest
    ∙ append_assoc (codes "[" ++ x ++ codes ",") y (93 ∷ rest)
    ∙ append_assoc (codes "[" ++ x) (codes ",") (y ++ (93 ∷ rest))

text-parted : (x y rest : List ℕ) → x ++ codes " " ++ y ++ rest ≡ x ++ (32 ∷ y ++ rest)
text-parted x y rest = append_assoc (x ++ codes " ") y rest ∙ append_assoc x (codes " ") (y ++ rest)

position-read : (n : Notation) → IsRead (SpellsPosition n)
position-read geo_json t u more rest p q (x, y, is, sx, sy) (x2, y2, is2, sx2, sy2) bm br same =
    let inside = tail-same 91 91 (x ++ (44 ∷ y ++ (93 ∷ more))) (x2 ++ (44 ∷ y2 ++ (93 ∷ rest)))
    (sym (ap (λ (l : List ℕ). l ++ more) is ∙ json-parted x y more) ∙ same ∙ ap (λ (l : List ℕ). l ++ rest) is2 ∙ json-parted x2 y2 rest) in
    let c = both-read 44 comma-behind x y x2 y2 (93 ∷ more) (93 ∷ rest) p q sx sy sx2 sy2 bracket-behind bracket-behind inside in
    (c.0, tail-same 93 93 more rest c.1)
position-read well_known t u more rest p q (x, y, is, sx, sy) (x2, y2, is2, sx2, sy2) bm br same =
    both-read 32 space-behind x y x2 y2 more rest p q sx sy sx2 sy2 bm br
    (sym (ap (λ (l : List ℕ). l ++ more) is ∙ text-parted x y more) ∙ same ∙ ap (λ (l : List ℕ). l ++ rest) is2 ∙ text-parted x2 y2 rest)

-- ---- lists

-- what closes a list is no comma, and no number goes on behind it
pub record IsClosing (c : ℕ) : Type 0 where
  pub no_comma : c ≡ 44 → ⊥
  pub behind : Behind (c ∷ [])

module _ {A : Type 0} (Spells : List ℕ → A → Type 0) (read : IsRead Spells) (c : ℕ) (closes : IsClosing c) where
  one-not-more : (t first others more rest : List ℕ) (a b : A) → Spells t a → Spells first b → t ++ (c ∷ more) ≡ first ++ codes "," ++ others ++ rest → ⊥
  one-not-more t first others more rest a b s r e =
      let cut = read t first (c ∷ more) (44 ∷ others ++ rest) a b s r closes.behind comma-behind
      (e ∙ append_assoc (first ++ codes ",") others rest ∙ append_assoc first (codes ",") (others ++ rest)) in
      closes.no_comma (head-same c 44 more (others ++ rest) cut.1)

  row-read : (t u more rest : List ℕ) (xs ys : List A) → SpellsRow Spells t xs → SpellsRow Spells u ys → t ++ (c ∷ more) ≡ u ++ (c ∷ rest) → (xs ≡ ys) × (more ≡ rest)
  row-read t u more rest [] ys s r e = absurd s
  row-read t u more rest (x ∷ xs) [] s r e = absurd r
  row-read t u more rest (x ∷ []) (y ∷ []) s r e =
      let cut = read t u (c ∷ more) (c ∷ rest) x y s r closes.behind closes.behind e in
      (ap (λ (z : A). z ∷ []) cut.0, tail-same c c more rest cut.1)
  row-read t u more rest (x ∷ []) (y ∷ y2 ∷ ys) s (first, others, is, r, rs) e =
      absurd (one-not-more t first others more (c ∷ rest) x y s r (e ∙ ap (λ (l : List ℕ). l ++ (c ∷ rest)) is))
  row-read t u more rest (x ∷ x2 ∷ xs) (y ∷ []) (first, others, is, s, ss) r e =
      absurd (one-not-more u first others rest (c ∷ more) y x r s (sym e ∙ ap (λ (l : List ℕ). l ++ (c ∷ more)) is))
  row-read t u more rest (x ∷ x2 ∷ xs) (y ∷ y2 ∷ ys) (first, others, is, s, ss) (first2, others2, is2, r, rs) e =
      let parts = λ (f o m : List ℕ). append_assoc (f ++ codes ",") o m ∙ append_assoc f (codes ",") (o ++ m) in
      let cut = read first first2 (44 ∷ others ++ (c ∷ more)) (44 ∷ others2 ++ (c ∷ rest)) x y s r comma-behind comma-behind
      (sym (ap (λ (l : List ℕ). l ++ (c ∷ more)) is ∙ parts first others (c ∷ more)) ∙ e ∙ ap (λ (l : List ℕ). l ++ (c ∷ rest)) is2 ∙ parts first2 others2 (c ∷ rest)) in
      let later = row-read others others2 more rest (x2 ∷ xs) (y2 ∷ ys) ss rs (tail-same 44 44 (others ++ (c ∷ more)) (others2 ++ (c ∷ rest)) cut.1) in
      (ap₂ (λ (z : A) (zs : List A). z ∷ zs) cut.0 later.0, later.1)

bracket-closes : IsClosing 93
bracket-closes = record { no_comma = λ e. absurd (omega arith); behind = bracket-behind }

parenthesis-closes : IsClosing 41
parenthesis-closes = record { no_comma = λ e. absurd (omega arith); behind = parenthesis-behind }

-- a row in brackets, whatever is behind them
in-brackets : (left right : ℕ) (row rest : List ℕ) → (left ∷ row) ++ (right ∷ []) ++ rest ≡ left ∷ row ++ (right ∷ rest)
in-brackets left right row rest = append_assoc (left ∷ row) (right ∷ []) rest

list-read-by : {A : Type 0} (Spells : List ℕ → A → Type 0) → IsRead Spells → (left right : ℕ) → IsClosing right → (t u more rest row row2 : List ℕ) (xs ys : List A) →
    t ≡ (left ∷ row) ++ (right ∷ []) → u ≡ (left ∷ row2) ++ (right ∷ []) → SpellsRow Spells row xs → SpellsRow Spells row2 ys → t ++ more ≡ u ++ rest → (xs ≡ ys) × (more ≡ rest)
list-read-by Spells read left right closes t u more rest row row2 xs ys is is2 s r e =
    row-read Spells read right closes row row2 more rest xs ys s r
    (tail-same left left (row ++ (right ∷ more)) (row2 ++ (right ∷ rest))
    (sym (ap (λ (l : List ℕ). l ++ more) is ∙ in-brackets left right row more) ∙ e ∙ ap (λ (l : List ℕ). l ++ rest) is2 ∙ in-brackets left right row2 rest))

list-read : {A : Type 0} (n : Notation) (Spells : List ℕ → A → Type 0) → IsRead Spells → IsRead (SpellsList n Spells)
list-read geo_json Spells read t u more rest xs ys (row, is, s) (row2, is2, r) bm br e = list-read-by Spells read 91 93 bracket-closes t u more rest row row2 xs ys is is2 s r e
list-read well_known Spells read t u more rest xs ys (row, is, s) (row2, is2, r) bm br e = list-read-by Spells read 40 41 parenthesis-closes t u more rest row row2 xs ys is is2 s r e

-- ---- rings and polygons

ring-read : (n : Notation) → IsRead (SpellsRing n)
ring-read n t u more rest g h s r bm br e =
    let c = list-read n (SpellsPosition n) (position-read n) t u more rest (s.first ∷ s.others ++ s.first ∷ []) (r.first ∷ r.others ++ r.first ∷ []) s.positions r.positions bm br e in
    (s.edges ∙ ap edges_along c.0 ∙ sym r.edges, c.1)

polygon-same : (g h : Polygon) → g.outer ∷ g.inner ≡ h.outer ∷ h.inner → g ≡ h
polygon-same g h e = ap₂ (λ (outer : List Edge) (inner : List (List Edge)). record { outer = outer; inner = inner }) (ap (λ (l : List (List Edge)). get_or l 0 []) e) (ap (drop 1) e)

polygon-read : (n : Notation) → IsRead (SpellsPolygon n)
polygon-read n t u more rest g h s r bm br e =
    let c = list-read n (SpellsRing n) (ring-read n) t u more rest (g.outer ∷ g.inner) (h.outer ∷ h.inner) s r bm br e in
    (polygon-same g h c.0, c.1)

pub area-read : (n : Notation) (text : List ℕ) (polygons others : List Polygon) → SpellsMultiPolygon n text polygons → SpellsMultiPolygon n text others → polygons ≡ others
area-read n text polygons others s r = (list-read n (SpellsPolygon n) (polygon-read n) text text [] [] polygons others s r tt tt refl).0
