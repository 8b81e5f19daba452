-- A text of points, as far as its lines are read.
use Rattle.std.proofs.Common.{◌≡◌, ◌∙◌, refl, sym, ap, subst, ℕ, ◌+◌, ◌≤◌, true, false, All, List, [], ◌∷◌, ◌++◌, length, Option, None, Some, append_assoc, append-nil, length-append, arith}
use Rattle.std.specs.Borrow.{Bor}
use Rattle.std.specs.List.{filter_map}
use Rattle.std.specs.Option.{option_copied}
use Rattle.std.proofs.lemmas.List.Elements.{All-append, All-cons, All-nil, filter_map-append}
use Rattle.osm_lattice.specs.declared.loc.Loc.{Loc}
use Rattle.osm_input.specs.declared.points.line.Told.TheVariants.{Nothing, Point, Bad}
use Rattle.osm_input.specs.PointLines.Lines.{is_bad, is_empty_or_comment, location_in_words, point_told, words_of}
use Rattle.osm_input.specs.PointLines.LineSteps.{LineTells, len_left, lines_left}
use Rattle.osm_input.specs.PointLines.Points.{ArePoints, IsBadPoint, lines_parted}

-- ---- what a line adds

abbrev adds : Option Loc → List Loc
adds None = []
adds (Some point) = point ∷ []

one_more : (lines : List (List ℕ)) (line : List ℕ) (p : Option Loc) → point_told line ≡ p → filter_map point_told (lines ++ line ∷ []) ≡ filter_map point_told lines ++ adds p
one_more lines line None is = filter_map-append point_told lines (line ∷ []) ∙ rw is refl
one_more lines line (Some point) is = filter_map-append point_told lines (line ∷ []) ∙ rw is refl

module _ (line : List ℕ) where
  passed_good : is_empty_or_comment (words_of line) ≡ true → (is_bad line ≡ false) × (point_told line ≡ None)
  passed_good is = (rw is refl, rw is refl)

  point_good : (point : Loc) → (is_empty_or_comment (words_of line) ≡ false) × (location_in_words (words_of line) ≡ Some point) → (is_bad line ≡ false) × (point_told line ≡ Some point)
  point_good point is = (rw (is.0, is.1) refl, rw (is.0, is.1) refl)

  told_bad : (is_empty_or_comment (words_of line) ≡ false) × (location_in_words (words_of line) ≡ None) → is_bad line ≡ true
  told_bad is = rw (is.0, is.1) refl

-- ---- the lines before what is left

pub record ReadTo (text : List ℕ) (left : Option (Bor (List ℕ))) (number : ℕ) (points : List Loc) : Type 0 where
  before : List (List ℕ)
  parted : lines_parted text ≡ before ++ lines_left (option_copied left)
  good : All (λ line. is_bad line ≡ false) before
  counted : number ≡ length before
  told : points ≡ filter_map point_told before
  pub room : number + len_left (option_copied left) ≤ length text + 1

pub read_none : (text : Bor (List ℕ)) → ReadTo text.now (Some text) 0 []
read_none text = record {
  before = [];
  parted = refl;
  good = All-nil (λ line. is_bad line ≡ false);
  counted = refl;
  told = refl;
  room = omega arith;
}

pub read_all : (text : List ℕ) (number : ℕ) (points : List Loc) → ReadTo text None number points → ArePoints text points
read_all text number points r = let e : lines_parted text ≡ r.before = r.parted ∙ append-nil r.before in record {
  good = subst (All (λ line. is_bad line ≡ false)) (sym e) r.good;
  told = r.told ∙ ap (filter_map point_told) (sym e);
}

module _ (text : List ℕ) (rest : Bor (List ℕ)) (number : ℕ) (points : List Loc) (r : ReadTo text (Some rest) number points) (line : List ℕ) (more : Option (Bor (List ℕ)))
    (lines : lines_parted rest.now ≡ line ∷ lines_left (option_copied more)) (len : length line + len_left (option_copied more) ≡ length rest.now) where
  parts : lines_parted text ≡ (r.before ++ line ∷ []) ++ lines_left (option_copied more)
  parts = r.parted ∙ ap (λ (ls : List (List ℕ)). r.before ++ ls) lines ∙ sym (append_assoc r.before (line ∷ []) (lines_left (option_copied more)))

  read_one : (p : Option Loc) → (is_bad line ≡ false) × (point_told line ≡ p) → ReadTo text more (number + 1) (points ++ adds p)
  read_one p is = record {
    before = r.before ++ line ∷ [];
    parted = parts;
    good = All-append (λ l. is_bad l ≡ false) r.before (line ∷ []) r.good (All-cons (λ l. is_bad l ≡ false) line [] is.0 (All-nil (λ l. is_bad l ≡ false)));
    counted = let c = r.counted in omega (arith, length-append r.before (line ∷ []));
    told = ap (λ (ps : List Loc). ps ++ adds p) r.told ∙ sym (one_more r.before line p is.1);
    room = let room = r.room in omega (arith, len);
  }

  pub read_passed : LineTells line Nothing → ReadTo text more (number + 1) points
  read_passed is = subst (λ (ps : List Loc). ReadTo text more (number + 1) ps) (append-nil points) (read_one None (passed_good line is))

  pub read_point : (point : Loc) → LineTells line (Point point) → ReadTo text more (number + 1) (points ++ point ∷ [])
  read_point point is = read_one (Some point) (point_good line point is)

  pub read_bad : LineTells line Bad → IsBadPoint text (number + 1)
  read_bad is = record {
    before = r.before;
    line = line;
    after = lines_left (option_copied more);
    parted = r.parted ∙ ap (λ (ls : List (List ℕ)). r.before ++ ls) lines;
    counted = ap (λ (n : ℕ). n + 1) r.counted;
    good_before = r.good;
    bad = told_bad line is;
  }
