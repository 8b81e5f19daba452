-- The first bad line of a text: there is one, or none is bad.
use Rattle.std.proofs.Common.{◌≡◌, ◌∙◌, refl, sym, ap, subst, ℕ, ◌+◌, Bool, true, false, All, List, [], ◌∷◌, ◌++◌, ◌⊎◌, inl, inr, length, arith}
use Rattle.std.specs.List.{filter_map}
use Rattle.std.proofs.lemmas.List.Elements.{All-cons, All-head, All-nil, All-tail}
use Rattle.osm_lattice.specs.declared.loc.Loc.{Loc}
use Rattle.osm_input.specs.PointLines.Lines.{is_bad, point_told}
use Rattle.osm_input.specs.PointLines.Points.{ArePoints, IsBadPoint, lines_parted}

abbrev IsGood : List ℕ → Type 0
IsGood line = is_bad line ≡ false

good_or_bad : (line : List ℕ) → is_bad line ≡ true → is_bad line ≡ false → ⊥
good_or_bad line bad good = cc (sym bad ∙ good)

-- ---- one alone

same_place : (b c : List (List ℕ)) (l m : List ℕ) (k n : List (List ℕ)) → b ++ l ∷ k ≡ c ++ m ∷ n → All IsGood b → All IsGood c → is_bad l ≡ true → is_bad m ≡ true →
    length b ≡ length c
same_place [] [] l m k n e gb gc bl bm = refl
same_place [] (x ∷ c) l m k n e gb gc bl bm =
    let h : l ≡ x = cc e in absurd (good_or_bad l bl (ap is_bad h ∙ All-head IsGood x c gc))
same_place (x ∷ b) [] l m k n e gb gc bl bm =
    let h : m ≡ x = cc (sym e) in absurd (good_or_bad m bm (ap is_bad h ∙ All-head IsGood x b gb))
same_place (x ∷ b) (y ∷ c) l m k n e gb gc bl bm =
    let t : b ++ l ∷ k ≡ c ++ m ∷ n = cc e in
    let s = same_place b c l m k n t (All-tail IsGood x b gb) (All-tail IsGood y c gc) bl bm in omega (arith, s)

pub bad_one : (text : List ℕ) (m n : ℕ) → IsBadPoint text m → IsBadPoint text n → m ≡ n
bad_one text m n p q =
    p.counted ∙ ap (λ (k : ℕ). k + 1) (same_place p.before q.before p.line q.line p.after q.after (sym p.parted ∙ q.parted) p.good_before q.good_before p.bad q.bad)
    ∙ sym q.counted

-- ---- not where all are good

within : (before : List (List ℕ)) (line : List ℕ) (after : List (List ℕ)) → All IsGood (before ++ line ∷ after) → is_bad line ≡ false
within [] line after good = All-head IsGood line after good
within (x ∷ before) line after good = within before line after (All-tail IsGood x (before ++ line ∷ after) good)

pub not_both : (text : List ℕ) (points : List Loc) (number : ℕ) → ArePoints text points → IsBadPoint text number → ⊥
not_both text points number are bad = good_or_bad bad.line bad.bad (within bad.before bad.line bad.after (subst (All IsGood) bad.parted are.good))

-- ---- it is found

record Broken (lines : List (List ℕ)) : Type 0 where
  before : List (List ℕ)
  line : List ℕ
  after : List (List ℕ)
  parted : lines ≡ before ++ line ∷ after
  good_before : All IsGood before
  bad : is_bad line ≡ true

module _ (line : List ℕ) (lines : List (List ℕ)) where
  here : is_bad line ≡ true → Broken (line ∷ lines)
  here bad = record { before = []; line = line; after = lines; parted = refl; good_before = All-nil IsGood; bad = bad }

  later : is_bad line ≡ false → Broken lines → Broken (line ∷ lines)
  later good b = record {
    before = line ∷ b.before;
    line = b.line;
    after = b.after;
    parted = ap (λ (ls : List (List ℕ)). line ∷ ls) b.parted;
    good_before = All-cons IsGood line b.before good b.good_before;
    bad = b.bad;
  }

  more : (b : Bool) → is_bad line ≡ b → All IsGood lines ⊎ Broken lines → All IsGood (line ∷ lines) ⊎ Broken (line ∷ lines)
  more true is found = inr (here is)
  more false is (inl good) = inl (All-cons IsGood line lines is good)
  more false is (inr broken) = inr (later is broken)

find : (lines : List (List ℕ)) → All IsGood lines ⊎ Broken lines
find [] = inl (All-nil IsGood)
find (line ∷ lines) = more line lines (is_bad line) refl (find lines)

pub has_points_or_bad : (text : List ℕ) → ((points : List Loc) × ArePoints text points) ⊎ ((number : ℕ) × IsBadPoint text number)
has_points_or_bad text = by (find (lines_parted text))
  where
    by : All IsGood (lines_parted text) ⊎ Broken (lines_parted text) → ((points : List Loc) × ArePoints text points) ⊎ ((number : ℕ) × IsBadPoint text number)
    by (inl good) = inl (filter_map point_told (lines_parted text), record { good = good; told = refl })
    by (inr b) = inr (
      length b.before + 1,
      record {
        before = b.before;
        line = b.line;
        after = b.after;
        parted = b.parted;
        counted = refl;
        good_before = b.good_before;
        bad = b.bad;
      },
    )
