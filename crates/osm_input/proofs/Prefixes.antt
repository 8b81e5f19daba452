-- The bad place of an input's prefix is that of the input.
use Rattle.std.proofs.Common.{◌≡◌, ◌∙◌, refl, sym, ap, subst, ℕ, ◌<◌, Bool, true, false, List, [], ◌∷◌, ◌++◌, length, append_assoc, length-append, inr, arith, Some, nat_lt}
use Rattle.std.specs.List.{slice_split, before_first}
use Rattle.std.proofs.lemmas.Bool.{lt-ltb, ltb-true, ltb-false}
use Rattle.opl_reader.specs.Lines.{is_newline, with_last, whole_lines, unfinished_of}
use Rattle.opl_reader.proofs.ReaderKit.{some_part, lines_with_rest}
use Rattle.osm_input.specs.declared.fault.InputFault.{InputFault}
use Rattle.osm_input.specs.declared.fault.InputFault.TheVariants.{TooLong}
use Rattle.osm_input.specs.Lines.{lines_begun}
use Rattle.osm_input.specs.Input.{objects_told, line_fault, IsBadPlace}
use Rattle.osm_input.proofs.Begun.{begun_stands, begun_whole, lines_behind}
use Rattle.osm_input.proofs.Lines.{Place, last, earlier, place_of}

-- a line that stands among the first lines stands there in all lines
bad_among : (longest : ℕ) (some all rest : List (List ℕ)) (number : ℕ) (fault : InputFault) (b : IsBadPlace longest some number fault) (lines between : List (List ℕ)) →
    lines ≡ b.before ++ b.line ∷ between → all ≡ lines ++ rest → IsBadPlace longest all number fault
bad_among longest some all rest number fault b lines between among is = record {
  before = b.before;
  line = b.line;
  after = between ++ rest;
  parted = is ∙ ap (λ (zs : List (List ℕ)). zs ++ rest) among ∙ append_assoc b.before (b.line ∷ between) rest;
  counted = b.counted;
  good_before = b.good_before;
  bad = b.bad;
}

too_long : (longest : ℕ) (line more : List ℕ) (before : List (List ℕ)) (fault : InputFault) → longest < length line →
    line_fault longest (objects_told before) line ≡ Some fault → line_fault longest (objects_told before) (line ++ more) ≡ Some fault
too_long longest line more before fault long is =
    let longer : longest < length (line ++ more) = omega (arith, length-append line more) in
    let here : line_fault longest (objects_told before) line ≡ Some TooLong = rw (lt-ltb longest (length line) long) refl in
    let there : line_fault longest (objects_told before) (line ++ more) ≡ Some TooLong = rw (lt-ltb longest (length (line ++ more)) longer) refl in
    there ∙ sym here ∙ is

module _ (longest : ℕ) (counts : List ℕ → Bool) (far : (line : List ℕ) → longest < length line → counts line ≡ true) (xs ys : List ℕ) (number : ℕ) (fault : InputFault) where
  abbrev all : List (List ℕ)
  all = with_last counts (slice_split is_newline (xs ++ ys))

  abbrev line_begun : List ℕ
  line_begun = unfinished_of xs ++ before_first is_newline ys

  -- the unfinished line is too long, or a line before it is bad
  bad_last_part : (b : IsBadPlace longest (lines_begun longest xs) number fault) → longest < length (unfinished_of xs) → Place (whole_lines xs) (unfinished_of xs) b.before b.line →
      (others : List (List ℕ)) → all ≡ whole_lines xs ++ line_begun ∷ others → IsBadPlace longest all number fault
  bad_last_part b long (earlier between among) others is = bad_among longest _ all _ number fault b (whole_lines xs) between among is
  bad_last_part b long (last same here) others is = record {
    before = b.before;
    line = line_begun;
    after = others;
    parted = is ∙ ap (λ (zs : List (List ℕ)). zs ++ line_begun ∷ others) same;
    counted = b.counted;
    good_before = b.good_before;
    bad = too_long longest (unfinished_of xs) (before_first is_newline ys) b.before fault long
        (subst (λ (z : List ℕ). line_fault longest (objects_told b.before) z ≡ Some fault) (sym here) b.bad);
  }

  bad_by : (b : IsBadPlace longest (lines_begun longest xs) number fault) (long : Bool) → nat_lt longest (length (unfinished_of xs)) ≡ long → IsBadPlace longest all number fault
  bad_by b true is =
      let begun : lines_begun longest xs ≡ whole_lines xs ++ unfinished_of xs ∷ [] = lines_with_rest (λ line. nat_lt longest (length line)) (slice_split is_newline xs) (some_part xs) ∙ rw is refl in
      let less = ltb-true _ _ is in
      let longer : longest < length line_begun = omega (arith, length-append (unfinished_of xs) (before_first is_newline ys)) in
      let there = begun_stands counts xs ys (inr (far line_begun longer)) in
      bad_last_part b less (place_of (whole_lines xs) (unfinished_of xs) b.before b.line b.after (sym begun ∙ b.parted)) there.0 there.1
  bad_by b false is =
      bad_among longest _ all _ number fault b (whole_lines xs) b.after (sym (begun_whole longest xs (ltb-false _ _ is)) ∙ b.parted) (lines_behind counts xs ys)

  pub front_bad : IsBadPlace longest (lines_begun longest xs) number fault → IsBadPlace longest all number fault
  front_bad b = bad_by b (nat_lt longest (length (unfinished_of xs))) refl
