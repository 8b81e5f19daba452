-- Plain words of `sample` are taken, and give the number that they say. No public contract cites it.
use Rattle.std.proofs.Common.{◌≡◌, ◌∙◌, ◌==◌, ◌&&◌, ◌||◌, ℕ, Bool, cond, not, true, false, [], ◌∷◌, Option, Some, None, Ok, codes, length, inr}
use Rattle.std.proofs.Common.{refl, ap, ap₂, sym, nat_le, nat_lt, arith, true≢false, is_some}
use Rattle.std.specs.Prelude.{option_and_then, unwrap_or}
use Rattle.std.specs.Str.Parse.{digits_value}
use Rattle.std.proofs.lemmas.Bool.Decides.{nat_tests}
use Rattle.clap.specs.Words.{Kinds, Shape, Text, built, first_of, matches_of}
use Rattle.clap.specs.Kinds.{check_kinds, or_else}
use Rattle.clap.specs.Faults.{walk_fault}
use Rattle.clap.specs.Walk.{Walk}
use Rattle.osm_words.specs.Job.{sample}
use Rattle.osm_words.specs.Parsed.{unless_refused}
use Rattle.osm_words.specs.PlainSample.{IsPlainCount, sample_words}
use Rattle.osm_words.specs.PlainWords.{begins_with_dash}
use Rattle.osm_words.specs.SampleCommand.{sample_app}
use Rattle.osm_words.specs.SampleWords.{count_named, count_said, in_range, sample_asked, where_count}
use Rattle.osm_words.specs.Words.{as_job, job_asked}
use Rattle.osm_words.proofs.Walk.{Ends, TakesWord, ready_none, word_passes, word_walks}
use Rattle.osm_words.proofs.Taken.{EndsWell, given, taken}
use Rattle.osm_words.proofs.SharedOptions.{IsPositional, ready_one, takes_name}

abbrev top : Shape
top = (built sample_app).top

-- ---- a number doesn't begin with a dash

no_number : (few some short : Bool) (value : ℕ) → cond few (option_and_then where_count (cond (some && short && false) (Some value) None)) None ≡ None
no_number true true true value = refl
no_number true true false value = refl
no_number true false true value = refl
no_number true false false value = refl
no_number false some short value = refl

dash_is_none : (rest : Text) → count_named (45 ∷ rest) ≡ None
dash_is_none rest = no_number (nat_le (length (45 ∷ rest)) 3) (nat_lt 0 (length (45 ∷ rest))) (nat_le (length (45 ∷ rest)) 7) (digits_value 10 (45 ∷ rest))

no_dash : (written : Text) (count : ℕ) → count_named written ≡ Some count → begins_with_dash written ≡ false
no_dash [] count is = refl
no_dash (a ∷ rest) count is = go (a == 45) refl
  where
    go : (b : Bool) → (a == 45) ≡ b → b ≡ false
    go false other = refl
    go true same =
        let dash : a ≡ 45 = grind (arith, nat_tests, same) in
        absurd (true≢false (sym (ap (λ (o : Option ℕ). is_some o) (sym (dash_is_none rest) ∙ ap (λ (c : ℕ). count_named (c ∷ rest)) (sym dash) ∙ is))))

-- ---- the command takes it

count_name : IsPositional top 1 (codes "count")
count_name = record {
  one = record { settles = λ word rows. refl; passes = λ word rows. refl };
  goes = λ word rows pending. refl;
  asks = λ rows pending. refl;
}

-- the last word is the only one
alone : (s : Shape) (name word : Text) → TakesWord s 1 name word → Ends s name (word ∷ []) [] word
unfolding walk_fault
alone s name word takes = record {
  holds = ap (λ (w : Walk). w.held) (word_walks s 1 name word takes [] None [] (ready_none s []));
  passes = ap (λ (k : Kinds). or_else k []) (word_passes s 1 name word takes [] None [] (ready_none s []));
  new = refl;
}

-- the command asks for nothing else
ends_well : EndsWell top [] (codes "count")
ends_well = record {
  ready = ready_one top (codes "count") count_name.one;
  defaults = (refl, tt);
  checks = λ rows before given. ap (λ (is : Bool). check_kinds false false (not is || false)) given;
}

plain_sample : (written : Text) (count : ℕ) → IsPlainCount written count → sample_asked (sample_words written) ≡ Ok count
plain_sample written count plain =
    let end = alone top (codes "count") written (takes_name top 1 (codes "count") count_name written (inr (no_dash written count plain))) in
    let word_is : first_of (codes "count") (matches_of sample_app (sample_words written)) ≡ Some written =
    given top [] (codes "count") ends_well (written ∷ []) [] written end (codes "count") in
    let found : count_said (matches_of sample_app (sample_words written)) ≡ Ok count =
    ap (λ (o : Option Text). in_range (count_named (unwrap_or o []))) word_is ∙ ap in_range plain in
    ap₂ unless_refused (taken top [] (codes "count") ends_well (written ∷ []) [] written tt end) found

pub plain_sample_asked : (written : Text) (count : ℕ) → IsPlainCount written count → job_asked (sample_words written) ≡ Ok (sample count)
plain_sample_asked written count plain = ap (as_job sample) (plain_sample written count plain)
