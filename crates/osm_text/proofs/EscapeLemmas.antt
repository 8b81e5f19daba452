-- Strings as JSON's writer escapes them.
use Rattle.std.proofs.Common.{◌≡◌, ◌∙◌, ℕ, ◌==◌, Bool, true, false, List, [], ◌∷◌, ◌++◌, flat_map, refl, ap, arith}
use Rattle.std.proofs.lemmas.Bool.Decides.{nat_tests}
use Rattle.json.specs.Print.{escape_byte, quoted}
use Rattle.osm_text.specs.Properties.{escaped_byte, string_text}

-- by the tests of a byte, in their order
by_tests : (quote slash b f n r t : Bool) (c : ℕ) → (c == 34) ≡ quote → (c == 92) ≡ slash → (c == 8) ≡ b → (c == 12) ≡ f → (c == 10) ≡ n → (c == 13) ≡ r → (c == 9) ≡ t → escape_byte c ≡ escaped_byte c
unfolding escape_byte
by_tests true slash b f n r t c hq hs hb hf hn hr ht = let is : c ≡ 34 = grind (arith, nat_tests, hq) in rw is refl
by_tests false true b f n r t c hq hs hb hf hn hr ht = let is : c ≡ 92 = grind (arith, nat_tests, hs) in rw is refl
by_tests false false true f n r t c hq hs hb hf hn hr ht = let is : c ≡ 8 = grind (arith, nat_tests, hb) in rw is refl
by_tests false false false true n r t c hq hs hb hf hn hr ht = let is : c ≡ 12 = grind (arith, nat_tests, hf) in rw is refl
by_tests false false false false true r t c hq hs hb hf hn hr ht = let is : c ≡ 10 = grind (arith, nat_tests, hn) in rw is refl
by_tests false false false false false true t c hq hs hb hf hn hr ht = let is : c ≡ 13 = grind (arith, nat_tests, hr) in rw is refl
by_tests false false false false false false true c hq hs hb hf hn hr ht = let is : c ≡ 9 = grind (arith, nat_tests, ht) in rw is refl
by_tests false false false false false false false c hq hs hb hf hn hr ht = rw (hq, hs, hb, hf, hn, hr, ht) refl

escapes : (bytes : List ℕ) → flat_map escape_byte bytes ≡ flat_map escaped_byte bytes
escapes [] = refl
escapes (c ∷ bytes) =
    ap (λ (xs : List ℕ). xs ++ flat_map escape_byte bytes) (by_tests (c == 34) (c == 92) (c == 8) (c == 12) (c == 10) (c == 13) (c == 9) c refl refl refl refl refl refl refl)
    ∙ ap (λ (xs : List ℕ). escaped_byte c ++ xs) (escapes bytes)

pub quoted-string : (bytes : List ℕ) → quoted bytes ≡ string_text bytes
unfolding string_text
quoted-string bytes = ap (λ (xs : List ℕ). 34 ∷ xs ++ 34 ∷ []) (escapes bytes)
