-- How many items stand before each of some lists, when one of them changes.
use Rattle.std.proofs.Common.{arith, drop, length, map, List, [], ◌++◌, ◌+◌, ◌-◌, ◌∷◌, ◌<◌, ◌≡◌, ◌≤◌, suc, take, zero, ℕ}
use Rattle.std.proofs.Math.ListN.{get_or, set}
use Rattle.std.proofs.Math.Path.{ap, refl, ◌∙◌}
use Rattle.std.specs.List.{flat_map}
use Rattle.std.proofs.lemmas.List.{length-append}
use Rattle.chunked_list.specs.Starts.{starts_from}

module _ {X C : Type 0} (f : C → List X) where
  pub length-starts : (n : ℕ) (cs : List C) → length (starts_from f n cs) ≡ length cs
  length-starts n [] = refl
  length-starts n (c ∷ cs) = ap suc (length-starts (n + length (f c)) cs)

  pub start-at : (n : ℕ) (cs : List C) (i d : ℕ) → i < length cs → get_or (starts_from f n cs) i d ≡ n + length (flat_map f (take i cs))
  start-at n [] i d inside = absurd (omega arith)
  start-at n (c ∷ cs) zero d inside = omega arith
  start-at n (c ∷ cs) (suc i) d inside = let rest = start-at (n + length (f c)) cs i d (omega arith) in omega (arith, rest, length-append (f c) (flat_map f (take i cs)))

  -- before the next one stand those of one more
  pub next-front : (cs : List C) (i : ℕ) (d : C) → i < length cs → length (flat_map f (take (suc i) cs)) ≡ length (flat_map f (take i cs)) + length (f (get_or cs i d))
  next-front [] i d inside = absurd (omega arith)
  next-front (c ∷ cs) zero d inside = omega (arith, length-append (f c) [])
  next-front (c ∷ cs) (suc i) d inside =
      let rest = next-front cs i d (omega arith) in
      omega (arith, rest, length-append (f c) (flat_map f (take i cs)), length-append (f c) (flat_map f (take (suc i) cs)))

  pub front-rises : (cs : List C) (i j : ℕ) → i ≤ j → length (flat_map f (take i cs)) ≤ length (flat_map f (take j cs))
  front-rises cs zero j up = omega arith
  front-rises [] (suc i) (suc j) up = omega arith
  front-rises [] (suc i) zero up = absurd (omega arith)
  front-rises (c ∷ cs) (suc i) zero up = absurd (omega arith)
  front-rises (c ∷ cs) (suc i) (suc j) up =
      let rest = front-rises cs i j (omega arith) in
      omega (arith, rest, length-append (f c) (flat_map f (take i cs)), length-append (f c) (flat_map f (take j cs)))

  pub front-within : (cs : List C) (i : ℕ) → length (flat_map f (take i cs)) ≤ length (flat_map f cs)
  front-within cs zero = omega arith
  front-within [] (suc i) = omega arith
  front-within (c ∷ cs) (suc i) =
      let rest = front-within cs i in omega (arith, rest, length-append (f c) (flat_map f (take i cs)), length-append (f c) (flat_map f cs))

  -- ---- one of them changes

  starts-more : (n : ℕ) (cs : List C) → starts_from f (n + 1) cs ≡ map (λ s. s + 1) (starts_from f n cs)
  starts-more n [] = refl
  starts-more n (c ∷ cs) =
      let same : (n + 1) + length (f c) ≡ (n + length (f c)) + 1 = omega arith in
      ap (λ ss. (n + 1) ∷ ss) (ap (λ m. starts_from f m cs) same ∙ starts-more (n + length (f c)) cs)

  starts-fewer : (n : ℕ) (cs : List C) → starts_from f n cs ≡ map (λ s. s - 1) (starts_from f (n + 1) cs)
  starts-fewer n [] = refl
  starts-fewer n (c ∷ cs) =
      let same : (n + length (f c)) + 1 ≡ (n + 1) + length (f c) = omega arith in
      let first : n ≡ (n + 1) - 1 = omega arith in
      ap (λ ss. n ∷ ss) (starts-fewer (n + length (f c)) cs ∙ ap (λ m. map (λ s. s - 1) (starts_from f m cs)) same) ∙ ap (λ m. m ∷ map (λ s. s - 1) (starts_from f ((n + 1) + length (f c)) cs)) first

  pub starts-set : (n : ℕ) (cs : List C) (i : ℕ) (b c : C) → i < length cs → b ≡ get_or cs i b → length (f c) ≡ length (f b) → starts_from f n (set cs i c) ≡ starts_from f n cs
  starts-set n [] i b c inside is long = absurd (omega arith)
  starts-set n (d ∷ cs) zero b c inside is long = ap (λ m. n ∷ starts_from f (n + m) cs) (long ∙ ap (λ y. length (f y)) is)
  starts-set n (d ∷ cs) (suc i) b c inside is long = ap (λ ss. n ∷ ss) (starts-set (n + length (f d)) cs i b c (omega arith) is long)

  pub starts-raised : (n : ℕ) (cs : List C) (i : ℕ) (b c : C) → i < length cs → b ≡ get_or cs i b → length (f c) ≡ length (f b) + 1
      → starts_from f n (set cs i c) ≡ take (suc i) (starts_from f n cs) ++ map (λ s. s + 1) (drop (suc i) (starts_from f n cs))
  starts-raised n [] i b c inside is long = absurd (omega arith)
  starts-raised n (d ∷ cs) zero b c inside is long =
      let same : n + length (f c) ≡ (n + length (f d)) + 1 = omega (arith, long, ap (λ y. length (f y)) is) in
      ap (λ ss. n ∷ ss) (ap (λ m. starts_from f m cs) same ∙ starts-more (n + length (f d)) cs)
  starts-raised n (d ∷ cs) (suc i) b c inside is long = ap (λ ss. n ∷ ss) (starts-raised (n + length (f d)) cs i b c (omega arith) is long)

  pub starts-lowered : (n : ℕ) (cs : List C) (i : ℕ) (b c : C) → i < length cs → b ≡ get_or cs i b → length (f b) ≡ length (f c) + 1
      → starts_from f n (set cs i c) ≡ take (suc i) (starts_from f n cs) ++ map (λ s. s - 1) (drop (suc i) (starts_from f n cs))
  starts-lowered n [] i b c inside is long = absurd (omega arith)
  starts-lowered n (d ∷ cs) zero b c inside is long =
      let same : (n + length (f c)) + 1 ≡ n + length (f d) = omega (arith, long, ap (λ y. length (f y)) is) in
      ap (λ ss. n ∷ ss) (starts-fewer (n + length (f c)) cs ∙ ap (λ m. map (λ s. s - 1) (starts_from f m cs)) same)
  starts-lowered n (d ∷ cs) (suc i) b c inside is long = ap (λ ss. n ∷ ss) (starts-lowered (n + length (f d)) cs i b c (omega arith) is long)
