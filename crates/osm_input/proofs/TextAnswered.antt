-- What is answered of a text whose input is told, from what is answered of the bytes taken off it.
use Rattle.std.proofs.Common.{◌≡◌, ◌∙◌, refl, sym, ap, subst, ℕ, ◌<◌, List, [], ◌++◌}
use Rattle.std.proofs.Common.{length, append-nil, length-append, arith, Option, None, Some, IfSome, Result, Ok, Err}
use Rattle.osm_host.specs.Outside.{Outside, preceded, risen, HasRisen}
use Rattle.osm_input.specs.declared.text.TextError.{TextError}
use Rattle.osm_input.specs.declared.text.TextError.TheVariants.{TooMuchInput, ReadFault, OutOfMemory}
use Rattle.osm_input.specs.ReadFaults.{LastReadFailed}
use Rattle.osm_input.specs.Text.{IsTextOf, IsTextWhole, IsTextAnswer, TookWhole, ReadsText, ReadsTextOnce}

told_of : (limit : ℕ) (taken rest : List ℕ) (now : Outside) (r : Result (List ℕ) TextError) → now.left ≡ Some rest → IsTextAnswer limit taken now r →
    IsTextOf limit (taken ++ rest) r
told_of limit taken rest now (Ok text) left answer =
    let none : rest ≡ [] = subst (λ (o : Option (List ℕ)). IfSome o (λ xs. xs ≡ [])) left answer.0 in
    subst (λ (xs : List ℕ). IsTextOf limit xs (Ok text)) (sym (ap (λ (ys : List ℕ). taken ++ ys) none ∙ append-nil taken)) answer.1
told_of limit taken rest now (Err (TooMuchInput most)) left answer =
    let many : limit < length taken = answer.0.1 in (answer.0.0, omega (arith, length-append taken rest))
told_of limit taken rest now (Err ReadFault) left answer = tt
told_of limit taken rest now (Err OutOfMemory) left answer = tt

told_left : (limit : ℕ) (taken : List ℕ) (before : Option (List ℕ)) (left : Option (List ℕ)) (now : Outside) (r : Result (List ℕ) TextError) → now.left ≡ left →
    before ≡ preceded taken left →
    IsTextAnswer limit taken now r → IfSome before (λ bytes. IsTextOf limit bytes r)
told_left limit taken before None now r is same answer = subst (λ (o : Option (List ℕ)). IfSome o (λ bytes. IsTextOf limit bytes r)) (sym same) tt
told_left limit taken before (Some rest) now r is same answer = subst (λ (o : Option (List ℕ)). IfSome o (λ bytes. IsTextOf limit bytes r)) (sym same)
    (told_of limit taken rest now r is answer)

told_by : (limit : ℕ) (before now : Outside) (r : Result (List ℕ) TextError) → TookWhole limit before now r →
    IfSome before.left (λ bytes. IsTextOf limit bytes r)
told_by limit before now r t = told_left limit t.taken before.left now.left now r refl t.left t.answer

none_told : (told : Option (List ℕ)) (limit : ℕ) → IfSome told (λ bytes. IsTextOf limit bytes (Err OutOfMemory))
none_told None limit = tt
none_told (Some bytes) limit = tt

-- What is right for the bytes taken is right for the input, where the host tells it.
pub text_told : (limit : ℕ) (before now : Outside) (r : Result (List ℕ) TextError) → ReadsText limit before now r →
    IfSome before.left (λ bytes. IsTextOf limit bytes r)
text_told limit before now (Ok text) reads = told_by limit before now (Ok text) reads
text_told limit before now (Err (TooMuchInput most)) reads = told_by limit before now (Err (TooMuchInput most)) reads
text_told limit before now (Err ReadFault) reads = told_by limit before now (Err ReadFault) reads
text_told limit before now (Err OutOfMemory) reads = none_told before.left limit

-- Without a fault of the host, it is right for the whole input.
whole_told : (told : Option (List ℕ)) (limit : ℕ) (r : Result (List ℕ) TextError) → (r ≡ Err ReadFault → ⊥) → IfSome told (λ bytes. IsTextOf limit bytes r) →
    IfSome told (λ bytes. IsTextWhole limit bytes r)
whole_told None limit r none read = tt
whole_told (Some bytes) limit (Ok text) none read = read
whole_told (Some bytes) limit (Err (TooMuchInput most)) none read = read
whole_told (Some bytes) limit (Err ReadFault) none read = absurd (none refl)
whole_told (Some bytes) limit (Err OutOfMemory) none read = tt

read_rose : (before now : Outside) (r : Result (List ℕ) TextError) → ReadsTextOnce before now r → r ≡ Err ReadFault →
    HasRisen before.read_faults now.read_faults
read_rose before now r once is =
    let failed : LastReadFailed before now = subst (λ (q : Result (List ℕ) TextError). ReadsTextOnce before now q) is once in
    let one : now.read_faults ≡ risen before.read_faults = failed.0 in omega arith

pub text_completes : (limit : ℕ) (before now : Outside) (r : Result (List ℕ) TextError) → ReadsText limit before now r → ReadsTextOnce before now r →
    (HasRisen before.read_faults now.read_faults → ⊥) → IfSome before.left (λ bytes. IsTextWhole limit bytes r)
text_completes limit before now r reads once none = whole_told before.left limit r (λ is. none (read_rose before now r once is))
    (text_told limit before now r reads)
