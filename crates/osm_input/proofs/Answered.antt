-- What is answered of an input that is told, from what is answered of the bytes taken off it.
use Rattle.std.proofs.Common.{◌≡◌, ◌∙◌, refl, sym, ap, subst, ℕ, ◌+◌, ◌-◌, ◌<◌, ◌≤◌, List, [], ◌++◌, length, take, append-nil, length-append, arith, Option, None, Some, IfSome, Result, Ok, Err, nat_lt, ◌⊎◌, inl, inr}
use Rattle.std.proofs.lemmas.Bool.{cases_lt, lt-ltb, le-leb, lt-leb}
use Rattle.std.proofs.lemmas.List.{take_all, take-append-le}
use Rattle.std.proofs.Math.Seq.{take-append-add}
use Rattle.osm_elements.specs.declared.object.Object.{Object}
use Rattle.osm_host.specs.Outside.{Outside, preceded, risen, HasRisen}
use Rattle.osm_input.specs.declared.fault.InputFault.{InputFault}
use Rattle.osm_input.specs.declared.reading.ReadError.{ReadError}
use Rattle.osm_input.specs.declared.reading.ReadError.TheVariants.{BadInput, TooMuchInput, ReadFault, OutOfMemory}
use Rattle.osm_input.specs.ReadFaults.{LastReadFailed}
use Rattle.opl_reader.specs.Lines.{lines_of}
use Rattle.osm_input.specs.Lines.{lines_begun}
use Rattle.osm_input.specs.Input.{AreGood, IsBadPlace}
use Rattle.osm_input.specs.Reading.{lines_counted, HasReachedEnd, IsReadOf, IsAnswerOfReading, Took, Reads, IsReadWhole, ReadsOnce}
use Rattle.osm_input.proofs.Prefixes.{front_bad}

pub within : (limit longest : ℕ) (bytes : List ℕ) → length bytes ≤ limit → lines_counted limit longest bytes ≡ lines_of bytes
within limit longest bytes few = rw (le-leb (length bytes) limit few) refl

pub beyond : (limit longest : ℕ) (bytes : List ℕ) → limit < length bytes → lines_counted limit longest bytes ≡ lines_begun longest (take limit bytes)
beyond limit longest bytes many = rw (lt-leb (length bytes) limit many) refl

-- a bad place among the lines begun counts
take_front : (limit : ℕ) (taken rest : List ℕ) → (more : List ℕ) × (take limit (taken ++ rest) ≡ take limit taken ++ more)
take_front limit taken rest = elim (cases_lt (length taken) limit) [
  | inl less ↦
      let n : ℕ = limit - length taken in
      let sum : length taken + n ≡ limit = omega arith in
      let all : take limit taken ≡ taken = take_all limit taken (omega arith) in
      (take n rest, subst (λ (m : ℕ). take m (taken ++ rest) ≡ taken ++ take n rest) sum (take-append-add taken rest n) ∙ ap (λ (xs : List ℕ). xs ++ take n rest) (sym all))
  | inr more ↦ ([], take-append-le limit taken rest more ∙ sym (append-nil (take limit taken)))
]

bad_counted : (limit longest : ℕ) (taken rest : List ℕ) (line : ℕ) (fault : InputFault) → IsBadPlace longest (lines_begun longest (take limit taken)) line fault →
    (d : (limit < length (taken ++ rest)) ⊎ (length (taken ++ rest) ≤ limit)) → IsBadPlace longest (lines_counted limit longest (taken ++ rest)) line fault
bad_counted limit longest taken rest line fault bad (inr few) =
    let all : take limit taken ≡ taken = take_all limit taken (omega (arith, length-append taken rest)) in
    subst (λ (ls : List (List ℕ)). IsBadPlace longest ls line fault) (sym (within limit longest (taken ++ rest) few))
    (front_bad longest (λ part. nat_lt 0 (length part)) (λ part long. lt-ltb 0 (length part) (omega arith)) taken rest line fault
    (subst (λ (xs : List ℕ). IsBadPlace longest (lines_begun longest xs) line fault) all bad))
bad_counted limit longest taken rest line fault bad (inl many) =
    let front : (more : List ℕ) × (take limit (taken ++ rest) ≡ take limit taken ++ more) = take_front limit taken rest in
    subst (λ (ls : List (List ℕ)). IsBadPlace longest ls line fault)
    (sym (beyond limit longest (taken ++ rest) many ∙ ap (lines_begun longest) front.1))
    (front_bad longest (λ part. nat_lt longest (length part)) (λ part long. lt-ltb longest (length part) long) (take limit taken) front.0 line fault bad)

bad_told : (limit longest : ℕ) (taken rest : List ℕ) (now : Outside) (line : ℕ) (fault : InputFault) → now.left ≡ Some rest →
    (IsBadPlace longest (lines_begun longest (take limit taken)) line fault
    ⊎ (HasReachedEnd now × (length taken ≤ limit) × IsBadPlace longest (lines_of taken) line fault)) →
    IsReadOf limit longest (taken ++ rest) (Err (BadInput line fault))
bad_told limit longest taken rest now line fault left (inl bad) = bad_counted limit longest taken rest line fault bad (cases_lt limit (length (taken ++ rest)))
bad_told limit longest taken rest now line fault left (inr bad) =
    let none : rest ≡ [] = subst (λ (o : Option (List ℕ)). IfSome o (λ xs. xs ≡ [])) left bad.0 in
    subst (λ (xs : List ℕ). IsReadOf limit longest xs (Err (BadInput line fault))) (sym (ap (λ (ys : List ℕ). taken ++ ys) none ∙ append-nil taken))
    (subst (λ (ls : List (List ℕ)). IsBadPlace longest ls line fault) (sym (within limit longest taken bad.1)) bad.2)

told_of : (limit longest : ℕ) (taken rest : List ℕ) (now : Outside) (r : Result (List Object) ReadError) → now.left ≡ Some rest → IsAnswerOfReading limit longest taken now r → IsReadOf limit longest (taken ++ rest) r
told_of limit longest taken rest now (Ok objects) left answer =
    let none : rest ≡ [] = subst (λ (o : Option (List ℕ)). IfSome o (λ xs. xs ≡ [])) left answer.0 in
    subst (λ (xs : List ℕ). IsReadOf limit longest xs (Ok objects)) (sym (ap (λ (ys : List ℕ). taken ++ ys) none ∙ append-nil taken)) answer.1
told_of limit longest taken rest now (Err (BadInput line fault)) left answer = bad_told limit longest taken rest now line fault left answer.0
told_of limit longest taken rest now (Err (TooMuchInput most)) left answer =
    let many : limit < length taken = answer.0.1 in (
      answer.0.0,
      omega (arith, length-append taken rest),
      subst (λ (xs : List ℕ). AreGood longest (lines_begun longest xs)) (sym (take-append-le limit taken rest (omega arith))) answer.0.2,
    )
told_of limit longest taken rest now (Err ReadFault) left answer = tt
told_of limit longest taken rest now (Err OutOfMemory) left answer = tt

told_left : (limit longest : ℕ) (taken : List ℕ) (before : Option (List ℕ)) (left : Option (List ℕ)) (now : Outside) (r : Result (List Object) ReadError) → now.left ≡ left → before ≡ preceded taken left →
    IsAnswerOfReading limit longest taken now r → IfSome before (λ bytes. IsReadOf limit longest bytes r)
told_left limit longest taken before None now r is same answer = subst (λ (o : Option (List ℕ)). IfSome o (λ bytes. IsReadOf limit longest bytes r)) (sym same) tt
told_left limit longest taken before (Some rest) now r is same answer = subst (λ (o : Option (List ℕ)). IfSome o (λ bytes. IsReadOf limit longest bytes r)) (sym same) (told_of limit longest taken rest now r is answer)

told_by : (limit longest : ℕ) (before now : Outside) (r : Result (List Object) ReadError) → Took limit longest before now r → IfSome before.left (λ bytes. IsReadOf limit longest bytes r)
told_by limit longest before now r t = told_left limit longest t.taken before.left now.left now r refl t.left t.answer

none_told : (told : Option (List ℕ)) (limit longest : ℕ) → IfSome told (λ bytes. IsReadOf limit longest bytes (Err OutOfMemory))
none_told None limit longest = tt
none_told (Some bytes) limit longest = tt

-- What is right for the bytes taken is right for the input, where the host tells it.
pub told : (limit longest : ℕ) (before now : Outside) (r : Result (List Object) ReadError) → Reads limit longest before now r → IfSome before.left (λ bytes. IsReadOf limit longest bytes r)
told limit longest before now (Ok objects) reads = told_by limit longest before now (Ok objects) reads
told limit longest before now (Err (BadInput line fault)) reads = told_by limit longest before now (Err (BadInput line fault)) reads
told limit longest before now (Err (TooMuchInput most)) reads = told_by limit longest before now (Err (TooMuchInput most)) reads
told limit longest before now (Err ReadFault) reads = told_by limit longest before now (Err ReadFault) reads
told limit longest before now (Err OutOfMemory) reads = none_told before.left limit longest

-- Without a fault of the host, it is right for the whole input.
whole_told : (told : Option (List ℕ)) (limit longest : ℕ) (r : Result (List Object) ReadError) → (r ≡ Err ReadFault → ⊥) → IfSome told (λ bytes. IsReadOf limit longest bytes r) → IfSome told (λ bytes. IsReadWhole limit longest bytes r)
whole_told None limit longest r none read = tt
whole_told (Some bytes) limit longest (Ok objects) none read = read
whole_told (Some bytes) limit longest (Err (BadInput line fault)) none read = read
whole_told (Some bytes) limit longest (Err (TooMuchInput most)) none read = read
whole_told (Some bytes) limit longest (Err ReadFault) none read = absurd (none refl)
whole_told (Some bytes) limit longest (Err OutOfMemory) none read = tt

read_rose : (before now : Outside) (r : Result (List Object) ReadError) → ReadsOnce before now r → r ≡ Err ReadFault → HasRisen before.read_faults now.read_faults
read_rose before now r once is = let failed : LastReadFailed before now = subst (λ (q : Result (List Object) ReadError). ReadsOnce before now q) is once in let one : now.read_faults ≡ risen before.read_faults = failed.0 in omega arith

pub completes : (limit longest : ℕ) (before now : Outside) (r : Result (List Object) ReadError) → Reads limit longest before now r → ReadsOnce before now r →
    (HasRisen before.read_faults now.read_faults → ⊥) → IfSome before.left (λ bytes. IsReadWhole limit longest bytes r)
completes limit longest before now r reads once none = whole_told before.left limit longest r (λ is. none (read_rose before now r once is)) (told limit longest before now r reads)
