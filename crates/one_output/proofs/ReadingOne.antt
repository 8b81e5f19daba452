-- An input is read as one thing, and a text is.
use Rattle.std.proofs.Common.{Err, List, Ok, Result, Some, [], ap, arith, inl, inr, length, refl, subst, sym, take, ℕ, ◌++◌, ◌+◌, ◌∙◌, ◌∷◌, ◌≡◌, ◌⊎◌}
use Rattle.osm_elements.specs.declared.object.Object.{Object}
use Rattle.osm_input.specs.declared.fault.InputFault.{InputFault}
use Rattle.osm_input.specs.declared.reading.ReadError.{ReadError}
use Rattle.osm_input.specs.declared.reading.ReadError.TheVariants.{BadInput, OutOfMemory, ReadFault, TooMuchInput}
use Rattle.osm_input.specs.declared.text.TextError.{TextError}
use Rattle.osm_input.specs.declared.text.TextError.TheVariants as text
use Rattle.osm_input.specs.Input.{AreGood, IsBadPlace, line_fault, objects_told}
use Rattle.opl_reader.specs.Lines.{lines_of}
use Rattle.osm_input.specs.Lines.{lines_begun}
use Rattle.osm_input.specs.Laws.{LinesCount}
use Rattle.osm_input.specs.Reading.{IsReadAs, lines_counted}
use Rattle.osm_input.specs.Text.{IsTextAs}
use Rattle.osm_input.proofs.InputKit.{good_not_bad}
use Rattle.plane_lists.proofs.OneRingListKit.{Overlap, overlap}

some-one : {X : Type 0} (x y : X) → Some x ≡ Some y → x ≡ y
some-one x y h = cc

-- a first bad place is before each other one
earlier : (longest : ℕ) (b c : List (List ℕ)) (l : List ℕ) (m n : List (List ℕ)) (f : InputFault) → line_fault longest (objects_told b) l ≡ Some f → AreGood longest c → Overlap b (l ∷ m) c n → (c ≡ b) × (l ∷ m ≡ n)
earlier longest b c l m n f bad good o = by o.middle refl
  where
    by : (k : List (List ℕ)) → o.middle ≡ k → (c ≡ b) × (l ∷ m ≡ n)
    by [] e = (o.longer ∙ ap (λ x. b ++ x) e ∙ nil b, o.shorter ∙ ap (λ x. x ++ n) e)
      where
        nil : (xs : List (List ℕ)) → xs ++ [] ≡ xs
        nil [] = refl
        nil (x ∷ xs) = ap (λ ys. x ∷ ys) (nil xs)
    by (x ∷ k) e =
        let h : l ≡ x = cc (o.shorter ∙ ap (λ y. y ++ n) e) in
        let p : c ≡ b ++ (l ∷ k) = o.longer ∙ ap (λ y. b ++ y) e ∙ ap (λ y. b ++ (y ∷ k)) (sym h) in
        absurd (cc (sym (good b l k p) ∙ bad))

bad-same : (longest : ℕ) (lines : List (List ℕ)) (n m : ℕ) (f g : InputFault) (p : IsBadPlace longest lines n f) (q : IsBadPlace longest lines m g) → (q.before ≡ p.before) × (p.line ∷ p.after ≡ q.line ∷ q.after) → (n ≡ m) × (f ≡ g)
bad-same longest lines n m f g p q (b, r) =
    let l : p.line ≡ q.line = cc r in
    let h : Some f ≡ Some g = sym p.bad ∙ ap (λ x. line_fault longest (objects_told p.before) x) l ∙ ap (λ x. line_fault longest (objects_told x) q.line) (sym b) ∙ q.bad in
    (p.counted ∙ ap (λ x. length x + 1) (sym b) ∙ sym q.counted, some-one f g h)

bad-by : (longest : ℕ) (lines : List (List ℕ)) (n m : ℕ) (f g : InputFault) (p : IsBadPlace longest lines n f) (q : IsBadPlace longest lines m g) →
    (Overlap p.before (p.line ∷ p.after) q.before (q.line ∷ q.after)) ⊎ (Overlap q.before (q.line ∷ q.after) p.before (p.line ∷ p.after)) → (n ≡ m) × (f ≡ g)
bad-by longest lines n m f g p q (inl o) =
    bad-same longest lines n m f g p q (earlier longest p.before q.before p.line p.after (q.line ∷ q.after) f p.bad q.good_before o)
bad-by longest lines n m f g p q (inr o) =
    let r = bad-same longest lines m n g f q p (earlier longest q.before p.before q.line q.after (p.line ∷ p.after) g q.bad p.good_before o) in (sym r.0, sym r.1)

-- an input has one bad place
pub bad-one : (longest : ℕ) (lines : List (List ℕ)) (n m : ℕ) (f g : InputFault) → IsBadPlace longest lines n f → IsBadPlace longest lines m g → (n ≡ m) × (f ≡ g)
bad-one longest lines n m f g p q = bad-by longest lines n m f g p q (overlap p.before (p.line ∷ p.after) q.before (q.line ∷ q.after) (sym p.parted ∙ q.parted))

module _ (count : LinesCount) (limit longest : ℕ) (bytes : List ℕ) where
  abbrev Reads : Result (List Object) ReadError → Type 0
  Reads r = IsReadAs limit longest bytes r

  ok-bad : (objects : List Object) (n : ℕ) (f : InputFault) → Reads (Ok objects) → Reads (Err (BadInput n f)) → ⊥
  ok-bad objects n f s t = good_not_bad longest (lines_of bytes) n f s.1 (subst (λ l. IsBadPlace longest l n f) ((count limit longest bytes).within s.0) t)

  many-bad : (most n : ℕ) (f : InputFault) → Reads (Err (TooMuchInput most)) → Reads (Err (BadInput n f)) → ⊥
  many-bad most n f s t = good_not_bad longest (lines_begun longest (take limit bytes)) n f s.2 (subst (λ l. IsBadPlace longest l n f) ((count limit longest bytes).beyond s.1) t)

  ok-many : (objects : List Object) (most : ℕ) → Reads (Ok objects) → Reads (Err (TooMuchInput most)) → ⊥
  ok-many objects most s t = let a = s.0 in let b = t.1 in absurd (omega arith)

  errors-one : (d e : ReadError) → Reads (Err d) → Reads (Err e) → d ≡ e
  errors-one (BadInput n f) (BadInput m g) s t =
      let r = bad-one longest (lines_counted limit longest bytes) n m f g s t in ap (λ k. BadInput k f) r.0 ∙ ap (BadInput m) r.1
  errors-one (BadInput n f) (TooMuchInput most) s t = absurd (many-bad most n f t s)
  errors-one (TooMuchInput most) (BadInput n f) s t = absurd (many-bad most n f s t)
  errors-one (TooMuchInput k) (TooMuchInput l) s t = ap TooMuchInput (s.0 ∙ sym t.0)
  errors-one ReadFault e s t = absurd s
  errors-one OutOfMemory e s t = absurd s
  errors-one (BadInput n f) ReadFault s t = absurd t
  errors-one (BadInput n f) OutOfMemory s t = absurd t
  errors-one (TooMuchInput most) ReadFault s t = absurd t
  errors-one (TooMuchInput most) OutOfMemory s t = absurd t

  ok-error : (objects : List Object) (e : ReadError) → Reads (Ok objects) → Reads (Err e) → ⊥
  ok-error objects (BadInput n f) s t = ok-bad objects n f s t
  ok-error objects (TooMuchInput most) s t = ok-many objects most s t
  ok-error objects ReadFault s t = t
  ok-error objects OutOfMemory s t = t

  pub reading-one : (r s : Result (List Object) ReadError) → Reads r → Reads s → r ≡ s
  reading-one (Ok a) (Ok b) s t = ap Ok (s.2 ∙ sym t.2)
  reading-one (Ok a) (Err e) s t = absurd (ok-error a e s t)
  reading-one (Err e) (Ok a) s t = absurd (ok-error a e t s)
  reading-one (Err d) (Err e) s t = ap Err (errors-one d e s t)

-- ---- a text

module _ (limit : ℕ) (bytes : List ℕ) where
  abbrev IsText : Result (List ℕ) TextError → Type 0
  IsText r = IsTextAs limit bytes r

  text-errors-one : (d e : TextError) → IsText (Err d) → IsText (Err e) → d ≡ e
  text-errors-one (text.TooMuchInput k) (text.TooMuchInput l) s t = ap text.TooMuchInput (s.0 ∙ sym t.0)
  text-errors-one (text.TooMuchInput k) text.ReadFault s t = absurd t
  text-errors-one (text.TooMuchInput k) text.OutOfMemory s t = absurd t
  text-errors-one text.ReadFault e s t = absurd s
  text-errors-one text.OutOfMemory e s t = absurd s

  text-or-error : (found : List ℕ) (e : TextError) → IsText (Ok found) → IsText (Err e) → ⊥
  text-or-error found (text.TooMuchInput most) s t = let a = s.0 in let b = t.1 in omega arith
  text-or-error found text.ReadFault s t = t
  text-or-error found text.OutOfMemory s t = t

  pub text-one : (r s : Result (List ℕ) TextError) → IsText r → IsText s → r ≡ s
  text-one (Ok a) (Ok b) s t = ap Ok (s.1 ∙ sym t.1)
  text-one (Ok a) (Err e) s t = absurd (text-or-error a e s t)
  text-one (Err e) (Ok a) s t = absurd (text-or-error a e t s)
  text-one (Err d) (Err e) s t = ap Err (text-errors-one d e s t)
