-- What the code of a key says of the rows.
use Rattle.std.proofs.Common.{◌≡◌, ◌≢◌, ℕ, zero, ◌<◌, ◌+◌, List, [], ◌∷◌, length, get_or, drop, Option, Some, None, All, MatchOption, ap, ◌∙◌, inl, inr, arith}
use Rattle.std.proofs.lemmas.Bool.{eq-eqb, ne_eqb, cases_eq, cond-true, cond-false}
use Rattle.std.proofs.lemmas.List.{at_drop_more}
use Rattle.std.proofs.lemmas.List.Elements.{All-nil, All-cons, Contains-append_right}
use Rattle.osm_tables.specs.declared.Row.{Row}
use Rattle.osm_tables.specs.Tables.{code_of, HasRow}

pub code_of-here : (rows : List Row) (key i : ℕ) (d : Row) → i < length rows → (get_or rows i d).key ≡ key → code_of (drop i rows) key ≡ Some (get_or rows i d).code
code_of-here rows key i d lt e = at_drop_more (λ xs. code_of xs key) rows i d lt ∙ cond-true _ _ _ (eq-eqb _ _ e)

pub code_of-past : (rows : List Row) (key i : ℕ) (d : Row) → i < length rows → ((get_or rows i d).key ≡ key → ⊥) → code_of (drop i rows) key ≡ code_of (drop (i + 1) rows) key
code_of-past rows key i d lt e = at_drop_more (λ xs. code_of xs key) rows i d lt ∙ cond-false _ _ _ (ne_eqb _ _ e)

grows : (r : Row) (rows : List Row) (key : ℕ) → r.key ≢ key → (o : Option ℕ) → MatchOption o (All (λ r. r.key ≢ key) rows) (λ code. HasRow rows key code) → MatchOption o (All (λ r. r.key ≢ key) (r ∷ rows)) (λ code. HasRow (r ∷ rows) key code)
grows r rows key ne None h = All-cons (λ r. r.key ≢ key) r rows ne h
grows r rows key ne (Some code) h = Contains-append_right (r ∷ []) rows _ h

pub code_of-row : (rows : List Row) (key : ℕ) → MatchOption (code_of rows key) (All (λ r. r.key ≢ key) rows) (λ code. HasRow rows key code)
code_of-row [] key = All-nil (λ r. r.key ≢ key)
code_of-row (r ∷ rows) key =
    elim (cases_eq r.key key) [
      | inl e ↦ rw (eq-eqb r.key key e) (zero, omega arith, ap (λ (k : ℕ). record { key = k; code = r.code }) e)
      | inr ne ↦ rw (ne_eqb r.key key ne) (grows r rows key ne (code_of rows key) (code_of-row rows key))
    ]
