-- The words of report lines.
use Rattle.std.specs.Prelude.{ℕ, List, [], ◌∷◌, Option, Some, None, ◌==◌, if◌then◌else◌, codes}

-- a kind and its words
pub record Word : Type 0 where
  pub kind : ℕ
  pub text : List ℕ

abbrev pub word : ℕ → List ℕ → Word
word kind text = record { kind = kind; text = text }

abbrev pub problem_words : List Word
problem_words =
    word 1 (codes "missing way")
    ∷ word 2 (codes "missing node")
    ∷ word 3 (codes "nothing survives")
    ∷ word 4 (codes "crossing")
    ∷ word 5 (codes "overlap")
    ∷ word 6 (codes "odd node")
    ∷ word 7 (codes "named twice")
    ∷ word 8 (codes "stands")
    ∷ word 9 (codes "has role inner in an outer ring")
    ∷ word 10 (codes "has role outer in an inner ring")
    ∷ []

-- the words of the entry with this kind
abbrev pub text_in : List Word → ℕ → Option (List ℕ)
text_in [] kind = None
text_in (w ∷ words) kind = if w.kind == kind then Some w.text else text_in words kind

-- the words of a problem or a note
abbrev pub word_of : ℕ → Option (List ℕ)
word_of kind = text_in problem_words kind

abbrev pub coast_words : List Word
coast_words =
    word 1 (codes "missing node")
    ∷ word 2 (codes "short")
    ∷ word 3 (codes "antarctica closed on way")
    ∷ word 4 (codes "gap closed from")
    ∷ word 5 (codes "is not closed, from")
    ∷ word 6 (codes "is left out")
    ∷ word 7 (codes "crossing")
    ∷ word 8 (codes "overlap")
    ∷ word 9 (codes "stands")
    ∷ word 10 (codes "runs the wrong way")
    ∷ word 11 (codes "piece of")
    ∷ word 12 (codes "vanished")
    ∷ word 13 (codes "was cut from")
    ∷ []

-- the words of a line of a coastline report
abbrev pub coast_word_of : ℕ → Option (List ℕ)
coast_word_of kind = text_in coast_words kind
