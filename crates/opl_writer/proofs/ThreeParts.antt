-- Three or four parts that are added to a text one after the other.
use Rattle.std.proofs.Common.{◌≡◌, ◌∙◌, ◌++◌, ap, List, ℕ}
use Rattle.std.proofs.lemmas.List.{append_assoc}

pub three_added : (text first second third a b c : List ℕ) → first ≡ text ++ a → second ≡ first ++ b → third ≡ second ++ c → third ≡ text ++ (a ++ b ++ c)
three_added text first second third a b c one two three =
    three
    ∙ (ap (λ (xs : List ℕ). xs ++ c) (two ∙ (ap (λ (xs : List ℕ). xs ++ b) one ∙ append_assoc text a b))
    ∙ append_assoc text (a ++ b) c)

pub four_added : (text first second third fourth a b c d : List ℕ) → first ≡ text ++ a → second ≡ first ++ b → third ≡ second ++ c → fourth ≡ third ++ d → fourth ≡ text ++ (a ++ b ++ c ++ d)
four_added text first second third fourth a b c d one two three four =
    four
    ∙ (ap (λ (xs : List ℕ). xs ++ d) (three_added text first second third a b c one two three)
    ∙ append_assoc text (a ++ b ++ c) d)
