-- One more entry behind a list of opens.
use Rattle.std.proofs.Common.{◌≡◌, ◌+◌, ◌≤◌, ℕ, List, [], ◌∷◌, ◌++◌, length, take, drop, ap, arith, length-drop}
use Rattle.std.proofs.lemmas.List.{take_all, take-append-le, drop-append-le}
use Rattle.osm_host.specs.Outside.{Opened}
use Rattle.tests_host.specs.Opens.{opened_by, opens_named, names_len}
use Rattle.tests_host.specs.declared.opens.Entry.{Entry}

pub opens_of-more : (entries : List Entry) (names : List ℕ) (entry : Entry) (name : List ℕ) → names_len entries ≡ length names → entry.len ≡ length name →
    opens_named (entries ++ entry ∷ []) (names ++ name) ≡ opens_named entries names ++ opened_by entry.kind name ∷ []
opens_of-more [] [] entry name all size = ap (λ (n : List ℕ). opened_by entry.kind n ∷ []) (take_all entry.len name (omega arith))
opens_of-more [] (x ∷ xs) entry name all size = absurd (omega arith)
opens_of-more (e ∷ es) names entry name all size =
    let here : e.len ≤ length names = omega arith in
    let rest : names_len es ≡ length (drop e.len names) = omega (arith, length-drop e.len names) in
    rw (take-append-le e.len names name here) (rw (drop-append-le e.len names name here)
    (ap (λ (os : List Opened). opened_by e.kind (take e.len names) ∷ os) (opens_of-more es (drop e.len names) entry name rest size)))

pub names_len-more : (entries : List Entry) (entry : Entry) → names_len (entries ++ entry ∷ []) ≡ names_len entries + entry.len
names_len-more [] entry = omega arith
names_len-more (e ∷ es) entry = let more = names_len-more es entry in omega arith
