-- Prefixes of lists.
use Rattle.std.proofs.Common.{◌∙◌, sym, ap, ℕ, List, [], ◌++◌, map, take, drop, append_assoc, append-nil}
use Rattle.std.proofs.lemmas.List.{take-append-drop, map-append}
use Rattle.osm_job.specs.Prefix.{IsPrefix}

pub whole_prefix : {A : Type 0} (xs : List A) → IsPrefix xs xs
whole_prefix xs = record { rest = []; whole = sym (append-nil xs) }

pub take_is_prefix : {A : Type 0} (n : ℕ) (ys : List A) → IsPrefix (take n ys) ys
take_is_prefix n ys = record { rest = drop n ys; whole = sym (take-append-drop n ys) }

pub prefix_behind : {A : Type 0} (zs xs ys : List A) → IsPrefix xs ys → IsPrefix (zs ++ xs) (zs ++ ys)
prefix_behind {A} zs xs ys f = record { rest = f.rest; whole = ap (λ (ws : List A). zs ++ ws) f.whole ∙ sym (append_assoc zs xs f.rest) }

pub prefix_of_longer : {A : Type 0} (xs ys zs : List A) → IsPrefix xs ys → IsPrefix xs (ys ++ zs)
prefix_of_longer {A} xs ys zs f = record { rest = f.rest ++ zs; whole = ap (λ (ws : List A). ws ++ zs) f.whole ∙ append_assoc xs f.rest zs }

pub prefix_again : {A : Type 0} (xs ys zs : List A) → IsPrefix xs ys → IsPrefix ys zs → IsPrefix xs zs
prefix_again {A} xs ys zs f g = record { rest = f.rest ++ g.rest; whole = g.whole ∙ ap (λ (ws : List A). ws ++ g.rest) f.whole ∙ append_assoc xs f.rest g.rest }

pub prefix_of_map : {A B : Type 0} (f : A → B) (xs ys : List A) → IsPrefix xs ys → IsPrefix (map f xs) (map f ys)
prefix_of_map f xs ys front = record { rest = map f front.rest; whole = ap (map f) front.whole ∙ map-append f xs front.rest }
