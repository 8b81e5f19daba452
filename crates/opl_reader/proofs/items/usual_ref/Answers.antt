use Rattle.std.proofs.Common.{◌≡◌, ◌<◌, ◌∷◌, List, ℕ, length, get_or, w64, arith}
use Rattle.std.proofs.lemmas.Int.{to_z_pos}
use Rattle.opl_reader.proofs.ItemLemmas.{first_and_others, begins_with_ref}
use Rattle.opl_reader.proofs.items.usual_ref.Goals as goal
use Rattle.opl_reader.proofs.items.usual_ref.Goals.{else-len-digits-via-then-len-digits+else-digits-len-ne44, else-len-digits-via-else-len-digits}

pub returns : goal.returns
returns c =
    let rest = c.args.rest.now in
    let digits : List ℕ = c.split_at.result.1.now in
    let node = c.leading_digits-node.result.0 in
    let count = c.leading_digits-node.result.1 in
    let small : node < 1000000000000000000 = c.leading_digits-node.ensures.small in
    let is : rest ≡ 110 ∷ digits = first_and_others rest digits (omega arith) (omega arith) c.split_at.ensures.back in
    let comma : count < length digits → get_or digits count 0 ≡ 44 =
    elim c.else-len-digits.branch [
      | else-len-digits-via-then-len-digits+else-digits-len-ne44 w ↦ λ lt. w.if-digits-len-ne44.false
      | else-len-digits-via-else-len-digits w ↦ λ lt. absurd (omega (arith, w.if-len-digits.false))
    ] in
    rw (to_z_pos w64 node (omega arith)) (begins_with_ref rest digits node count is c.leading_digits-node.ensures.digits (omega arith) c.leading_digits-node.ensures.inside small comma)
