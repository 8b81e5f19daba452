use Rattle.plane_lists.proofs.half_laws.half.half_is_sided.Goals as goal
use Rattle.plane_lists.proofs.Halves.Halves.{balanced, counted-at}
use Rattle.plane_lists.proofs.Halves.Plain.{half-plain}

pub returns-clause-balanced : goal.returns-clause-balanced
returns-clause-balanced c = balanced

pub returns-clause-plain : goal.returns-clause-plain
returns-clause-plain c = λ l cs zs h. half-plain l h.direction cs h.cut h.sided zs h.meetings

pub returns-clause-sided : goal.returns-clause-sided
returns-clause-sided c = λ l cs zs h. record {
  plain = half-plain l h.direction cs h.cut h.sided zs h.meetings;
  balanced = balanced l cs zs h;
  counted = λ q hq p off. counted-at l cs zs h q hq p off;
}
