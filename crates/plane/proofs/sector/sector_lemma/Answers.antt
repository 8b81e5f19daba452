use Rattle.plane.proofs.sector.sector_lemma.Goals as goal
use Rattle.plane.proofs.Sectors.{sector_lemma, signed_sector_lemma}

pub returns-clause-signed : goal.returns-clause-signed
returns-clause-signed c = signed_sector_lemma

pub returns-clause-counted : goal.returns-clause-counted
returns-clause-counted c = sector_lemma
