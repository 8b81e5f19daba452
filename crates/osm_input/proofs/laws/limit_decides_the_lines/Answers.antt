use Rattle.osm_input.proofs.Answered.{within, beyond}
use Rattle.osm_input.proofs.laws.limit_decides_the_lines.Goals as goal

pub returns : goal.returns
returns c = λ limit longest bytes. record { within = within limit longest bytes; beyond = beyond limit longest bytes }
