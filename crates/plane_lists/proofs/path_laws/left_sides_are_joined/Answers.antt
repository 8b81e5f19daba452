use Rattle.plane_lists.proofs.path_laws.left_sides_are_joined.Goals as goal
use Rattle.plane_lists.proofs.Paths.Across.{across}
use Rattle.plane_lists.proofs.Paths.BesideInside.{beside-inside}
use Rattle.plane_lists.proofs.Paths.Feet.{beside-joined}
use Rattle.plane_lists.proofs.Paths.Inward.{inward}
use Rattle.plane_lists.proofs.Paths.LinkedInside.{some-beside}
use Rattle.plane_lists.proofs.Paths.Turning.{turning}

pub returns-clause-edge : goal.returns-clause-edge
returns-clause-edge c = beside-joined

pub returns-clause-successor : goal.returns-clause-successor
returns-clause-successor c = λ es sd e f i s. turning es sd e f i s

pub returns-clause-across : goal.returns-clause-across
returns-clause-across c = λ es sd e f a. across es sd e f a.here a.there a.up a.down a.next

pub returns-clause-inside : goal.returns-clause-inside
returns-clause-inside c = λ es sd p i. inward es sd p i.off i.once

pub returns-clause-beside : goal.returns-clause-beside
returns-clause-beside c = λ es sd e i p a. beside-inside es sd e i p a

pub returns-clause-some : goal.returns-clause-some
returns-clause-some c = λ es sd e i. some-beside es sd e i
