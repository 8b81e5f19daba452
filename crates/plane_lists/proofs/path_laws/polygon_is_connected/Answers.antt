use Rattle.plane_lists.proofs.path_laws.polygon_is_connected.Goals as goal
use Rattle.plane_lists.proofs.Paths.Components.{parts}
use Rattle.plane_lists.proofs.Paths.LinkedInside.{inside-joined, polygon-connected}

pub returns-clause-linked : goal.returns-clause-linked
returns-clause-linked c = λ es sd l k hk p q x y. inside-joined es sd l k hk p q x y

pub returns-clause-polygon : goal.returns-clause-polygon
returns-clause-polygon c = polygon-connected

pub returns-clause-parts : goal.returns-clause-parts
returns-clause-parts c = parts
