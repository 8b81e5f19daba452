use Rattle.osm_elements.proofs.ElementsKit.{place-at, longitude-held, latitude-held}
use Rattle.opl_reader.proofs.place.location_from.Goals as goal

pub returns-in-Some-Some : goal.returns-in-Some-Some
returns-in-Some-Some c =
    let x = c.in-Some-Some.x in
    let y = c.in-Some-Some.y in
    rw (c.in-Some-Some.is-0, c.in-Some-Some.is-1) (place-at x y _ (longitude-held x) (latitude-held y))
