-- The area or the problems, with their notes.
use Rattle.std.proofs.Common.{List, sym, subst}
use Rattle.osm_lattice.specs.declared.seg.Seg.{Seg}
use Rattle.osm_area.specs.Made.{IsMade}
use Rattle.osm_area.specs.Problems.{AreFaults, AreProblemsAmong}
use Rattle.osm_area.specs.Roles.{role_notes_of}
use Rattle.osm_area.specs.declared.area.Made.{Made}
use Rattle.osm_area.proofs.MadeLemmas.{among_faults, area_given, nothing_given, problems_given, some_fault}
use Rattle.osm_area.proofs.outcome.complete.Goals as goal

pub returns-in_ok-add_role_notes-in-Area-clause-right : goal.returns-in_ok-add_role_notes-in-Area-clause-right
returns-in_ok-add_role_notes-in-Area-clause-right c =
    let made = subst (λ (m : Made). IsMade c.in_ok-survivors.survivors.items m) c.in-Area.is c.in_ok-polygons.ensures in
    area_given c.args.ways.segs.now (role_notes_of c.args.store.now c.args.candidate c.args.ways.ids.now c.in-Area.polygons) c.in-Area.polygons c.args.notes c.cancelled.new.notes c.add_role_notes.new.notes
    c.in_ok-survivors.survivors.items c.in_ok-survivors.ensures.survive made c.in_ok-survivors.ensures.noted c.in_ok-add_role_notes-in-Area.ensures

pub returns-in-Nothing-clause-right : goal.returns-in-Nothing-clause-right
returns-in-Nothing-clause-right c =
    let none = subst (λ (m : Made). IsMade c.in_ok-survivors.survivors.items m) c.in-Nothing.is c.in_ok-polygons.ensures in
    nothing_given c.args.ways.segs.now c.args.notes c.cancelled.new.notes c.in_ok-survivors.survivors.items c.of_nothing-list.result c.in_ok-survivors.ensures.survive c.in_ok-survivors.ensures.noted none c.of_nothing-list.ensures

pub returns-in_ok-list-in-Faulty-clause-right : goal.returns-in_ok-list-in-Faulty-clause-right
returns-in_ok-list-in-Faulty-clause-right c =
    let survivors = c.in_ok-survivors.survivors.items in
    let made = subst (λ (m : Made). IsMade survivors m) c.in-Faulty.is c.in_ok-polygons.ensures in
    let faults = subst (λ (ss : List Seg). AreFaults ss c.in_ok-list-in-Faulty.list) made.1 c.in_ok-list-in-Faulty.ensures in
    problems_given c.args.ways.segs.now c.args.notes c.cancelled.new.notes survivors c.in_ok-list-in-Faulty.list c.in_ok-survivors.ensures.survive c.in_ok-survivors.ensures.noted
    (among_faults survivors c.in_ok-list-in-Faulty.list made.0 faults) (some_fault survivors c.in_ok-list-in-Faulty.list c.in_ok-survivors.ensures.survive.rising made.2 faults)
