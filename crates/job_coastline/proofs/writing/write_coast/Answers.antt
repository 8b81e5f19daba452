use Rattle.std.proofs.Common.{All, List, subst, sym, ap, ◌∙◌}
use Rattle.osm_words.specs.Answers.{coastline_seen}
use Rattle.osm_text.specs.Coast.{HasItsKind}
use Rattle.osm_text.specs.declared.coast.CoastLine.{CoastLine}
use Rattle.job_coastline.specs.Report.{ending_of}
use Rattle.job_coastline.proofs.CoastWhole.{all_written, fewer_land, fewer_water, land_broken, lines_of_both, report_broken, water_broken}
use Rattle.job_coastline.proofs.writing.write_coast.Goals as goal

pub returns-in-Err : goal.returns-in-Err
returns-in-Err g c =
    let few = c.requires.few in
    land_broken c.pieces_exist.ensures.tiles c.pieces_exist.ensures.sided c.pieces_exist.ensures.report (coastline_seen c.args.settings.now) c.args.outlines few c.requires.water c.requires.kinds
    c.write_lists.new.lines.items (g.H.Host.seen c.args.host.now) (g.H.Host.seen c.write_lists.new.host) c.in-Err.broken
    (c.in-Err.ensures few.land_leaves few.land_are (fewer_land few.land_leaves few.water_leaves few.few))

pub returns-in-Err-write_lists : goal.returns-in-Err-write_lists
returns-in-Err-write_lists g c =
    let few = c.requires.few in
    water_broken c.pieces_exist.ensures.tiles c.pieces_exist.ensures.sided c.pieces_exist.ensures.report (coastline_seen c.args.settings.now) c.args.outlines few c.requires.water c.requires.kinds
    c.write_lists.new.lines.items (g.H.Host.seen c.args.host.now) (g.H.Host.seen c.write_lists.new.host) (c.in_default.ensures few.land_leaves few.land_are (fewer_land few.land_leaves few.water_leaves few.few))
    c.write_lists-2.new.lines.items (g.H.Host.seen c.write_lists-2.new.host) c.in-Err-write_lists.broken
    (c.in-Err-write_lists.ensures few.water_leaves few.water_are (fewer_water few.land_leaves few.water_leaves few.few))

pub write_lines-requires : goal.write_lines-requires
write_lines-requires g c =
    let few = c.requires.few in
    subst (λ (ls : List CoastLine). All HasItsKind ls) (sym c.deref.ensures.value)
    (lines_of_both c.pieces_exist.ensures.tiles c.pieces_exist.ensures.sided c.pieces_exist.ensures.report (coastline_seen c.args.settings.now) c.args.outlines few c.requires.water c.requires.kinds
    c.write_lists.new.lines.items (g.H.Host.seen c.args.host.now) (g.H.Host.seen c.write_lists.new.host) (c.in_default.ensures few.land_leaves few.land_are (fewer_land few.land_leaves few.water_leaves few.few))
    c.write_lists-2.new.lines.items (g.H.Host.seen c.write_lists-2.new.host) (c.in_default-write_lists.ensures few.water_leaves few.water_are (fewer_water few.land_leaves few.water_leaves few.few)))

pub returns-in-Err-write_lines : goal.returns-in-Err-write_lines
returns-in-Err-write_lines g c =
    let few = c.requires.few in
    report_broken c.pieces_exist.ensures.tiles c.pieces_exist.ensures.sided c.pieces_exist.ensures.report (coastline_seen c.args.settings.now) c.args.outlines few c.requires.water c.requires.kinds
    c.write_lists.new.lines.items (g.H.Host.seen c.args.host.now) (g.H.Host.seen c.write_lists.new.host) (c.in_default.ensures few.land_leaves few.land_are (fewer_land few.land_leaves few.water_leaves few.few))
    c.write_lists-2.new.lines.items (g.H.Host.seen c.write_lists-2.new.host) (c.in_default-write_lists.ensures few.water_leaves few.water_are (fewer_water few.land_leaves few.water_leaves few.few))
    (g.H.Host.seen c.write_lines.new.host) c.in-Err-write_lines.broken
    (rw (← c.deref.ensures.value) c.in-Err-write_lines.ensures)

pub returns : goal.returns
returns g c =
    let few = c.requires.few in
    all_written c.pieces_exist.ensures.tiles c.pieces_exist.ensures.sided c.pieces_exist.ensures.report (coastline_seen c.args.settings.now) c.args.outlines few c.requires.water c.requires.kinds
    c.write_lists.new.lines.items (g.H.Host.seen c.args.host.now) (g.H.Host.seen c.write_lists.new.host) (c.in_default.ensures few.land_leaves few.land_are (fewer_land few.land_leaves few.water_leaves few.few))
    c.write_lists-2.new.lines.items (g.H.Host.seen c.write_lists-2.new.host) (c.in_default-write_lists.ensures few.water_leaves few.water_are (fewer_water few.land_leaves few.water_leaves few.few))
    (g.H.Host.seen c.write_lines.new.host) c.ending_of.result (c.ending_of.ensures ∙ ap ending_of c.deref-2.ensures.value)
    (rw (← c.deref.ensures.value) c.in_default-write_lines.ensures)
