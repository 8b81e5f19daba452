use Rattle.std.proofs.Common.{List, subst, sym, ◌∙◌}
use Rattle.osm_geom.specs.declared.edge.Edge.{Edge}
use Rattle.osm_words.specs.Answers.{coastline_seen}
use Rattle.job_coastline.specs.Coastline.{most_leaves}
use Rattle.job_coastline.specs.OutlineSteps.{HaveMoreLeaves, HaveMoreTogether}
use Rattle.job_coastline.proofs.CoastWhole.{more_of_land, whole_many}
use Rattle.job_coastline.proofs.counting.check_leaves.Goals as goal

pub returns-in-Err-clause-many : goal.returns-in-Err-clause-many
returns-in-Err-clause-many c m is =
    let settings = coastline_seen c.args.settings.now in
    let land = c.args.outlines.now.land.items in
    let water = c.args.outlines.now.water.items in
    whole_many c.in-Err.error (HaveMoreLeaves settings most_leaves c.deref.result.now) (HaveMoreTogether settings land water) c.in-Err.ensures.many
    (λ more. more_of_land settings land water c.split_trees_exist.ensures (subst (λ (lists : List (List Edge)). HaveMoreLeaves settings most_leaves lists) c.deref.ensures.value more)) m (sym c.whole_error.ensures ∙ is)
