use Rattle.std.proofs.Common.{◌∙◌, sym}
use Rattle.std.specs.BTreeMap.{get}
use Rattle.osm_objects.specs.Others.{ref_cmp}
use Rattle.osm_objects.proofs.OthersLemmas.{if_none, none_there, none_outside, none_untold}
use Rattle.osm_objects.proofs.others.told.Goals as goal

pub returns-in_err-get-clause-none : goal.returns-in_err-get-clause-none
returns-in_err-get-clause-none c = if_none c.from_residual.result (none_untold c.args.list.now c.args.of (get ref_cmp c.args.places.now) (sym c.in_err-get.ensures.value))

pub returns-in_err-placed-clause-none : goal.returns-in_err-placed-clause-none
returns-in_err-placed-clause-none c =
    if_none c.from_residual-in_err-placed.result (none_outside c.args.list.now c.args.of (get ref_cmp c.args.places.now) c.in_ok-get.field-0.now (sym c.in_ok-get.ensures.value) c.in_err-placed.ensures.lookup.3)

pub returns-clause-none : goal.returns-clause-none
returns-clause-none c =
    none_there c.args.list.now c.args.of (get ref_cmp c.args.places.now) c.in_ok-get.field-0.now c.in_ok-placed.placed.now (sym c.in_ok-get.ensures.value) c.in_ok-placed.ensures.lookup.3.1 (sym c.is_at.ensures ∙ c.if-is_at.false)
