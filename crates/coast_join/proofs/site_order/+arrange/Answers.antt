-- Each half in another order.
use Rattle.std.proofs.Common.{◌++◌, List, sym, subst}
use Rattle.std.specs.List.Sorted.{IsPermutation}
use Rattle.std.proofs.lemmas.List.Sorted.{IsPermutation-append, IsPermutation-trans}
use Rattle.coast_join.specs.declared.sites.Site.{Site}
use Rattle.coast_join.proofs.site_order.+arrange.Goals as goal

pub returns : goal.returns
returns t c =
    let one = c.split_at_mut-first.result.0.now in
    let other = c.split_at_mut-first.result.1.now in
    IsPermutation-trans c.args.sites.now c.sort.new.sites (c.arrange.new.sites ++ c.arrange-2.new.sites) c.sort.ensures
    (subst (λ (xs : List Site). IsPermutation xs (c.arrange.new.sites ++ c.arrange-2.new.sites)) (sym c.split_at_mut-first.ensures.value) (IsPermutation-append one c.arrange.new.sites other c.arrange-2.new.sites c.arrange.ensures c.arrange-2.ensures))
