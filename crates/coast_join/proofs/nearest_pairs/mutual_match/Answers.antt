-- A nearer pair.
use Rattle.std.proofs.Common.{All, Contains, sym, subst}
use Rattle.std.proofs.Math.Nat.{le_trans}
use Rattle.std.proofs.lemmas.List.Elements.{All-push}
use Rattle.coast_join.proofs.nearest_pairs.mutual_match.Goals as goal

pub loop-next-preserved : goal.loop-next-preserved
loop-next-preserved c =
    let sites = c.args.ends.now.sites.items in
    record {
      choice = c.in-Some.ensures.none;
      square = le_trans c.in-Some.ensures.square c.loop-next.invariant.square;
      waiting = λ all. subst (All (Contains sites)) (sym c.in_ok-push.ensures.items) (All-push (Contains sites) c.loop-next.waiting.items c.loop-next.pair.from (c.loop-next.invariant.waiting all) c.loop-next.invariant.choice.stands);
    }
