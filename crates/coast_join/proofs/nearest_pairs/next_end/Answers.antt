-- What is taken off a list was there, and the rest is.
use Rattle.std.proofs.Common.{Contains, Some}
use Rattle.std.proofs.lemmas.List.Elements.{All-pop}
use Rattle.coast_join.proofs.nearest_pairs.next_end.Goals as goal

pub returns-then-not-is_gone-clause-among : goal.returns-then-not-is_gone-clause-among
returns-then-not-is_gone-clause-among c sites all inside = (All-pop (Contains sites) c.loop-site.waiting.items c.pop.new.self.items (Some c.in-Some.site) c.in-Some.ensures.items (c.loop-site.invariant sites all)).1

pub returns-then-not-is_gone-clause-rest : goal.returns-then-not-is_gone-clause-rest
returns-then-not-is_gone-clause-rest c sites all = (All-pop (Contains sites) c.loop-site.waiting.items c.pop.new.self.items (Some c.in-Some.site) c.in-Some.ensures.items (c.loop-site.invariant sites all)).0

pub loop-site-preserved : goal.loop-site-preserved
loop-site-preserved c sites all = (All-pop (Contains sites) c.loop-site.waiting.items c.pop.new.self.items (Some c.in-Some.site) c.in-Some.ensures.items (c.loop-site.invariant sites all)).0
