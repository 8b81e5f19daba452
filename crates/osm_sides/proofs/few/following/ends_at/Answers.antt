-- The tests tell the locations.
use Rattle.std.proofs.Common.{inl, inr, sym, ◌∙◌, ⊎_elim}
use Rattle.lists.proofs.ListsKit.{clash}
use Rattle.osm_sides.proofs.Followers.{same-into, same-out}
use Rattle.osm_sides.proofs.few.following.ends_at.Goals as goal

pub returns-then-is_same-clause-yes : goal.returns-then-is_same-clause-yes
returns-then-is_same-clause-yes c here = inl (same-out c.args.s.a c.args.p (sym c.is_same.ensures ∙ here))

pub returns-else-is_same-clause-yes : goal.returns-else-is_same-clause-yes
returns-else-is_same-clause-yes c here = inr (same-out c.args.s.b c.args.p (sym c.is_same-else-is_same.ensures ∙ here))

pub returns-else-is_same-clause-no : goal.returns-else-is_same-clause-no
returns-else-is_same-clause-no c off end = ⊎_elim
    (λ e. clash c.is_same.result (c.is_same.ensures ∙ same-into c.args.s.a c.args.p e) c.if-is_same.false)
    (λ e. clash c.is_same-else-is_same.result (c.is_same-else-is_same.ensures ∙ same-into c.args.s.b c.args.p e) off)
    end
