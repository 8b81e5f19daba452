-- What portions, sorted ends and a walk make is a half.
use Rattle.std.proofs.Common.{All, Bool, List, [], ap, arith, cond, false, inl, inr, length, refl, subst, sym, true, ◌++◌, ◌∙◌, ◌∷◌, ◌≡◌, ◌||◌, ◌⊎◌}
use Rattle.std.specs.List.Sorted.{IsPermutation}
use Rattle.std.proofs.lemmas.List.Sorted.{All-permutation, IsPermutation-sym, sum_by-IsPermutation}
use Rattle.plane.specs.Bit.{bit}
use Rattle.plane.specs.Sign.{Null, is_null}
use Rattle.lists.specs.Member.{In}
use Rattle.osm_geom.specs.declared.cut.Cut.{Cut}
use Rattle.osm_geom.specs.declared.cut.Side.{Side}
use Rattle.osm_geom.specs.declared.edge.Edge.{Edge}
use Rattle.osm_geom.specs.declared.point.Point.{Point}
use Rattle.osm_geom.specs.Cut.{cut_order}
use Rattle.osm_geom.specs.Point.{IsInWorld}
use Rattle.coast_split.specs.Half.{AreMeetings, ArePortions, IsHalf, ends_up_to, is_up_to}
use Rattle.coast_split.specs.Walk.{AreSortedEnds, AreWalked, IsEndOnLine, end_on, ends_on}
use Rattle.lists.proofs.ListsKit.{all-in, in-all, in-either, in-left, in-right, total, total-is}
use Rattle.coast_split.proofs.SortedEnds.{Stands, chain-of, count-ends, different, different-in, into-different, links-of, portions-kept, rising, up_to}
use Rattle.plane.proofs.SignKit.{is_null-true}

-- v is an end of an edge of the list, on the line
pub record IsEndOf (cut : Cut) (ts : List Edge) (v : Point) : Type 0 where
  pub edge : Edge
  pub member : In edge ts
  pub which : (v ≡ edge.from) ⊎ (v ≡ edge.to)
  pub end : IsEndOnLine cut v

end-in : (cut : Cut) (p v : Point) (b : Bool) → is_null (cut_order cut p) ≡ b → In v (cond b (p ∷ []) []) → (v ≡ p) × (cut_order cut p ≡ Null)
end-in cut p v true h (inl e) = (e, is_null-true (cut_order cut p) h)
end-in cut p v true h (inr i) = absurd i
end-in cut p v false h i = absurd i

module _ (cut : Cut) where
  end-at : (v p : Point) → v ≡ p → cut_order cut p ≡ Null → IsInWorld p → IsEndOnLine cut v
  end-at v p e h w = subst (IsEndOnLine cut) (sym e) (record { on_line = h; in_world = w })

  further : (t : Edge) (ts : List Edge) (v : Point) → IsEndOf cut ts v → IsEndOf cut (t ∷ ts) v
  further t ts v e = record { edge = e.edge; member = inr e.member; which = e.which; end = e.end }

  from-end : (t : Edge) (ts : List Edge) (v : Point) → In v (end_on cut t.from) → IsEndOf cut (t ∷ ts) v
  from-end t ts v i = let r = end-in cut t.from v (is_null (cut_order cut t.from)) refl i in record { edge = t; member = inl refl; which = inl r.0; end = end-at v t.from r.0 r.1 t.from_in }

  to-end : (t : Edge) (ts : List Edge) (v : Point) → In v (end_on cut t.to) → IsEndOf cut (t ∷ ts) v
  to-end t ts v i = let r = end-in cut t.to v (is_null (cut_order cut t.to)) refl i in record { edge = t; member = inl refl; which = inr r.0; end = end-at v t.to r.0 r.1 t.to_in }

  rest-end : (t : Edge) (ts : List Edge) (v : Point) → (In v (ends_on cut ts) → IsEndOf cut ts v) → (In v (end_on cut t.to)) ⊎ (In v (ends_on cut ts)) → IsEndOf cut (t ∷ ts) v
  rest-end t ts v f (inl i) = to-end t ts v i
  rest-end t ts v f (inr i) = further t ts v (f i)

  any-end : (t : Edge) (ts : List Edge) (v : Point) → (In v (ends_on cut ts) → IsEndOf cut ts v) → (In v (end_on cut t.from)) ⊎ (In v (end_on cut t.to ++ ends_on cut ts)) → IsEndOf cut (t ∷ ts) v
  any-end t ts v f (inl i) = from-end t ts v i
  any-end t ts v f (inr i) = rest-end t ts v f (in-either (end_on cut t.to) (ends_on cut ts) v i)

  pub ends-are : (ts : List Edge) (v : Point) → In v (ends_on cut ts) → IsEndOf cut ts v
  ends-are [] v i = absurd i
  ends-are (t ∷ ts) v i = any-end t ts v (ends-are ts v) (in-either (end_on cut t.from) (end_on cut t.to ++ ends_on cut ts) v i)

  on-end : (p : Point) (b : Bool) → is_null (cut_order cut p) ≡ b → cut_order cut p ≡ Null → In p (cond b (p ∷ []) [])
  on-end p true h k = inl refl
  on-end p false h k = absurd (cc (sym h ∙ ap is_null k))

  pub from-in : (ts : List Edge) (t : Edge) → In t ts → cut_order cut t.from ≡ Null → In t.from (ends_on cut ts)
  from-in [] t i h = absurd i
  from-in (u ∷ us) t (inl e) h =
      subst (λ (x : Edge). In t.from (end_on cut x.from ++ (end_on cut x.to ++ ends_on cut us))) e
      (in-left (end_on cut t.from) (end_on cut t.to ++ ends_on cut us) t.from (on-end t.from (is_null (cut_order cut t.from)) refl h))
  from-in (u ∷ us) t (inr i) h = in-right (end_on cut u.from) (end_on cut u.to ++ ends_on cut us) t.from (in-right (end_on cut u.to) (ends_on cut us) t.from (from-in us t i h))

  pub to-in : (ts : List Edge) (t : Edge) → In t ts → cut_order cut t.to ≡ Null → In t.to (ends_on cut ts)
  to-in [] t i h = absurd i
  to-in (u ∷ us) t (inl e) h =
      subst (λ (x : Edge). In t.to (end_on cut x.from ++ (end_on cut x.to ++ ends_on cut us))) e
      (in-right (end_on cut t.from) (end_on cut t.to ++ ends_on cut us) t.to (in-left (end_on cut t.to) (ends_on cut us) t.to (on-end t.to (is_null (cut_order cut t.to)) refl h)))
  to-in (u ∷ us) t (inr i) h = in-right (end_on cut u.from) (end_on cut u.to ++ ends_on cut us) t.to (in-right (end_on cut u.to) (ends_on cut us) t.to (to-in us t i h))

-- ---- the same, sorted
moved-in : (xs ys : List Point) → IsPermutation xs ys → (v : Point) → In v ys → In v xs
moved-in xs ys p v i = in-all (λ u. In u xs) ys v (All-permutation (λ u. In u xs) xs ys p (all-in (λ u. In u xs) xs (λ u j. j))) i

module _ (cut : Cut) (s : Side) (ts : List Edge) (ends : List Point) (a : AreSortedEnds cut s ts ends) where
  pub end-is : (v : Point) → In v ends → IsEndOf cut ts v
  end-is v i = ends-are cut ts v (moved-in (ends_on cut ts) ends a.moved v i)

  pub all-ends : All (IsEndOnLine cut) ends
  all-ends = all-in (IsEndOnLine cut) ends (λ v i. (end-is v i).end)

  back-in : (v : Point) → In v (ends_on cut ts) → In v ends
  back-in v i = moved-in ends (ends_on cut ts) (IsPermutation-sym (ends_on cut ts) ends a.moved) v i

  pub from-sorted : (t : Edge) → In t ts → cut_order cut t.from ≡ Null → In t.from ends
  from-sorted t i h = back-in t.from (from-in cut ts t i h)

  pub to-sorted : (t : Edge) → In t ts → cut_order cut t.to ≡ Null → In t.to ends
  to-sorted t i h = back-in t.to (to-in cut ts t i h)

module _ (cut : Cut) (s : Side) (es ts : List Edge) (portions : ArePortions cut s es ts) where
  counted : (ends : List Point) → IsPermutation (ends_on cut ts) ends → (p : Point) → ends_up_to cut ts p ≡ total (up_to cut s p) ends
  counted ends m p =
      sym (total-is (λ (t : Edge). bit (is_up_to cut p t.from || is_up_to cut p t.to)) ts)
      ∙ count-ends cut s p ts (portions-kept cut s es ts portions)
      ∙ total-is (up_to cut s p) (ends_on cut ts)
      ∙ sym (sum_by-IsPermutation (up_to cut s p) (ends_on cut ts) ends m)
      ∙ sym (total-is (up_to cut s p) ends)

  stands : (z : Point) (r : List Point) → AreSortedEnds cut s ts (z ∷ r) → Stands cut s ts (length (z ∷ r)) 1 [] z r
  stands z r a = record {
    chain = chain-of cut s z r a.sorted;
    before = λ v i. absurd i;
    place = omega arith;
    count = omega arith;
    ends = λ p. let c = counted (z ∷ r) a.moved p in omega arith;
  }

  zs-in : (z : Point) (r : List Point) (v : Point) → In v (z ∷ different cut s z r) → In v (z ∷ r)
  zs-in z r v (inl e) = inl e
  zs-in z r v (inr i) = inr (different-in cut s z r v i)

  meetings : (z : Point) (r : List Point) → AreSortedEnds cut s ts (z ∷ r) → AreMeetings cut s ts (z ∷ different cut s z r)
  meetings z r a =
      let c = chain-of cut s z r a.sorted in
      record {
        on_line = λ v i. (end-is cut s ts (z ∷ r) a v (zs-in z r v i)).end.on_line;
        ends = λ v i. let e = end-is cut s ts (z ∷ r) a v (zs-in z r v i) in (e.edge, e.member, e.which);
        froms = λ t i h. into-different cut s z r c t.from (from-sorted cut s ts (z ∷ r) a t i h);
        tos = λ t i h. into-different cut s z r c t.to (to-sorted cut s ts (z ∷ r) a t i h);
        rising = rising cut s z r c;
      }

  no-meetings : AreSortedEnds cut s ts [] → AreMeetings cut s ts []
  no-meetings a = record {
    on_line = λ v i. absurd i;
    ends = λ v i. absurd i;
    froms = λ t i h. from-sorted cut s ts [] a t i h;
    tos = λ t i h. to-sorted cut s ts [] a t i h;
    rising = tt;
  }

  made-by : (ends : List Point) (ls : List Edge) → AreSortedEnds cut s ts ends → AreWalked cut s ends ls → IsHalf cut s es (ts ++ ls)
  made-by [] ls a w = record { parts = ts; meetings = []; links = ls; are_parts = portions; are_meetings = no-meetings a; are_links = w; whole = refl }
  made-by (z ∷ r) ls a w = record {
    parts = ts;
    meetings = z ∷ different cut s z r;
    links = ls;
    are_parts = portions;
    are_meetings = meetings z r a;
    are_links = links-of cut s ts (length (z ∷ r)) 1 [] z r ls (stands z r a) w;
    whole = refl;
  }

  pub made : (ends : List Point) (ls hs : List Edge) → AreSortedEnds cut s ts ends → AreWalked cut s ends ls → hs ≡ ts ++ ls → IsHalf cut s es hs
  made ends ls hs a w e = subst (IsHalf cut s es) (sym e) (made-by ends ls a w)
