-- How far the choice comes by one pair that is the nearest both ways, and what it is at the end.
use Rattle.std.proofs.Common.{◌≡◌, ℕ, ◌+◌, ◌*◌, ◌-ℤ◌, ◌<◌, ◌≤◌, ℤ, unsigned_abs, Bool, true, false, not, cond, if◌then◌else◌, nat_lt, List, [], ◌∷◌, ◌++◌, length, map, get_or, set, All, AllPairs, Contains, Option, Some, None, Global, Vec, min, refl, sym, ap, subst, ◌∙◌, arith, ⊎_elim}
use Rattle.std.specs.List.{cons_option, count_by, enumerate_from, filter_map, flat_map, sum_by}
use Rattle.std.proofs.lemmas.Bool.{cases_lt, false≢true, lt-ltb, ltb-true}
use Rattle.std.proofs.lemmas.Int.{ints}
use Rattle.std.proofs.lemmas.List.{get_or_default, get_or_past}
use Rattle.std.proofs.lemmas.List.Elements.{All-contains, All-map, All-nil, Contains-append_left, Contains-append_right, Contains-get_or}
use Rattle.std.proofs.lemmas.List.Kept.{AllPairs-cons}
use Rattle.std.proofs.lemmas.List.Sorted.{IsPermutation-sym, Contains-permutation}
use Rattle.std.proofs.lemmas.List.Sums.{sum_by-set}
use Rattle.std.proofs.lemmas.Option.{same_Some}
use Rattle.std.specs.List.Sorted.{IsPermutation}
use Rattle.std.specs.declared.cmp.Ordering.TheVariants.{Less}
use Rattle.lists.specs.Rising.{IsRising, count_of}
use Rattle.osm_lattice.specs.declared.loc.Loc.{Loc}
use Rattle.coast_join.specs.declared.chain.Chain.{Chain}
use Rattle.coast_join.specs.declared.closing.OpenEnds.{OpenEnds}
use Rattle.coast_join.specs.declared.gap.Gap.{Gap}
use Rattle.coast_join.specs.declared.nearest_pairs.Match.{Match}
use Rattle.coast_join.specs.declared.nearest_pairs.Matching.{Matching}
use Rattle.coast_join.specs.declared.site_tree.SiteTree.{SiteTree}
use Rattle.coast_join.specs.declared.sites.Near.{Near}
use Rattle.coast_join.specs.declared.sites.Site.{Site}
use Rattle.coast_join.specs.Closings.{gap_between, near_pairs, open_ends, open_ends_at, square_between}
use Rattle.coast_join.specs.GapSteps.{gap_cmp}
use Rattle.coast_join.specs.Matches.{AreSites, AreTakenSoFar, HasMatched, IsChoice, IsFarFromStarts, IsFurther, IsMutual, IsNearPair, end_site, is_chain_marked, matched_gap, start_site, unmarked, weight}
use Rattle.coast_join.specs.Sites.{IsFreeNear, IsNearestSite, is_gone, near_of, nearness, nearness_from}
use Rattle.coast_join.specs.SiteTrees.{IsSiteTree}
use Rattle.coast_join.specs.Taken.{AreTaken, IsFree}
use Rattle.coast_join.proofs.MutualPairs.{all_settled, less_by_end, less_by_start, none_taken, put_aside, take_pair}
use Rattle.coast_join.proofs.NearPairs.{ends_name, once_in, once_out, same_gap}
use Rattle.coast_join.proofs.SiteStretches.{still_gone}
use Rattle.coast_join.proofs.Stepping.{All-enumerated, All-filter_map, All-flat_map}
use Rattle.lists.proofs.ListsKit.{first_member, later_member, member_cases, no_member}

-- ---- numbers

turned : (a b : ℤ) → unsigned_abs (a -ℤ b) ≡ unsigned_abs (b -ℤ a)
turned a b = omega (arith, ints)

square_turned : (p q : Loc) → square_between p q ≡ square_between q p
square_turned p q =
    ap (λ n. n * n + unsigned_abs (p.y -ℤ q.y) * unsigned_abs (p.y -ℤ q.y)) (turned p.x q.x)
    ∙ ap (λ n. unsigned_abs (q.x -ℤ p.x) * unsigned_abs (q.x -ℤ p.x) + n * n) (turned p.y q.y)

not_less : (a b c : ℕ) → a ≡ b → c ≤ b → a < c → ⊥
not_less a b c e l m = absurd (omega arith)

-- ---- the end that is nearer to a start

-- the nearest start to that end is no farther
pub next_choice : (ends starts : SiteTree) (pair : Match) (back next : Near) → IsChoice ends starts pair → IsNearestSite (Contains ends.sites.items) ends.gone.items pair.to.site.at (record { square = pair.to.square; site = pair.from }) back
    → (back.square ≡ pair.to.square → back.site.chain ≡ pair.from.chain → ⊥) → IsNearestSite (Contains starts.sites.items) starts.gone.items back.site.at (record { square = back.square; site = pair.to.site }) next → IsChoice ends starts (record { from = back.site; to = next })
next_choice ends starts pair back next choice found other nearest =
    let end : IsFreeNear (Contains ends.sites.items) ends.gone.items pair.to.site.at back = ⊎_elim (λ e. absurd (other (ap (λ (n : Near). n.square) e) (ap (λ (n : Near). n.site.chain) e))) (λ f. f) found.origin in
    let known : IsFreeNear (Contains starts.sites.items) starts.gone.items back.site.at (record { square = back.square; site = pair.to.site }) = record { stands = choice.to.stands; free = choice.to.free; square = end.square ∙ square_turned pair.to.site.at back.site.at } in
    record {
      stands = end.stands;
      free = end.free;
      to = ⊎_elim (λ e. subst (IsFreeNear (Contains starts.sites.items) starts.gone.items back.site.at) (sym e) known) (λ f. f) nearest.origin;
      least = nearest.least;
    }

-- ---- marks

pub unmarked_inside : (marks : List Bool) (c : ℕ) → is_chain_marked marks c ≡ false → c < length marks
unmarked_inside marks c e = ⊎_elim (λ l. l) (λ l. absurd (false≢true (sym e ∙ get_or_past marks c true l))) (cases_lt c (length marks))

pub fewer_unmarked : (marks : List Bool) (c : ℕ) → is_chain_marked marks c ≡ false → count_by not (set marks c true) < count_by not marks
fewer_unmarked marks c e =
    let f : Bool → ℕ = λ b. cond {A = ℕ} (not b) 1 0 in
    let was : f (get_or marks c true) ≡ 1 = ap f e in
    let sum : sum_by f (set marks c true) + f (get_or marks c true) ≡ sum_by f marks + f true = sum_by-set f marks c true true (unmarked_inside marks c e) in
    less (sum_by f (set marks c true)) (sum_by f marks) (f (get_or marks c true)) was sum
  where
    less : (a b n : ℕ) → n ≡ 1 → a + n ≡ b + 0 → a < b
    less a b n one h = omega arith

-- ---- one step

pub record IsStep (limit : ℕ) (m n : Matching) : Type 0 where
  pub matched : HasMatched limit n
  pub further : IsFurther m n
  pub fewer : unmarked n < unmarked m

module _ (limit : ℕ) (m : Matching) (has : HasMatched limit m) where
  -- the end of a near pair is known by its chain, and so is its start
  end_of : (g : Gap) (p : IsNearPair limit m.ends.sites.items m.starts.sites.items g) (from : Site) → Contains m.ends.sites.items from → g.from_chain ≡ from.chain → p.from ≡ from
  end_of g p from inside e = has.end_sites.one p.from from p.from_in inside (sym p.from_chain ∙ e)

  start_of : (g : Gap) (p : IsNearPair limit m.ends.sites.items m.starts.sites.items g) (to : Site) → Contains m.starts.sites.items to → g.to_chain ≡ to.chain → p.to ≡ to
  start_of g p to inside e = has.start_sites.one p.to to p.to_in inside (sym p.to_chain ∙ e)

  none_left : (from : Site) → Contains m.ends.sites.items from → IsFarFromStarts m.starts limit from.at → (g : Gap) → IsNearPair limit m.ends.sites.items m.starts.sites.items g → g.from_chain ≡ from.chain → is_chain_marked m.starts.gone.items g.to_chain ≡ false → ⊥
  none_left from inside far g p e f =
      let same = end_of g p from inside e in
      let free : is_gone m.starts.gone.items p.to ≡ false = ap (λ k. get_or m.starts.gone.items k true) (sym p.to_chain) ∙ f in
      not_less g.square (square_between from.at p.to.at) (limit * limit)
      (p.square ∙ ap (λ (s : Site). square_between s.at p.to.at) same)
      (far p.to p.to_in free (has.start_sites.small p.to p.to_in))
      p.near

  module _ (pair : Match) (both : IsMutual m.ends m.starts pair) where
    no_start : (g : Gap) → IsNearPair limit m.ends.sites.items m.starts.sites.items g → g.from_chain ≡ pair.from.chain → is_chain_marked m.starts.gone.items g.to_chain ≡ false → gap_cmp g (matched_gap pair) ≡ Less → ⊥
    no_start g p e f less =
        let same = end_of g p pair.from both.choice.stands e in
        let free : is_gone m.starts.gone.items p.to ≡ false = ap (λ k. get_or m.starts.gone.items k true) (sym p.to_chain) ∙ f in
        let is : nearness g.square g.to_chain ≡ nearness_from pair.from.at p.to = ap (λ n. nearness n g.to_chain) (p.square ∙ ap (λ (s : Site). square_between s.at p.to.at) same) ∙ ap (nearness (square_between pair.from.at p.to.at)) p.to_chain in
        let small : g.to_chain < 18446744073709551616 = subst (λ n. n < 18446744073709551616) (sym p.to_chain) (has.start_sites.small p.to p.to_in) in
        not_less (nearness g.square g.to_chain) (nearness_from pair.from.at p.to) (near_of pair.to) is (both.choice.least p.to p.to_in free) (less_by_start g (matched_gap pair) e small less)

    no_end : (g : Gap) → IsNearPair limit m.ends.sites.items m.starts.sites.items g → g.to_chain ≡ pair.to.site.chain → is_chain_marked m.ends.gone.items g.from_chain ≡ false → gap_cmp g (matched_gap pair) ≡ Less → ⊥
    no_end g p e f less =
        let same = start_of g p pair.to.site both.choice.to.stands e in
        let free : is_gone m.ends.gone.items p.from ≡ false = ap (λ k. get_or m.ends.gone.items k true) (sym p.from_chain) ∙ f in
        let is : nearness g.square g.from_chain ≡ nearness_from pair.to.site.at p.from = ap (λ n. nearness n g.from_chain) (p.square ∙ (ap (λ (s : Site). square_between p.from.at s.at) same ∙ square_turned p.from.at pair.to.site.at)) ∙ ap (nearness (square_between pair.to.site.at p.from.at)) p.from_chain in
        let small : g.from_chain < 18446744073709551616 = subst (λ n. n < 18446744073709551616) (sym p.from_chain) (has.end_sites.small p.from p.from_in) in
        not_less (nearness g.square g.from_chain) (nearness_from pair.to.site.at p.from) (weight pair) is (both.back p.from p.from_in free) (less_by_end g (matched_gap pair) e small less)

    is_near_pair : pair.to.square < limit * limit → IsNearPair limit m.ends.sites.items m.starts.sites.items (matched_gap pair)
    is_near_pair near = record {
      from = pair.from;
      to = pair.to.site;
      from_in = both.choice.stands;
      to_in = both.choice.to.stands;
      square = both.choice.to.square;
      near = near;
      from_chain = refl;
      to_chain = refl;
    }

    taken_more : pair.to.square < limit * limit → AreTakenSoFar (IsNearPair limit m.ends.sites.items m.starts.sites.items) (set m.ends.gone.items pair.from.chain true) (set m.starts.gone.items pair.to.site.chain true) (m.gaps.items ++ matched_gap pair ∷ [])
    taken_more near = take_pair (IsNearPair limit m.ends.sites.items m.starts.sites.items) m.ends.gone.items m.starts.gone.items m.gaps.items has.taken (matched_gap pair) (is_near_pair near)
        (unmarked_inside m.ends.gone.items pair.from.chain both.choice.free)
        (unmarked_inside m.starts.gone.items pair.to.site.chain both.choice.to.free)
        both.choice.free both.choice.to.free no_start no_end

  -- a matching of these parts
  remade : (n : Matching) (ended started : List Bool) (waiting : List Site) (gaps : List Gap) → IsSiteTree n.ends → IsSiteTree n.starts → n.ends.sites.items ≡ m.ends.sites.items → n.starts.sites.items ≡ m.starts.sites.items → n.ends.gone.items ≡ ended → n.starts.gone.items ≡ started → n.waiting.items ≡ waiting → n.gaps.items ≡ gaps
      → All (Contains m.ends.sites.items) waiting → AreTakenSoFar (IsNearPair limit m.ends.sites.items m.starts.sites.items) ended started gaps → HasMatched limit n
  remade n ended started waiting gaps et st es ss eg sg ws gs w t = record {
    ends = et;
    starts = st;
    end_sites = subst AreSites (sym es) has.end_sites;
    start_sites = subst AreSites (sym ss) has.start_sites;
    waiting = rw (es, ws) w;
    taken = rw (es, ss, eg, sg, gs) t;
  }

  further_by : (n : Matching) (c : ℕ) → n.ends.sites.items ≡ m.ends.sites.items → n.starts.sites.items ≡ m.starts.sites.items → n.ends.gone.items ≡ set m.ends.gone.items c true → IsFurther m n
  further_by n c es ss eg = record { ends = es; starts = ss; marked = λ k h. ap (λ marks. get_or marks k true) eg ∙ still_gone m.ends.gone.items c k h }

  pub aside_step : (n : Matching) (from : Site) → Contains m.ends.sites.items from → is_gone m.ends.gone.items from ≡ false → IsFarFromStarts m.starts limit from.at → IsSiteTree n.ends → n.ends.sites.items ≡ m.ends.sites.items → n.ends.gone.items ≡ set m.ends.gone.items from.chain true → n.starts ≡ m.starts → n.waiting.items ≡ m.waiting.items → n.gaps.items ≡ m.gaps.items → IsStep limit m n
  aside_step n from inside free far et es eg st ws gs =
      let ss : n.starts.sites.items ≡ m.starts.sites.items = ap (λ (t : SiteTree). t.sites.items) st in
      record {
        matched = remade n (set m.ends.gone.items from.chain true) m.starts.gone.items m.waiting.items m.gaps.items et (subst IsSiteTree (sym st) has.starts) es ss eg (ap (λ (t : SiteTree). t.gone.items) st) ws gs has.waiting
            (put_aside (IsNearPair limit m.ends.sites.items m.starts.sites.items) m.ends.gone.items m.starts.gone.items m.gaps.items has.taken from.chain (none_left from inside far));
        further = further_by n from.chain es ss eg;
        fewer = subst (λ marks. count_by not marks < count_by not m.ends.gone.items) (sym eg) (fewer_unmarked m.ends.gone.items from.chain free);
      }

  pub take_step : (n : Matching) (pair : Match) → IsMutual m.ends m.starts pair → pair.to.square < limit * limit → IsSiteTree n.ends → IsSiteTree n.starts → n.ends.sites.items ≡ m.ends.sites.items → n.starts.sites.items ≡ m.starts.sites.items → n.ends.gone.items ≡ set m.ends.gone.items pair.from.chain true → n.starts.gone.items ≡ set m.starts.gone.items pair.to.site.chain true → All (Contains m.ends.sites.items) n.waiting.items → n.gaps.items ≡ m.gaps.items ++ matched_gap pair ∷ [] → IsStep limit m n
  take_step n pair both near et st es ss eg sg w gs =
      record {
        matched = remade n (set m.ends.gone.items pair.from.chain true) (set m.starts.gone.items pair.to.site.chain true) n.waiting.items (m.gaps.items ++ matched_gap pair ∷ []) et st es ss eg sg refl gs w (taken_more pair both near);
        further = further_by n pair.from.chain es ss eg;
        fewer = subst (λ marks. count_by not marks < count_by not m.ends.gone.items) (sym eg) (fewer_unmarked m.ends.gone.items pair.from.chain both.choice.free);
      }

-- ---- the sites of chains

in_map : (f : OpenEnds → Site) (ends : List OpenEnds) (e : OpenEnds) → Contains ends e → Contains (map f ends) (f e)
in_map f [] e c = absurd (no_member e c)
in_map f (d ∷ ends) e c = ⊎_elim (λ s. subst (λ x. Contains (f d ∷ map f ends) (f x)) s (first_member (f d) (map f ends))) (λ l. later_member (f d) (f e) (map f ends) (in_map f ends e l)) (member_cases d e ends c)

-- whose site a site is
pub record IsSiteOf (f : OpenEnds → Site) (ends : List OpenEnds) (s : Site) : Type 0 where
  pub of : OpenEnds
  pub inside : Contains ends of
  pub is : s ≡ f of

out_of_map : (f : OpenEnds → Site) (ends : List OpenEnds) (s : Site) → Contains (map f ends) s → IsSiteOf f ends s
out_of_map f ends s = All-contains (IsSiteOf f ends) (map f ends) s (All-map (IsSiteOf f ends) f ends (λ k d h. record { of = get_or ends k d; inside = Contains-get_or ends k d h; is = refl }))

-- chains that rise stand there once each
once_each : (ends : List OpenEnds) → AllPairs (λ (e f : OpenEnds). e.chain < f.chain) ends → (e f : OpenEnds) → Contains ends e → Contains ends f → e.chain ≡ f.chain → e ≡ f
once_each ends up e f (i, h, a) (j, l, b) same = ⊎_elim
    (λ less. let r = up i j e less l in let x = at i e e h a in let y = at j f e l b in absurd (clash e f (get_or ends i e) (get_or ends j e) x y same r))
    (λ rest. ⊎_elim
    (λ more. let r = up j i e more h in let x = at i e e h a in let y = at j f e l b in absurd (clash f e (get_or ends j e) (get_or ends i e) y x (sym same) r))
    (λ rest_2. let k : i ≡ j = omega arith in sym a ∙ (ap (λ n. get_or ends n e) k ∙ at j f e l b))
    (cases_lt j i))
    (cases_lt i j)
  where
    at : (k : ℕ) (x d : OpenEnds) → k < length ends → get_or ends k x ≡ x → get_or ends k d ≡ x
    at k x d h e = get_or_default ends k d x h ∙ e

    clash : (x y p q : OpenEnds) → p ≡ x → q ≡ y → x.chain ≡ y.chain → p.chain < q.chain → ⊥
    clash x y p q ep eq s r =
        let a : p.chain ≡ x.chain = ap (λ (o : OpenEnds). o.chain) ep in
        let b : q.chain ≡ y.chain = ap (λ (o : OpenEnds). o.chain) eq in
        absurd (omega arith)

module _ (f : OpenEnds → Site) (chain : (e : OpenEnds) → (f e).chain ≡ e.chain) (ends : List OpenEnds) (sites : List Site) (same : IsPermutation (map f ends) sites) where
  pub site_in : (e : OpenEnds) → Contains ends e → Contains sites (f e)
  site_in e c = Contains-permutation (map f ends) sites (f e) same (in_map f ends e c)

  pub site_of : (s : Site) → Contains sites s → IsSiteOf f ends s
  site_of s c = out_of_map f ends s (Contains-permutation sites (map f ends) s (IsPermutation-sym (map f ends) sites same) c)

  pub are_sites : (n : ℕ) → n < 18446744073709551616 → All (λ (e : OpenEnds). e.chain < n) ends → AllPairs (λ (e f : OpenEnds). e.chain < f.chain) ends → AreSites sites
  are_sites n small below up = record {
    small = λ s c.
        let w = site_of s c in
        let l = All-contains (λ (e : OpenEnds). e.chain < n) ends w.of below w.inside in
        let e : s.chain ≡ w.of.chain = ap (λ (x : Site). x.chain) w.is ∙ chain w.of in
        omega arith;
    one = λ s t c d e.
        let w = site_of s c in
        let v = site_of t d in
        let k : w.of.chain ≡ v.of.chain = sym (ap (λ (x : Site). x.chain) w.is ∙ chain w.of) ∙ (e ∙ (ap (λ (x : Site). x.chain) v.is ∙ chain v.of)) in
        w.is ∙ (ap f (once_each ends up w.of v.of w.inside v.inside k) ∙ sym v.is);
  }

-- ---- near pairs of chains, told by their sites

gap_is : (limit : ℕ) (f t : OpenEnds) (g : Gap) → gap_between limit f t ≡ Some g → (g.square < limit * limit) × (g ≡ record { square = square_between f.end t.start; from_chain = f.chain; to_chain = t.chain })
unfolding gap_between
gap_is limit f t g e = by (nat_lt (square_between f.end t.start) (limit * limit)) refl e
  where
    by : (b : Bool) → nat_lt (square_between f.end t.start) (limit * limit) ≡ b → ◌≡◌ {A = Option Gap} (if b then Some (record { square = square_between f.end t.start; from_chain = f.chain; to_chain = t.chain }) else None) (Some g)
        → (g.square < limit * limit) × (g ≡ record { square = square_between f.end t.start; from_chain = f.chain; to_chain = t.chain })
    by true l s =
        let is : ◌≡◌ {A = Gap} (record { square = square_between f.end t.start; from_chain = f.chain; to_chain = t.chain }) g = same_Some _ _ s in
        (subst (λ (x : Gap). x.square < limit * limit) is (ltb-true (square_between f.end t.start) (limit * limit) l), sym is)
    by false l s = absurd (cc)

gap_given : (limit : ℕ) (f t : OpenEnds) (g : Gap) → g.square < limit * limit → g.square ≡ square_between f.end t.start → g.from_chain ≡ f.chain → g.to_chain ≡ t.chain → gap_between limit f t ≡ Some g
unfolding gap_between
gap_given limit f t g near sq from to =
    let l : square_between f.end t.start < limit * limit = subst (λ n. n < limit * limit) sq near in
    let is : ◌≡◌ {A = Gap} (record { square = square_between f.end t.start; from_chain = f.chain; to_chain = t.chain }) g = same_gap (record { square = square_between f.end t.start; from_chain = f.chain; to_chain = t.chain }) g (sym sq) (sym from) (sym to) in
    ap (λ b. if b then Some (record { square = square_between f.end t.start; from_chain = f.chain; to_chain = t.chain }) else None) (lt-ltb (square_between f.end t.start) (limit * limit) l) ∙ ap Some is

starts_kept : (limit : ℕ) (f : OpenEnds) (ends : List OpenEnds) (t : OpenEnds) (g : Gap) → Contains ends t → gap_between limit f t ≡ Some g → Contains (filter_map (gap_between limit f) ends) g
starts_kept limit f [] t g c e = absurd (no_member t c)
starts_kept limit f (d ∷ ends) t g c e = ⊎_elim
    (λ s. here (gap_between limit f d) (ap (gap_between limit f) s ∙ e))
    (λ l. later (gap_between limit f d) (starts_kept limit f ends t g l e))
    (member_cases d t ends c)
  where
    here : (o : Option Gap) → o ≡ Some g → Contains (cons_option o (filter_map (gap_between limit f) ends)) g
    here o e = rw e (first_member g (filter_map (gap_between limit f) ends))

    later : (o : Option Gap) → Contains (filter_map (gap_between limit f) ends) g → Contains (cons_option o (filter_map (gap_between limit f) ends)) g
    later None c = c
    later (Some x) c = later_member x g (filter_map (gap_between limit f) ends) c

ends_kept : (limit : ℕ) (starts ends : List OpenEnds) (f t : OpenEnds) (g : Gap) → Contains ends f → Contains starts t → gap_between limit f t ≡ Some g → Contains (flat_map (λ from. filter_map (gap_between limit from) starts) ends) g
ends_kept limit starts [] f t g c d e = absurd (no_member f c)
ends_kept limit starts (x ∷ ends) f t g c d e = ⊎_elim
    (λ s. Contains-append_left (filter_map (gap_between limit x) starts) (flat_map (λ from. filter_map (gap_between limit from) starts) ends) g (starts_kept limit x starts t g d (ap (λ y. gap_between limit y t) s ∙ e)))
    (λ l. Contains-append_right (filter_map (gap_between limit x) starts) (flat_map (λ from. filter_map (gap_between limit from) starts) ends) g (ends_kept limit starts ends f t g l d e))
    (member_cases x f ends c)

module _ (limit : ℕ) (ends : List OpenEnds) (end_sites start_sites : List Site) (es : IsPermutation (map end_site ends) end_sites) (ss : IsPermutation (map start_site ends) start_sites) where
  pub told_by_sites : (g : Gap) → Contains (near_pairs limit ends) g → IsNearPair limit end_sites start_sites g
  told_by_sites g = All-contains (IsNearPair limit end_sites start_sites) (near_pairs limit ends) g
      (All-flat_map (IsNearPair limit end_sites start_sites) (λ f. filter_map (gap_between limit f) ends) ends (λ k d h.
      All-filter_map (IsNearPair limit end_sites start_sites) (gap_between limit (get_or ends k d)) ends (λ j e l g s.
      let w = gap_is limit (get_or ends k d) (get_or ends j e) g s in
      record {
        from = end_site (get_or ends k d);
        to = start_site (get_or ends j e);
        from_in = site_in end_site (λ _. refl) ends end_sites es (get_or ends k d) (Contains-get_or ends k d h);
        to_in = site_in start_site (λ _. refl) ends start_sites ss (get_or ends j e) (Contains-get_or ends j e l);
        square = ap (λ (x : Gap). x.square) w.1;
        near = w.0;
        from_chain = ap (λ (x : Gap). x.from_chain) w.1;
        to_chain = ap (λ (x : Gap). x.to_chain) w.1;
      })))

  pub told_by_chains : (g : Gap) → IsNearPair limit end_sites start_sites g → Contains (near_pairs limit ends) g
  told_by_chains g p =
      let f = site_of end_site (λ _. refl) ends end_sites es p.from p.from_in in
      let t = site_of start_site (λ _. refl) ends start_sites ss p.to p.to_in in
      let square : g.square ≡ square_between f.of.end t.of.start = p.square ∙ (ap (λ (s : Site). square_between s.at p.to.at) f.is ∙ ap (λ (s : Site). square_between f.of.end s.at) t.is) in
      ends_kept limit ends ends f.of t.of g f.inside t.inside (gap_given limit f.of t.of g p.near square (p.from_chain ∙ ap (λ (s : Site). s.chain) f.is) (p.to_chain ∙ ap (λ (s : Site). s.chain) t.is))

-- ---- the beginning and the end

pub still_waiting : (limit : ℕ) (m : Matching) (waiting : Vec Site Global) → HasMatched limit m → All (Contains m.ends.sites.items) waiting.items → HasMatched limit (record { ends = m.ends; starts = m.starts; waiting = waiting; gaps = m.gaps })
still_waiting limit m waiting has all = record {
  ends = has.ends;
  starts = has.starts;
  end_sites = has.end_sites;
  start_sites = has.start_sites;
  waiting = all;
  taken = has.taken;
}

pub none_matched : (limit : ℕ) (ends : List OpenEnds) (n : ℕ) → n < 18446744073709551616 → All (λ (e : OpenEnds). e.chain < n) ends → AllPairs (λ (e f : OpenEnds). e.chain < f.chain) ends → (m : Matching) → IsSiteTree m.ends → IsSiteTree m.starts → IsPermutation (map end_site ends) m.ends.sites.items → IsPermutation (map start_site ends) m.starts.sites.items
    → length m.ends.gone.items ≡ n → length m.starts.gone.items ≡ n → All (λ b. b ≡ false) m.ends.gone.items → All (λ b. b ≡ false) m.starts.gone.items → m.waiting.items ≡ [] → m.gaps.items ≡ [] → HasMatched limit m
none_matched limit ends n small below up m et st es ss el sl eu su ws gs = record {
  ends = et;
  starts = st;
  end_sites = are_sites end_site (λ _. refl) ends m.ends.sites.items es n small below up;
  start_sites = are_sites start_site (λ _. refl) ends m.starts.sites.items ss n small below up;
  waiting = subst (All (Contains m.ends.sites.items)) (sym ws) (All-nil (Contains m.ends.sites.items));
  taken = subst (AreTakenSoFar (IsNearPair limit m.ends.sites.items m.starts.sites.items) m.ends.gone.items m.starts.gone.items) (sym gs)
      (none_taken (IsNearPair limit m.ends.sites.items m.starts.sites.items) m.ends.gone.items m.starts.gone.items (λ g p.
      let f = site_of end_site (λ _. refl) ends m.ends.sites.items es p.from p.from_in in
      let t = site_of start_site (λ _. refl) ends m.starts.sites.items ss p.to p.to_in in
      let fc : g.from_chain ≡ f.of.chain = p.from_chain ∙ ap (λ (s : Site). s.chain) f.is in
      let tc : g.to_chain ≡ t.of.chain = p.to_chain ∙ ap (λ (s : Site). s.chain) t.is in
      let fl = All-contains (λ (e : OpenEnds). e.chain < n) ends f.of below f.inside in
      let tl = All-contains (λ (e : OpenEnds). e.chain < n) ends t.of below t.inside in
      (eu g.from_chain true (omega arith), su g.to_chain true (omega arith))));
}

pub matched_exact : (limit : ℕ) (m n : Matching) (gaps : List Gap) → HasMatched limit n → IsFurther m n → All (λ (s : Site). is_gone n.ends.gone.items s ≡ true) n.ends.sites.items → ((g : Gap) → count_of gap_cmp g gaps ≡ min 1 (count_of gap_cmp g n.gaps.items)) → (g : Gap)
    → (Contains gaps g → IsNearPair limit m.ends.sites.items m.starts.sites.items g × IsFree gap_cmp gaps g) × (IsNearPair limit m.ends.sites.items m.starts.sites.items g × IsFree gap_cmp gaps g → Contains gaps g)
matched_exact limit m n gaps has further gone once g =
    let P : Gap → Type 0 = IsNearPair limit n.ends.sites.items n.starts.sites.items in
    let all = all_settled P n.ends.gone.items n.starts.gone.items n.gaps.items gaps has.taken
    (λ h p. ap (λ k. get_or n.ends.gone.items k true) p.from_chain ∙ All-contains (λ (s : Site). is_gone n.ends.gone.items s ≡ true) n.ends.sites.items p.from gone p.from_in)
    (once_in n.gaps.items gaps once) (once_out n.gaps.items gaps once) g in
    subst (λ (es : List Site). (Contains gaps g → IsNearPair limit es m.starts.sites.items g × IsFree gap_cmp gaps g) × (IsNearPair limit es m.starts.sites.items g × IsFree gap_cmp gaps g → Contains gaps g)) further.ends
    (subst (λ (ss : List Site). (Contains gaps g → IsNearPair limit n.ends.sites.items ss g × IsFree gap_cmp gaps g) × (IsNearPair limit n.ends.sites.items ss g × IsFree gap_cmp gaps g → Contains gaps g)) further.starts all)

pub taken_by_sites : (limit : ℕ) (ends : List OpenEnds) (end_sites start_sites : List Site) (gaps : List Gap) → IsPermutation (map end_site ends) end_sites → IsPermutation (map start_site ends) start_sites → IsRising gap_cmp gaps
    → ((g : Gap) → (Contains gaps g → IsNearPair limit end_sites start_sites g × IsFree gap_cmp gaps g) × (IsNearPair limit end_sites start_sites g × IsFree gap_cmp gaps g → Contains gaps g)) → AreTaken gap_cmp (near_pairs limit ends) gaps
taken_by_sites limit ends end_sites start_sites gaps es ss rising exact = record {
  rising = rising;
  exact = λ g. (
    (λ c. let w = (exact g).0 c in (told_by_chains limit ends end_sites start_sites es ss g w.0, w.1)),
    (λ p. (exact g).1 (told_by_sites limit ends end_sites start_sites es ss g p.0, p.1)),
  );
}

-- ---- open chains stand in order

open_from : ℕ → List Chain → List OpenEnds
open_from n chains = filter_map (λ (p : ℕ × Chain). open_ends_at p.0 p.1) (enumerate_from n chains)

ends_from : (n : ℕ) (chains : List Chain) → All (λ (e : OpenEnds). n ≤ e.chain) (open_from n chains)
unfolding open_from
ends_from n chains = All-filter_map (λ (e : OpenEnds). n ≤ e.chain) (λ (p : ℕ × Chain). open_ends_at p.0 p.1) (enumerate_from n chains)
    (All-enumerated (λ (p : ℕ × Chain). (e : OpenEnds) → open_ends_at p.0 p.1 ≡ Some e → n ≤ e.chain) n chains (λ k c l e s. let is = ends_name (n + k) c e s in omega arith))

rising_from : (n : ℕ) (chains : List Chain) → AllPairs (λ (e f : OpenEnds). e.chain < f.chain) (open_from n chains)
unfolding open_from
rising_from n [] = λ i j d h l. absurd (omega arith)
rising_from n (c ∷ chains) = by (open_ends_at n c) refl (ends_from (n + 1) chains) (rising_from (n + 1) chains)
  where
    by : (o : Option OpenEnds) → open_ends_at n c ≡ o → All (λ (e : OpenEnds). n + 1 ≤ e.chain) (open_from (n + 1) chains) → AllPairs (λ (e f : OpenEnds). e.chain < f.chain) (open_from (n + 1) chains) → AllPairs (λ (e f : OpenEnds). e.chain < f.chain) (cons_option o (open_from (n + 1) chains))
    by None e above rest = rest
    by (Some x) e above rest =
        let is = ends_name n c x e in
        AllPairs-cons (λ (e f : OpenEnds). e.chain < f.chain) x (open_from (n + 1) chains) (λ k d h. let l = above k d h in omega arith) rest

pub open_ends_rise : (chains : List Chain) → AllPairs (λ (e f : OpenEnds). e.chain < f.chain) (open_ends chains)
unfolding open_from
open_ends_rise chains = rising_from 0 chains
