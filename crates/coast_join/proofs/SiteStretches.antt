-- The sites of a stretch of a list, and what the nodes of a tree tell of them.
use Rattle.std.proofs.Common.{◌≡◌, ◌⊎◌, inl, inr, ℕ, ◌+◌, ◌-◌, ◌≤◌, Bool, true, List, length, drop, take, get_or, set, All, sym, ap, subst, ◌∙◌, arith, ⊎_elim}
use Rattle.std.proofs.lemmas.Bool.{cases_eq, cases_lt}
use Rattle.std.proofs.lemmas.List.{get_or-drop, get_or-take, get_or-set_other, get_or-set_same, get_or_past, length-drop, length-set, length-take-le}
use Rattle.std.proofs.lemmas.List.Elements.{All-weaker}
use Rattle.osm_lattice.specs.declared.loc.Loc.{Loc}
use Rattle.coast_join.specs.declared.site_tree.SiteNode.{SiteNode}
use Rattle.coast_join.specs.declared.site_tree.Stretch.{Stretch}
use Rattle.coast_join.specs.declared.sites.Near.{Near}
use Rattle.coast_join.specs.declared.sites.Site.{Site}
use Rattle.coast_join.specs.Sites.{IsNearestSite}
use Rattle.coast_join.specs.SiteTrees.{AreGoneIn, IsPlaceOf, AreHalves, IsRightNode, Stands}
use Rattle.coast_join.proofs.NearestSites.{nearest_joined}

-- ---- where sites stand

pub stands_in : (sites : List Site) (a b : Stretch) (s : Site) → ((k : ℕ) → IsPlaceOf k a → IsPlaceOf k b) → Stands sites a s → Stands sites b s
stands_in sites a b s h st = let i = h st.place (st.from, st.before) in record { place = st.place; from = i.0; before = i.1; is = st.is }

pub stands_parted : (sites : List Site) (whole a b : Stretch) → AreHalves whole a b → (s : Site) → Stands sites whole s → Stands sites a s ⊎ Stands sites b s
stands_parted sites whole a b parted s st = ⊎_elim
    (λ i. inl (record { place = st.place; from = i.0; before = i.1; is = st.is }))
    (λ i. inr (record { place = st.place; from = i.0; before = i.1; is = st.is }))
    (parted.all st.place (st.from, st.before))

pub nearest_parted : (sites : List Site) (gone : List Bool) (p : Loc) (whole a b : Stretch) (best mid near : Near) → AreHalves whole a b → IsNearestSite (Stands sites a) gone p best mid → IsNearestSite (Stands sites b) gone p mid near → IsNearestSite (Stands sites whole) gone p best near
nearest_parted sites gone p whole a b best mid near parted x y = nearest_joined gone p (Stands sites a) (Stands sites b) (Stands sites whole) best mid near
    (λ s st. stands_in sites a whole s parted.first_in st)
    (λ s st. stands_in sites b whole s parted.second_in st)
    (stands_parted sites whole a b parted) x y

-- ---- one more chain is marked

pub still_gone : (gone : List Bool) (chain : ℕ) (c : ℕ) → get_or gone c true ≡ true → get_or (set gone chain true) c true ≡ true
still_gone gone chain c h = ⊎_elim
    (λ e. ⊎_elim
    (λ l. ap (λ k. get_or (set gone chain true) k true) e ∙ get_or-set_same gone chain true true l)
    (λ l. let n = length-set gone chain true in get_or_past (set gone chain true) c true (omega arith))
    (cases_lt chain (length gone)))
    (λ ne. get_or-set_other gone chain c true true ne ∙ h)
    (cases_eq c chain)

right_still : (sites : List Site) (gone : List Bool) (chain : ℕ) (node : SiteNode) → IsRightNode sites gone node → IsRightNode sites (set gone chain true) node
right_still sites gone chain node right = record {
  bounds = right.bounds;
  spent = λ e s st. still_gone gone chain s.chain (right.spent e s st);
}

pub all_right_still : (sites : List Site) (gone : List Bool) (chain : ℕ) (nodes : List SiteNode) → All (IsRightNode sites gone) nodes → All (IsRightNode sites (set gone chain true)) nodes
all_right_still sites gone chain nodes right = All-weaker (IsRightNode sites gone) (IsRightNode sites (set gone chain true)) (λ node r. right_still sites gone chain node r) nodes right

-- ---- both halves are marked

pub gone_parted : (sites : List Site) (gone : List Bool) (whole a b : Stretch) → AreHalves whole a b → AreGoneIn sites gone a → AreGoneIn sites gone b → AreGoneIn sites gone whole
gone_parted sites gone whole a b parted x y s st = ⊎_elim (λ l. x s l) (λ l. y s l) (stands_parted sites whole a b parted s st)

pub same_stretch : (a b : Stretch) → a.first ≡ b.first → a.end ≡ b.end → a ≡ b
same_stretch a b f e =
    let one : a ≡ record { first = b.first; end = a.end } = ap (λ n. record { first = n; end = a.end }) f in
    let two : ◌≡◌ {A = Stretch} (record { first = b.first; end = a.end }) b = ap (λ n. record { first = b.first; end = n }) e in
    one ∙ two

pub spent_node : (sites : List Site) (gone : List Bool) (node : SiteNode) (stretch a b : Stretch) → IsRightNode sites gone node → node.stretch.first ≡ stretch.first → node.stretch.end ≡ stretch.end → AreHalves stretch a b → AreGoneIn sites gone a → AreGoneIn sites gone b → IsRightNode sites gone (record { stretch = node.stretch; bounds = node.bounds; spent = true })
spent_node sites gone node stretch a b right f e parted x y = record {
  bounds = right.bounds;
  spent = λ _. subst (AreGoneIn sites gone) (sym (same_stretch node.stretch stretch f e)) (gone_parted sites gone stretch a b parted x y);
}

-- what holds of each item of a part of the list
pub slice_has : (P : Site → Type 0) (sites : List Site) (stretch : Stretch) → stretch.first ≤ stretch.end → stretch.end ≤ length sites → All P (take (stretch.end - stretch.first) (drop stretch.first sites)) → (s : Site) → Stands sites stretch s → P s
slice_has P sites stretch order inside all s st =
    let a = st.from in
    let b = st.before in
    let left = length-drop stretch.first sites in
    let long = length-take-le (stretch.end - stretch.first) (drop stretch.first sites) (omega arith) in
    let k = st.place - stretch.first in
    let here : stretch.first + k ≡ st.place = omega arith in
    let is : get_or (take (stretch.end - stretch.first) (drop stretch.first sites)) k s ≡ s =
    get_or-take (stretch.end - stretch.first) (drop stretch.first sites) k s (omega arith)
    ∙ (get_or-drop stretch.first sites k s ∙ (ap (λ n. get_or sites n s) here ∙ st.is)) in
    subst P is (all k s (omega arith))
