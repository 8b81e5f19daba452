-- What chains go on to.
use Rattle.std.proofs.Common.{◌≡◌, ◌≢◌, ◌⊎◌, inl, inr, ℕ, zero, suc, ◌+◌, ◌<◌, ◌≤◌, Bool, true, false, if◌then◌else◌, List, [], ◌∷◌, ◌++◌, length, drop, take, get_or, set, ◌||◌, All, AllPairs, Contains, Option, Some, None, refl, sym, ap, subst, ◌∙◌, arith, ⊎_elim}
use Rattle.std.specs.declared.cmp.Ordering.{Ordering}
use Rattle.std.specs.List.{enumerate_from, filter_map, flat_map, list_any, slice_get}
use Rattle.std.proofs.lemmas.List.Folds.{list_any-append}
use Rattle.std.proofs.lemmas.Bool.{cases_lt, cases_eq, false≢true}
use Rattle.std.proofs.lemmas.List.{append_assoc, get_or-set_same, get_or-set_other, get_or_default, get_or_past, length-set, length-append, length-take-le, length_push, get_or-take, flat_map_more, take-append-drop}
use Rattle.std.proofs.lemmas.List.Elements.{All-contains, All-cons, Contains-push, Contains-push_cases, Contains-append_left, Contains-get_or, filter_map-append}
use Rattle.std.proofs.lemmas.Option.{same_Some, slice_get_within, slice_get_read}
use Rattle.osm_lattice.specs.declared.loc.Loc.{Loc}
use Rattle.osm_lattice.specs.OrderLaws.{LocationOrderTellsApart}
use Rattle.orbits.specs.Orbits.{after, IsOneToOne}
use Rattle.coast_join.specs.declared.chain.Chain.{Chain}
use Rattle.coast_join.specs.declared.closing.OpenEnds.{OpenEnds}
use Rattle.coast_join.specs.declared.gap.Gap.{Gap}
use Rattle.coast_join.specs.Closings.{gap_between, is_antarctic, is_open, near_pairs, open_ends, open_ends_at}
use Rattle.coast_join.specs.Joined.{AreNext, Leads, chains_at, locations_along, ways_of}
use Rattle.coast_join.specs.JoinSteps.{AreGapLinks, AreNextBy}
use Rattle.coast_rings.specs.Line.{IsLine}
use Rattle.coast_rings.specs.Round.{once}
use Rattle.coast_join.specs.Taken.{AreTaken}
use Rattle.coast_join.proofs.Numbering.{get_old, get_new}
use Rattle.coast_join.proofs.NearPairs.{ends_name, gap_names}
use Rattle.coast_rings.proofs.RingsKit.{once_line}
use Rattle.coast_join.proofs.Stepping.{All-filter_map, All-flat_map, filtered_more}
use Rattle.lists.proofs.ListsKit.{taken_more}

-- ---- where gaps lead

pub links_none : (n : ℕ) (links : List (Option ℕ)) → length links ≡ n → ((k : ℕ) → after links k ≡ None) → AreGapLinks [] n links
links_none n links sized none = record { sized = sized; exact = λ i j. ((λ e. let z = none i in absurd (cc)), (λ (g, c, f, t). let l = c.1 in absurd (omega arith))) }

pub links_push : (gaps : List Gap) (n : ℕ) (links : List (Option ℕ)) (g : Gap) → g.from_chain < n → All (λ (h : Gap). h.from_chain ≢ g.from_chain) gaps → AreGapLinks gaps n links → AreGapLinks (gaps ++ g ∷ []) n (set links g.from_chain (Some g.to_chain))
links_push gaps n links g inside apart are = record { sized = length-set links g.from_chain (Some g.to_chain) ∙ are.sized; exact = λ i j. (forth i j, back i j) }
  where
    forth : (i j : ℕ) → after (set links g.from_chain (Some g.to_chain)) i ≡ Some j → Leads (gaps ++ g ∷ []) i j
    forth i j e = ⊎_elim
        (λ s. let here : after (set links g.from_chain (Some g.to_chain)) i ≡ Some g.to_chain = ap (after (set links g.from_chain (Some g.to_chain))) s ∙ get_or-set_same links g.from_chain (Some g.to_chain) None (let z = are.sized in omega arith) in
        (g, Contains-push gaps g, sym s, same_Some _ _ (sym here ∙ e)))
        (λ ne. let w = (are.exact i j).0 (sym (get_or-set_other links g.from_chain i (Some g.to_chain) None ne) ∙ e) in (w.0, Contains-append_left gaps (g ∷ []) w.0 w.1, w.2, w.3))
        (cases_eq i g.from_chain)

    back : (i j : ℕ) → Leads (gaps ++ g ∷ []) i j → after (set links g.from_chain (Some g.to_chain)) i ≡ Some j
    back i j (h, c, f, t) = ⊎_elim
        (λ old. let ne : i ≢ g.from_chain = λ s. All-contains (λ (h : Gap). h.from_chain ≢ g.from_chain) gaps h apart old (f ∙ s) in
        get_or-set_other links g.from_chain i (Some g.to_chain) None ne ∙ (are.exact i j).1 (h, old, f, t))
        (λ s. let from : i ≡ g.from_chain = sym f ∙ ap (λ (x : Gap). x.from_chain) (sym s) in
        let to : g.to_chain ≡ j = ap (λ (x : Gap). x.to_chain) s ∙ t in
        ap (after (set links g.from_chain (Some g.to_chain))) from ∙ (get_or-set_same links g.from_chain (Some g.to_chain) None (let z = are.sized in omega arith) ∙ ap Some to))
        (Contains-push_cases gaps g h c)

pub links_more : (gaps : List Gap) (n i : ℕ) (links : List (Option ℕ)) (g : Gap) → i < length gaps → g ≡ get_or gaps i g → All (λ (h : Gap). h.from_chain < n) gaps → AllPairs (λ (g : Gap) (h : Gap). g.from_chain ≢ h.from_chain) gaps
    → AreGapLinks (take i gaps) n links → AreGapLinks (take (i + 1) gaps) n (set links g.from_chain (Some g.to_chain))
links_more gaps n i links g l e inside apart are =
    let here : g.from_chain < n = subst (λ (h : Gap). h.from_chain < n) (sym e) (inside i g l) in
    let long = length-take-le i gaps (omega arith) in
    let before : All (λ (h : Gap). h.from_chain ≢ g.from_chain) (take i gaps) = λ k d h. rw (get_or-take i gaps k d (omega arith)) (subst (λ (y : Gap). (get_or gaps k d).from_chain ≢ y.from_chain) (get_or_default gaps i d g l ∙ sym e) (apart k i d (omega arith) l)) in
    subst (λ (xs : List Gap). AreGapLinks xs n (set links g.from_chain (Some g.to_chain))) (sym (taken_more gaps i g l e)) (links_push (take i gaps) n links g here before are)

-- ---- what each chain goes on to

after_old : (next : List (Option ℕ)) (o : Option ℕ) (i : ℕ) → i < length next → after (next ++ o ∷ []) i ≡ after next i
after_old [] o i h = absurd (omega arith)
after_old (x ∷ next) o zero h = refl
after_old (x ∷ next) o (suc i) h = after_old next o i (omega arith)

after_new : (next : List (Option ℕ)) (o : Option ℕ) (i : ℕ) → i ≡ length next → after (next ++ o ∷ []) i ≡ o
after_new [] o zero h = refl
after_new [] o (suc i) h = absurd (omega arith)
after_new (x ∷ next) o zero h = absurd (omega arith)
after_new (x ∷ next) o (suc i) h = after_new next o i (omega arith)

pub next_none : (links : List (Option ℕ)) → AreNextBy links [] []
next_none links = record { sized = refl; each = λ i c e. absurd (cc) }

pub next_push : (links : List (Option ℕ)) (chains : List Chain) (next : List (Option ℕ)) (c : Chain) (o : Option ℕ) → o ≡ (if is_open c then after links (length chains) else Some (length chains)) → AreNextBy links chains next → AreNextBy links (chains ++ c ∷ []) (next ++ o ∷ [])
next_push links chains next c o is are = record { sized = length_push next o ∙ (ap (λ n. n + 1) are.sized ∙ sym (length_push chains c)); each = each }
  where
    each : (i : ℕ) (d : Chain) → slice_get (chains ++ c ∷ []) i ≡ Some d → after (next ++ o ∷ []) i ≡ (if is_open d then after links i else Some i)
    each i d e =
        let sized = are.sized in
        let inside = slice_get_within (chains ++ c ∷ []) i d e in
        let long = length_push chains c in
        ⊎_elim
        (λ l. after_old next o i (omega arith) ∙ are.each i d (sym (get_old chains c i l) ∙ e))
        (λ l. let last : i ≡ length chains = omega arith in
        let same : c ≡ d = same_Some c d (sym (get_new chains c i last) ∙ e) in
        after_new next o i (omega arith) ∙ (is ∙ (ap (λ m. if is_open c then after links m else Some m) (sym last) ∙ ap (λ (x : Chain). if is_open x then after links i else Some i) same)))
        (cases_lt i (length chains))

pub next_more : (links : List (Option ℕ)) (chains : List Chain) (i : ℕ) (next new : List (Option ℕ)) (c : Chain) (o : Option ℕ) → i < length chains → c ≡ get_or chains i c → o ≡ (if is_open c then after links i else Some i) → new ≡ next ++ o ∷ [] → AreNextBy links (take i chains) next → AreNextBy links (take (i + 1) chains) new
next_more links chains i next new c o l e is made are =
    let long = length-take-le i chains (omega arith) in
    let is_here : o ≡ (if is_open c then after links (length (take i chains)) else Some (length (take i chains))) = is ∙ ap (λ m. if is_open c then after links m else Some m) (sym long) in
    subst (λ (xs : List (Option ℕ)). AreNextBy links (take (i + 1) chains) xs) (sym made) (subst (λ (xs : List Chain). AreNextBy links xs (next ++ o ∷ [])) (sym (taken_more chains i c l e)) (next_push links (take i chains) next c o is_here are))

pub next_are : (gaps : List Gap) (chains : List Chain) (links next : List (Option ℕ)) → AreGapLinks gaps (length chains) links → AreNextBy links chains next → AreNext chains gaps next
next_are gaps chains links next by_gaps by_links = record {
  sized = by_links.sized;
  leads = λ i c e yes j. let is = by_links.each i c e ∙ ap (λ b. if b then after links i else Some i) yes in ((λ t. (by_gaps.exact i j).0 (sym is ∙ t)), (λ t. is ∙ (by_gaps.exact i j).1 t));
  stays = λ i c e not_so. by_links.each i c e ∙ ap (λ b. if b then after links i else Some i) not_so;
}

-- ---- the map is one to one

abbrev pub IsOpenAt : List Chain → ℕ → Type 0
IsOpenAt chains i = (c : Chain) × (slice_get chains i ≡ Some c) × (is_open c ≡ true)

All-placed : {X : Type 0} (P : ℕ × X → Type 0) (n : ℕ) (xs : List X) → ((k : ℕ) (x : X) → slice_get xs k ≡ Some x → P (n + k, x)) → All P (enumerate_from n xs)
All-placed P n [] h = λ k d l. absurd (omega arith)
All-placed {X} P n (x ∷ xs) h = All-cons P (n, x) (enumerate_from (n + 1) xs) (subst (λ m. P (m, x)) (omega arith) (h 0 x refl)) (All-placed P (n + 1) xs (λ k y e. subst (λ m. P (m, y)) (omega arith) (h (suc k) y e)))

ends_open : (place : ℕ) (c : Chain) (e : OpenEnds) → open_ends_at place c ≡ Some e → is_open c ≡ true
ends_open place c e s = by (is_open c) refl s
  where
    made : Option OpenEnds → Bool → Option OpenEnds
    made o b = o

    by : (b : Bool) → is_open c ≡ b → open_ends_at place c ≡ Some e → is_open c ≡ true
    by true t s = t
    by false t s = let none : open_ends_at place c ≡ None = rw t refl in absurd (cc)

ends_are_open : (chains : List Chain) → All (λ (e : OpenEnds). IsOpenAt chains e.chain) (open_ends chains)
ends_are_open chains = All-filter_map (λ (e : OpenEnds). IsOpenAt chains e.chain) (λ (p : ℕ × Chain). open_ends_at p.0 p.1) (enumerate_from 0 chains)
    (All-placed (λ (p : ℕ × Chain). (e : OpenEnds) → open_ends_at p.0 p.1 ≡ Some e → IsOpenAt chains e.chain) 0 chains (λ k c is e s.
    let place : k ≡ e.chain = let z : 0 + k ≡ k = omega arith in sym z ∙ sym (ends_name (0 + k) c e s) in
    (c, ap (slice_get chains) (sym place) ∙ is, ends_open (0 + k) c e s)))

pairs_are_open : (limit : ℕ) (chains : List Chain) → All (λ (g : Gap). IsOpenAt chains g.from_chain × IsOpenAt chains g.to_chain) (near_pairs limit (open_ends chains))
pairs_are_open limit chains = All-flat_map (λ (g : Gap). IsOpenAt chains g.from_chain × IsOpenAt chains g.to_chain) (λ f. filter_map (gap_between limit f) (open_ends chains)) (open_ends chains) (λ k d h.
    All-filter_map (λ (g : Gap). IsOpenAt chains g.from_chain × IsOpenAt chains g.to_chain) (gap_between limit (get_or (open_ends chains) k d)) (open_ends chains) (λ j e l g s.
    let is = gap_names limit (get_or (open_ends chains) k d) (get_or (open_ends chains) j e) g s in
    (subst (IsOpenAt chains) (sym is.0) (ends_are_open chains k d h), subst (IsOpenAt chains) (sym is.1) (ends_are_open chains j e l))))

module _ (cmp : Gap → Gap → Ordering) (limit : ℕ) (chains : List Chain) (gaps : List Gap) (are : AreTaken cmp (near_pairs limit (open_ends chains)) gaps) where
  gap_open : (g : Gap) → Contains gaps g → IsOpenAt chains g.from_chain × IsOpenAt chains g.to_chain
  gap_open g c = All-contains (λ (g : Gap). IsOpenAt chains g.from_chain × IsOpenAt chains g.to_chain) (near_pairs limit (open_ends chains)) g (pairs_are_open limit chains) ((are.exact g).0 c).0

  touch : (i j : ℕ) (d : Gap) → i < j → j < length gaps → ((get_or gaps i d).from_chain ≢ (get_or gaps j d).from_chain) × ((get_or gaps i d).to_chain ≢ (get_or gaps j d).to_chain)
  touch i j d h l =
      let free = ((are.exact (get_or gaps j d)).0 (Contains-get_or gaps j d l)).1 in
      free i d (omega arith) (are.rising i j d h l)

  pub gaps_from : All (λ (g : Gap). g.from_chain < length chains) gaps
  gaps_from k d h = let o = (gap_open (get_or gaps k d) (Contains-get_or gaps k d h)).0 in slice_get_within chains (get_or gaps k d).from_chain o.0 o.1

  pub gaps_apart : AllPairs (λ (g : Gap) (h : Gap). g.from_chain ≢ h.from_chain) gaps
  gaps_apart i j d h l = (touch i j d h l).0

  one_start : (g h : Gap) → Contains gaps g → Contains gaps h → g.to_chain ≡ h.to_chain → g.from_chain ≡ h.from_chain
  one_start g h (i, l, e) (j, m, d) s = ⊎_elim
      (λ less. absurd ((touch i j g less m).1 (ap (λ (x : Gap). x.to_chain) e ∙ (s ∙ ap (λ (x : Gap). x.to_chain) (sym (get_or_default gaps j g h m ∙ d))))))
      (λ rest. ⊎_elim
      (λ more. absurd ((touch j i g more l).1 (ap (λ (x : Gap). x.to_chain) (get_or_default gaps j g h m ∙ d) ∙ (sym s ∙ ap (λ (x : Gap). x.to_chain) (sym e)))))
      (λ rest_2. let same : i ≡ j = omega arith in ap (λ (x : Gap). x.from_chain) (sym e ∙ (ap (λ k. get_or gaps k g) same ∙ (get_or_default gaps j g h m ∙ d))))
      (cases_lt j i))
      (cases_lt i j)

  pub next_one : (next : List (Option ℕ)) → AreNext chains gaps next → IsOneToOne next
  next_one next is = record { within = within; one = one }
    where
      some_chain : (i j : ℕ) → after next i ≡ Some j → (c : Chain) × (slice_get chains i ≡ Some c)
      some_chain i j e = ⊎_elim
          (λ l. find chains i (let n = is.sized in omega arith))
          (λ l. let none : after next i ≡ None = get_or_past next i None l in absurd (cc))
          (cases_lt i (length next))
        where
          find : (cs : List Chain) (k : ℕ) → k < length cs → (c : Chain) × (slice_get cs k ≡ Some c)
          find [] k h = absurd (omega arith)
          find (c ∷ cs) zero h = (c, refl)
          find (c ∷ cs) (suc k) h = find cs k (omega arith)

      goes : (i j : ℕ) → after next i ≡ Some j → (IsOpenAt chains j × Leads gaps i j) ⊎ ((j ≡ i) × ((c : Chain) → slice_get chains i ≡ Some c → is_open c ≡ false))
      goes i j e =
          let c = some_chain i j e in by c.0 c.1 (is_open c.0) refl
        where
          by : (c : Chain) → slice_get chains i ≡ Some c → (b : Bool) → is_open c ≡ b → (IsOpenAt chains j × Leads gaps i j) ⊎ ((j ≡ i) × ((c : Chain) → slice_get chains i ≡ Some c → is_open c ≡ false))
          by c at true t = let w = (is.leads i c at t j).0 e in inl (subst (IsOpenAt chains) w.3 (gap_open w.0 w.1).1, w)
          by c at false t = inr (same_Some j i (sym e ∙ is.stays i c at t), λ d s. subst (λ (x : Chain). is_open x ≡ false) (same_Some c d (sym at ∙ s)) t)

      within : (i j : ℕ) → after next i ≡ Some j → j < length next
      within i j e =
          let n = is.sized in
          let c = some_chain i j e in
          let inside = slice_get_within chains i c.0 c.1 in
          ⊎_elim (λ w. let l = slice_get_within chains j w.0.0 w.0.1 in omega arith) (λ w. let s = w.0 in omega arith) (goes i j e)

      clash : (i j k : ℕ) → IsOpenAt chains j → j ≡ k → ((c : Chain) → slice_get chains k ≡ Some c → is_open c ≡ false) → ⊥
      clash i j k o s no_open = false≢true (sym (no_open o.0 (ap (slice_get chains) (sym s) ∙ o.1)) ∙ o.2)

      one : (i k j : ℕ) → after next i ≡ Some j → after next k ≡ Some j → i ≡ k
      one i k j e d = ⊎_elim
          (λ a. ⊎_elim (λ b. sym a.1.2 ∙ (one_start a.1.0 b.1.0 a.1.1 b.1.1 (a.1.3 ∙ sym b.1.3) ∙ b.1.2)) (λ b. absurd (clash i j k a.0 b.0 b.1)) (goes k j d))
          (λ a. ⊎_elim (λ b. absurd (clash k j i b.0 a.0 a.1)) (λ b. sym a.0 ∙ b.0) (goes k j d))
          (goes i j e)

-- ---- chains at places

pub some_at : (chains : List Chain) (places : List ℕ) → 0 < length places → All (λ k. k < length chains) places → (c : Chain) × (rest : List Chain) × (chains_at chains places ≡ c ∷ rest)
some_at chains [] h inside = absurd (omega arith)
some_at chains (k ∷ ks) h inside = by (slice_get chains k) refl
  where
    by : (o : Option Chain) → slice_get chains k ≡ o → (c : Chain) × (rest : List Chain) × (chains_at chains (k ∷ ks) ≡ c ∷ rest)
    by (Some c) e = (c, chains_at chains ks, rw e refl)
    by None e = absurd (gone chains k (inside 0 0 (omega arith)) e)
      where
        gone : (cs : List Chain) (k : ℕ) → k < length cs → slice_get cs k ≡ None → ⊥
        gone [] k h e = absurd (omega arith)
        gone (c ∷ cs) zero h e = absurd (cc)
        gone (c ∷ cs) (suc k) h e = gone cs k (omega arith) e

pub line_once : LocationOrderTellsApart → (p rest : List Loc) → IsLine p → IsLine (once (p ++ rest))
line_once exact [] rest line = let l = line.long in absurd (omega arith)
line_once exact (a ∷ []) rest line = let l = line.long in absurd (omega arith)
line_once exact (a ∷ (b ∷ q)) rest line = once_line exact a b (q ++ rest) (λ s. line.differ 0 a refl (ap Some (sym s)))

pub chained : {A : Type 0} (h : Chain → List A) (chains : List Chain) (places : List ℕ) (i : ℕ) (c : Chain) (now new : List A) → i < length places → get_or places i 0 < length chains → c ≡ get_or chains (get_or places i 0) c → now ≡ flat_map h (chains_at chains (take i places)) → new ≡ now ++ h c → new ≡ flat_map h (chains_at chains (take (i + 1) places))
chained {A} h chains places i c now new l inside e was is =
    let k = get_or places i 0 in
    let at : slice_get chains k ≡ Some c = slice_get_read chains (length chains) k c refl inside e in
    let more : chains_at chains (take (i + 1) places) ≡ chains_at chains (take i places) ++ c ∷ [] = filtered_more (slice_get chains) places i k (Some c) l (get_or_default places i 0 k l) at in
    is ∙ (ap (λ (xs : List A). xs ++ h c) was ∙ (flat_map_more h [] (chains_at chains (take i places)) c ∙ ap (flat_map h) (sym more)))

pub ways_some : (chains : List Chain) (places : List ℕ) → 0 < length places → All (λ k. k < length chains) places → 0 < length (ways_of (chains_at chains places))
ways_some chains places h inside =
    let s = some_at chains places h inside in
    let c : Chain = s.0 in
    let some = c.some in
    let both = length-append c.ways (ways_of s.1) in
    let same = ap (λ (cs : List Chain). length (ways_of cs)) s.2 in
    omega arith

pub line_of_chains : LocationOrderTellsApart → (chains : List Chain) (places : List ℕ) (more : List Loc) → 0 < length places → All (λ k. k < length chains) places → IsLine (once (locations_along (chains_at chains places) ++ more))
line_of_chains exact chains places more h inside =
    let s = some_at chains places h inside in
    let c : Chain = s.0 in
    let same : locations_along (chains_at chains places) ++ more ≡ c.path ++ (locations_along s.1 ++ more) = ap (λ (cs : List Chain). locations_along cs ++ more) s.2 ∙ append_assoc c.path (locations_along s.1) more in
    subst (λ (xs : List Loc). IsLine (once xs)) (sym same) (line_once exact c.path (locations_along s.1 ++ more) c.line)

pub any_more : (chains : List Chain) (places : List ℕ) (i : ℕ) (c : Chain) → i < length places → get_or places i 0 < length chains → c ≡ get_or chains (get_or places i 0) c → (b : Bool) → is_antarctic c ≡ b → list_any is_antarctic (chains_at chains (take i places)) ≡ false → list_any is_antarctic (chains_at chains (take (i + 1) places)) ≡ b
any_more chains places i c l inside e b is none =
    let k = get_or places i 0 in
    let at : slice_get chains k ≡ Some c = slice_get_read chains (length chains) k c refl inside e in
    let more : chains_at chains (take (i + 1) places) ≡ chains_at chains (take i places) ++ c ∷ [] = filtered_more (slice_get chains) places i k (Some c) l (get_or_default places i 0 k l) at in
    ap (list_any is_antarctic) more ∙ (list_any-append is_antarctic (chains_at chains (take i places)) (c ∷ []) ∙ (ap (λ d. d || (is_antarctic c || false)) none ∙ (or_false (is_antarctic c) ∙ is)))
  where
    or_false : (d : Bool) → (d || false) ≡ d
    or_false true = refl
    or_false false = refl

pub any_front : (chains : List Chain) (places : List ℕ) (i : ℕ) → i ≤ length places → list_any is_antarctic (chains_at chains (take i places)) ≡ true → list_any is_antarctic (chains_at chains places) ≡ true
any_front chains places i l h =
    let split : chains_at chains places ≡ chains_at chains (take i places) ++ chains_at chains (drop i places) = ap (chains_at chains) (sym (take-append-drop i places)) ∙ filter_map-append (slice_get chains) (take i places) (drop i places) in
    ap (list_any is_antarctic) split ∙ (list_any-append is_antarctic (chains_at chains (take i places)) (chains_at chains (drop i places)) ∙ ap (λ b. b || list_any is_antarctic (chains_at chains (drop i places))) h)
