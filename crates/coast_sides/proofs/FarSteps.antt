-- Of n locations round: what lies between two steps, and the farthest step on either side.
use Rattle.std.proofs.Common.{◌≡◌, ◌⊎◌, inl, inr, ⊎_elim, ℕ, ◌+◌, ◌-◌, ◌*◌, ◌/◌, ◌<◌, ◌≤◌, ◌&&◌, ◌||◌, Bool, true, false, if◌then◌else◌, Contains, List, refl, sym, ◌∙◌, arith}
use Rattle.std.specs.Prelude.{nat_le, nat_lt}
use Rattle.std.proofs.lemmas.Bool.{and_from, and_parts, cases_lt, cond-false, cond-true, le-leb, le-ltb, leb-false, leb-true, lt-leb, lt-ltb, ltb-true, or_cases, or_left, or_right}
use Rattle.coast_sides.specs.declared.steps_along.StepAlong.{StepAlong}
use Rattle.coast_sides.specs.Shortcuts.{is_among_fewer}
use Rattle.coast_sides.specs.ShortcutSteps.{IsFarthest, IsFirstPlaceFrom, IsLastPlaceUpTo, IsShorter, ahead, is_on_stretch, lies_between, place_before}

-- ---- tests as facts

-- the k-th is among so many behind a step
abbrev pub LiesWithin : ℕ → ℕ → ℕ → ℕ → Type 0
LiesWithin n from count k = ((from < k) × (k ≤ from + count)) ⊎ ((k ≤ from) × (k + n ≤ from + count))

pub within_out : (n from count k : ℕ) → is_on_stretch n from count k ≡ true → LiesWithin n from count k
within_out n from count k e = by (or_cases (nat_lt from k && nat_le k (from + count)) (nat_le k from && nat_le (k + n) (from + count)) e)
  where
    by : ((nat_lt from k && nat_le k (from + count)) ≡ true) ⊎ ((nat_le k from && nat_le (k + n) (from + count)) ≡ true) → LiesWithin n from count k
    by (inl h) = let p = and_parts (nat_lt from k) (nat_le k (from + count)) h in inl (ltb-true from k p.0, leb-true k (from + count) p.1)
    by (inr h) = let p = and_parts (nat_le k from) (nat_le (k + n) (from + count)) h in inr (leb-true k from p.0, leb-true (k + n) (from + count) p.1)

pub within_in : (n from count k : ℕ) → LiesWithin n from count k → is_on_stretch n from count k ≡ true
within_in n from count k (inl h) = or_left (nat_lt from k && nat_le k (from + count)) (nat_le k from && nat_le (k + n) (from + count)) (and_from (nat_lt from k) (nat_le k (from + count)) (lt-ltb from k h.0) (le-leb k (from + count) h.1))
within_in n from count k (inr h) = or_right (nat_lt from k && nat_le k (from + count)) (nat_le k from && nat_le (k + n) (from + count)) (and_from (nat_le k from) (nat_le (k + n) (from + count)) (le-leb k from h.0) (le-leb (k + n) (from + count) h.1))

-- the k-th is among the fewer between the i-th step and the j-th
abbrev AreFewer : ℕ → ℕ → ℕ → ℕ → Type 0
AreFewer n i j k = (((j - i) ≤ (n - (j - i))) × (i < k) × (k ≤ j)) ⊎ (((n - (j - i)) < (j - i)) × ((k ≤ i) ⊎ (j < k)))

fewer_out : (n i j k : ℕ) → is_among_fewer n i j k ≡ true → AreFewer n i j k
fewer_out n i j k = by (nat_le (j - i) (n - (j - i))) refl
  where
    by : (b : Bool) → nat_le (j - i) (n - (j - i)) ≡ b → (if b then nat_lt i k && nat_le k j else nat_le k i || nat_lt j k) ≡ true → AreFewer n i j k
    by true h e = let p = and_parts (nat_lt i k) (nat_le k j) e in inl (leb-true (j - i) (n - (j - i)) h, ltb-true i k p.0, leb-true k j p.1)
    by false h e = inr (leb-false (j - i) (n - (j - i)) h, ⊎_elim (λ p. inl (leb-true k i p)) (λ p. inr (ltb-true j k p)) (or_cases (nat_le k i) (nat_lt j k) e))

fewer_in : (n i j k : ℕ) → AreFewer n i j k → is_among_fewer n i j k ≡ true
fewer_in n i j k (inl h) = cond-true (nat_le (j - i) (n - (j - i))) (nat_lt i k && nat_le k j) (nat_le k i || nat_lt j k) (le-leb (j - i) (n - (j - i)) h.0) ∙ and_from (nat_lt i k) (nat_le k j) (lt-ltb i k h.1) (le-leb k j h.2)
fewer_in n i j k (inr h) = cond-false (nat_le (j - i) (n - (j - i))) (nat_lt i k && nat_le k j) (nat_le k i || nat_lt j k) (lt-leb (j - i) (n - (j - i)) h.0) ∙ by h.1
  where
    by : (k ≤ i) ⊎ (j < k) → (nat_le k i || nat_lt j k) ≡ true
    by (inl p) = or_left (nat_le k i) (nat_lt j k) (le-leb k i p)
    by (inr p) = or_right (nat_le k i) (nat_lt j k) (lt-ltb j k p)

-- ---- how far ahead

ahead_up : (n a b : ℕ) → a < b → ahead n a b ≡ b - a
ahead_up n a b h = cond-true (nat_lt a b) (b - a) (b + n - a) (lt-ltb a b h)

ahead_round : (n a b : ℕ) → b ≤ a → ahead n a b ≡ b + n - a
ahead_round n a b h = cond-false (nat_lt a b) (b - a) (b + n - a) (le-ltb a b h)

before_up : (n at count : ℕ) → count ≤ at → place_before n at count ≡ at - count
before_up n at count h = cond-true (nat_le count at) (at - count) (at + n - count) (le-leb count at h)

before_round : (n at count : ℕ) → at < count → place_before n at count ≡ at + n - count
before_round n at count h = cond-false (nat_le count at) (at - count) (at + n - count) (lt-leb count at h)

pub wider : (n from c d k : ℕ) → c ≤ d → LiesWithin n from c k → LiesWithin n from d k
wider n from c d k h (inl w) = inl (w.0, omega (arith, w.1))
wider n from c d k h (inr w) = inr (w.0, omega (arith, w.1))

-- ---- what lies between two steps is behind one of them

-- it lies on the shorter way from a to b
abbrev pub LiesAhead : ℕ → ℕ → ℕ → ℕ → Type 0
LiesAhead n a b k = IsShorter n a b × LiesWithin n a (ahead n a b) k

fewer_ahead : (n a b k : ℕ) → a < b → b < n → k < n → AreFewer n a b k → LiesAhead n a b k ⊎ LiesAhead n b a k
fewer_ahead n a b k h in' m (inl f) =
    let up = ahead_up n a b h in
    let short = f.0 in
    let some = f.1 in
    let most = f.2 in
    inl (inl (h, omega arith), inl (some, omega arith))
fewer_ahead n a b k h in' m (inr f) = inr (inr (h, omega (arith, f.0)), by f.1)
  where
    by : (k ≤ a) ⊎ (b < k) → LiesWithin n b (ahead n b a) k
    by (inl p) = let round = ahead_round n b a (omega arith) in inr (omega arith, omega arith)
    by (inr p) = let round = ahead_round n b a (omega arith) in inl (p, omega arith)

ahead_fewer : (n a b k : ℕ) → a < n → b < n → k < n → LiesAhead n a b k → ((a < b) × AreFewer n a b k) ⊎ ((b < a) × AreFewer n b a k)
ahead_fewer n a b k ha hb m (inl h, inl w) =
    let up = ahead_up n a b h.0 in
    let less = h.0 in
    let short = h.1 in
    let most = w.1 in
    inl (less, inl (omega arith, w.0, omega arith))
ahead_fewer n a b k ha hb m (inl h, inr w) =
    let up = ahead_up n a b h.0 in
    let less = h.0 in
    let most = w.1 in
    absurd (omega arith)
ahead_fewer n a b k ha hb m (inr h, inl w) =
    let less = h.0 in
    let short = h.1 in
    inr (less, inr (omega arith, inr w.0))
ahead_fewer n a b k ha hb m (inr h, inr w) =
    let round = ahead_round n a b (omega (arith, h.0)) in
    let less = h.0 in
    let short = h.1 in
    let most = w.1 in
    inr (less, inr (omega arith, inl (omega arith)))

either_way : (n a b k : ℕ) → ((a < b) × AreFewer n a b k) ⊎ ((b < a) × AreFewer n b a k) → lies_between n a b k ≡ true
either_way n a b k (inl f) = or_left (nat_lt a b && is_among_fewer n a b k) (nat_lt b a && is_among_fewer n b a k) (and_from (nat_lt a b) (is_among_fewer n a b k) (lt-ltb a b f.0) (fewer_in n a b k f.1))
either_way n a b k (inr f) = or_right (nat_lt a b && is_among_fewer n a b k) (nat_lt b a && is_among_fewer n b a k) (and_from (nat_lt b a) (is_among_fewer n b a k) (lt-ltb b a f.0) (fewer_in n b a k f.1))

swapped : {A B : Type 0} → A ⊎ B → B ⊎ A
swapped (inl a) = inr a
swapped (inr b) = inl b

pub between_in : (n a b k : ℕ) → a < n → b < n → k < n → LiesAhead n a b k ⊎ LiesAhead n b a k → lies_between n a b k ≡ true
between_in n a b k ha hb m (inl f) = either_way n a b k (ahead_fewer n a b k ha hb m f)
between_in n a b k ha hb m (inr f) = either_way n a b k (swapped (ahead_fewer n b a k hb ha m f))

pub between_out : (n a b k : ℕ) → a < n → b < n → k < n → lies_between n a b k ≡ true → LiesAhead n a b k ⊎ LiesAhead n b a k
between_out n a b k ha hb m e = by (or_cases (nat_lt a b && is_among_fewer n a b k) (nat_lt b a && is_among_fewer n b a k) e)
  where
    by : ((nat_lt a b && is_among_fewer n a b k) ≡ true) ⊎ ((nat_lt b a && is_among_fewer n b a k) ≡ true) → LiesAhead n a b k ⊎ LiesAhead n b a k
    by (inl h) = let p = and_parts (nat_lt a b) (is_among_fewer n a b k) h in fewer_ahead n a b k (ltb-true a b p.0) hb m (fewer_out n a b k p.1)
    by (inr h) = let p = and_parts (nat_lt b a) (is_among_fewer n b a k) h in swapped (fewer_ahead n b a k (ltb-true b a p.0) ha m (fewer_out n b a k p.1))

-- ---- the farthest ahead

module _ (n a : ℕ) (others : List StepAlong) (in_a : a < n) where
  -- no step before a is ahead of it by the shorter way
  abbrev pub NoneAheadRound : Type 0
  NoneAheadRound = (t : StepAlong) → Contains others t → IsShorter n a t.place → a < t.place

  abbrev pub IsFarthestAhead : ℕ → Type 0
  IsFarthestAhead far = IsFarthest (IsShorter n a) (ahead n a) others far

  pub none_round : (limit : ℕ) → limit ≡ a + (n - 1) / 2 → limit < n → NoneAheadRound
  none_round limit e h t c (inl s) = s.0
  none_round limit e h t c (inr s) = let less = s.0 in let short = s.1 in absurd (omega arith)

  pub none_up_to : (limit : ℕ) → limit ≡ a + (n - 1) / 2 → n ≤ limit → ((t : StepAlong) → Contains others t → limit - n < t.place) → NoneAheadRound
  none_up_to limit e h none t c (inl s) = s.0
  none_up_to limit e h none t c (inr s) = let less = s.0 in let short = s.1 in let past = none t c in absurd (omega arith)

  pub far_round : (limit place far : ℕ) → limit ≡ a + (n - 1) / 2 → n ≤ limit → IsLastPlaceUpTo others (limit - n) place → far ≡ place + n - a → ((t : StepAlong) → Contains others t → t.place < n) → IsFarthestAhead far
  far_round limit place far e h last is inside = record { none_farther = farther; is = inr (last.step, last.there, inr (less, short), there) }
    where
      at : last.step.place ≡ place
      at = last.is

      less : last.step.place < a
      less = let up_to = last.up_to in omega (arith, at)

      short : n < 2 * (a - last.step.place)
      short = let up_to = last.up_to in omega (arith, at)

      there : ahead n a last.step.place ≡ far
      there = ahead_round n a last.step.place (omega (arith, less)) ∙ omega (arith, at)

      farther : (t : StepAlong) → Contains others t → IsShorter n a t.place → ahead n a t.place ≤ far
      farther t c (inl s) = let up = ahead_up n a t.place s.0 in let i = inside t c in let less = s.0 in omega arith
      farther t c (inr s) =
          let round = ahead_round n a t.place (omega (arith, s.0)) in
          let less = s.0 in
          let short = s.1 in
          let past = last.last t c (omega arith) in
          omega arith

  pub far_up : (limit place far : ℕ) → NoneAheadRound → limit ≡ a + n / 2 → IsLastPlaceUpTo others limit place → a < place → far ≡ place - a → IsFarthestAhead far
  far_up limit place far none e last h is = record { none_farther = farther; is = inr (last.step, last.there, inl (omega (arith, at), short), there) }
    where
      at : last.step.place ≡ place
      at = last.is

      short : 2 * (last.step.place - a) ≤ n
      short = let up_to = last.up_to in omega (arith, at)

      there : ahead n a last.step.place ≡ far
      there = ahead_up n a last.step.place (omega (arith, at)) ∙ omega (arith, at)

      farther : (t : StepAlong) → Contains others t → IsShorter n a t.place → ahead n a t.place ≤ far
      farther t c (inl s) =
          let up = ahead_up n a t.place s.0 in
          let less = s.0 in
          let short = s.1 in
          let past = last.last t c (omega arith) in
          omega arith
      farther t c (inr s) = let less = s.0 in let other = none t c (inr s) in absurd (omega arith)

  pub none_ahead : (limit : ℕ) → NoneAheadRound → limit ≡ a + n / 2 → ((t : StepAlong) → Contains others t → t.place ≤ limit → t.place ≤ a) → IsFarthestAhead 0
  none_ahead limit none e past = record { none_farther = farther; is = inl refl }
    where
      farther : (t : StepAlong) → Contains others t → IsShorter n a t.place → ahead n a t.place ≤ 0
      farther t c (inl s) =
          let less = s.0 in
          let short = s.1 in
          let no = past t c (omega arith) in
          absurd (omega arith)
      farther t c (inr s) = let less = s.0 in let other = none t c (inr s) in absurd (omega arith)

-- ---- the farthest behind

module _ (n a : ℕ) (others : List StepAlong) (in_a : a < n) where
  -- no step after a is behind it by the shorter way
  abbrev pub NoneBehindRound : Type 0
  NoneBehindRound = (t : StepAlong) → Contains others t → IsShorter n t.place a → t.place < a

  abbrev pub IsFarthestBehind : ℕ → Type 0
  IsFarthestBehind far = IsFarthest (λ place. IsShorter n place a) (λ place. ahead n place a) others far

  pub none_from : (limit : ℕ) → limit ≡ a + n - (n - 1) / 2 → ((t : StepAlong) → Contains others t → t.place < limit) → NoneBehindRound
  none_from limit e none t c (inl s) = s.0
  none_from limit e none t c (inr s) = let less = s.0 in let short = s.1 in let past = none t c in absurd (omega arith)

  pub far_back_round : (limit place far : ℕ) → limit ≡ a + n - (n - 1) / 2 → IsFirstPlaceFrom others limit place → far ≡ a + n - place → ((t : StepAlong) → Contains others t → t.place < n) → IsFarthestBehind far
  far_back_round limit place far e first is inside = record { none_farther = farther; is = inr (first.step, first.there, inr (less, short), there) }
    where
      at : first.step.place ≡ place
      at = first.is

      less : a < first.step.place
      less = let from = first.from in omega (arith, at)

      short : n < 2 * (first.step.place - a)
      short = let from = first.from in omega (arith, at)

      there : ahead n first.step.place a ≡ far
      there = ahead_round n first.step.place a (omega (arith, less)) ∙ omega (arith, at)

      farther : (t : StepAlong) → Contains others t → IsShorter n t.place a → ahead n t.place a ≤ far
      farther t c (inl s) = let up = ahead_up n t.place a s.0 in let i = inside first.step first.there in let less = s.0 in omega (arith, at)
      farther t c (inr s) =
          let round = ahead_round n t.place a (omega (arith, s.0)) in
          let less = s.0 in
          let short = s.1 in
          let past = first.first t c (omega arith) in
          omega arith

  pub far_back : (limit place far : ℕ) → NoneBehindRound → limit ≡ a - n / 2 → IsFirstPlaceFrom others limit place → place < a → far ≡ a - place → IsFarthestBehind far
  far_back limit place far none e first h is = record { none_farther = farther; is = inr (first.step, first.there, inl (omega (arith, at), short), there) }
    where
      at : first.step.place ≡ place
      at = first.is

      short : 2 * (a - first.step.place) ≤ n
      short = let from = first.from in omega (arith, at)

      there : ahead n first.step.place a ≡ far
      there = ahead_up n first.step.place a (omega (arith, at)) ∙ omega (arith, at)

      farther : (t : StepAlong) → Contains others t → IsShorter n t.place a → ahead n t.place a ≤ far
      farther t c (inl s) =
          let up = ahead_up n t.place a s.0 in
          let less = s.0 in
          let short = s.1 in
          let past = first.first t c (omega arith) in
          omega arith
      farther t c (inr s) = let less = s.0 in let other = none t c (inr s) in absurd (omega arith)

  pub none_behind : (limit : ℕ) → NoneBehindRound → limit ≡ a - n / 2 → ((t : StepAlong) → Contains others t → limit ≤ t.place → a ≤ t.place) → IsFarthestBehind 0
  none_behind limit none e past = record { none_farther = farther; is = inl refl }
    where
      farther : (t : StepAlong) → Contains others t → IsShorter n t.place a → ahead n t.place a ≤ 0
      farther t c (inl s) =
          let less = s.0 in
          let short = s.1 in
          let no = past t c (omega arith) in
          absurd (omega arith)
      farther t c (inr s) = let less = s.0 in let other = none t c (inr s) in absurd (omega arith)

-- ---- what the farthest reach

far_below : (n a b : ℕ) → a < n → b < n → IsShorter n a b → ahead n a b < n
far_below n a b ha hb (inl s) = let up = ahead_up n a b s.0 in let less = s.0 in omega arith
far_below n a b ha hb (inr s) = let round = ahead_round n a b (omega (arith, s.0)) in let less = s.0 in omega arith

module _ (n a k : ℕ) (others : List StepAlong) (in_a : a < n) (in_k : k < n) (inside : (t : StepAlong) → Contains others t → t.place < n) where
  -- a step to which, or from which, the k-th lies by the shorter way
  pub record Beside : Type 0 where
    pub step : StepAlong
    pub there : Contains others step
    pub lies : LiesAhead n a step.place k ⊎ LiesAhead n step.place a k

  pub ahead_found : (far : ℕ) → IsFarthestAhead n a others in_a far → LiesWithin n a far k → Beside
  ahead_found far f = by f.is
    where
      by : (far ≡ 0) ⊎ ((t : StepAlong) × Contains others t × IsShorter n a t.place × (ahead n a t.place ≡ far)) → LiesWithin n a far k → Beside
      by (inl none) (inl w) = let some = w.0 in let most = w.1 in absurd (omega arith)
      by (inl none) (inr w) = let most = w.1 in absurd (omega arith)
      by (inr r) w = record { step = r.0; there = r.1; lies = inl (r.2, wider n a far (ahead n a r.0.place) k (omega (arith, r.3)) w) }

  pub ahead_reached : (far : ℕ) → IsFarthestAhead n a others in_a far → (t : StepAlong) → Contains others t → LiesAhead n a t.place k → LiesWithin n a far k
  ahead_reached far f t c l = wider n a (ahead n a t.place) far k (f.none_farther t c l.0) l.1

  back_to : (far : ℕ) (b : ℕ) → b < n → IsShorter n b a → ahead n b a ≡ far → place_before n a far ≡ b
  back_to far b hb (inl s) e = let less = s.0 in let up = ahead_up n b a less in let to = before_up n a far (omega arith) in omega arith
  back_to far b hb (inr s) e = let less = s.0 in let round = ahead_round n b a (omega arith) in let to = before_round n a far (omega arith) in omega arith

  pub behind_found : (far from : ℕ) → IsFarthestBehind n a others in_a far → from ≡ place_before n a far → LiesWithin n from far k → Beside
  behind_found far from f e = by f.is
    where
      by : (far ≡ 0) ⊎ ((t : StepAlong) × Contains others t × IsShorter n t.place a × (ahead n t.place a ≡ far)) → LiesWithin n from far k → Beside
      by (inl none) (inl w) = let some = w.0 in let most = w.1 in absurd (omega arith)
      by (inl none) (inr w) = let less = w.0 in let most = w.1 in let at = before_up n a far (omega arith) in absurd (omega arith)
      by (inr r) w =
          let at = back_to far r.0.place (inside r.0 r.1) r.2 r.3 in
          record { step = r.0; there = r.1; lies = inr (r.2, moved from r.0.place far (ahead n r.0.place a) (e ∙ at) (sym r.3) w) }
        where
          moved : (f g c d : ℕ) → f ≡ g → c ≡ d → LiesWithin n f c k → LiesWithin n g d k
          moved f g c d p q (inl w) = let some = w.0 in let most = w.1 in inl (omega arith, omega arith)
          moved f g c d p q (inr w) = let some = w.0 in let most = w.1 in inr (omega arith, omega arith)

  -- from b, so many behind a, to a; and from the place far behind a
  behind_wider : (b count far from : ℕ) → b < n → far < n → count ≤ far → ((b < a) × (b + count ≡ a)) ⊎ ((a < b) × (b + count ≡ a + n)) → ((far ≤ a) × (from + far ≡ a)) ⊎ ((a < far) × (from + far ≡ a + n)) → LiesWithin n b count k → LiesWithin n from far k
  behind_wider b count far from l h m (inl p) (inl q) (inl w) = let p1 = p.1 in let q1 = q.1 in let w0 = w.0 in let w1 = w.1 in inl (omega arith, omega arith)
  behind_wider b count far from l h m (inl p) (inl q) (inr w) = let p1 = p.1 in let w1 = w.1 in absurd (omega arith)
  behind_wider b count far from l h m (inl p) (inr q) (inl w) = let p1 = p.1 in let q1 = q.1 in let w0 = w.0 in let w1 = w.1 in inr (omega arith, omega arith)
  behind_wider b count far from l h m (inl p) (inr q) (inr w) = let p1 = p.1 in let w1 = w.1 in absurd (omega arith)
  behind_wider b count far from l h m (inr p) (inl q) w = let p0 = p.0 in let p1 = p.1 in let q0 = q.0 in absurd (omega arith)
  behind_wider b count far from l h m (inr p) (inr q) (inl w) = let p1 = p.1 in let q1 = q.1 in let w0 = w.0 in let w1 = w.1 in inl (omega arith, omega arith)
  behind_wider b count far from l h m (inr p) (inr q) (inr w) = let p1 = p.1 in let q1 = q.1 in let w0 = w.0 in let w1 = w.1 in inr (omega arith, omega arith)

  pub behind_below : (far : ℕ) → IsFarthestBehind n a others in_a far → far < n
  behind_below far f = by f.is
    where
      by : (far ≡ 0) ⊎ ((t : StepAlong) × Contains others t × IsShorter n t.place a × (ahead n t.place a ≡ far)) → far < n
      by (inl none) = omega arith
      by (inr r) = let below = far_below n r.0.place a (inside r.0 r.1) in_a r.2 in omega (arith, r.3)

  pub behind_reached : (far from : ℕ) → IsFarthestBehind n a others in_a far → from ≡ place_before n a far → (t : StepAlong) → Contains others t → LiesAhead n t.place a k → LiesWithin n from far k
  behind_reached far from f e t c l = behind_wider t.place (ahead n t.place a) far from (inside t c) (behind_below far f) (f.none_farther t c l.0) (counts l.0) (at (cases_lt a far)) l.1
    where
      counts : IsShorter n t.place a → ((t.place < a) × (t.place + ahead n t.place a ≡ a)) ⊎ ((a < t.place) × (t.place + ahead n t.place a ≡ a + n))
      counts (inl s) = let less = s.0 in let up = ahead_up n t.place a less in inl (less, omega arith)
      counts (inr s) = let less = s.0 in let i = inside t c in let round = ahead_round n t.place a (omega arith) in inr (less, omega arith)

      at : (a < far) ⊎ (far ≤ a) → ((far ≤ a) × (from + far ≡ a)) ⊎ ((a < far) × (from + far ≡ a + n))
      at (inl h) = let b = before_round n a far h in let below = behind_below far f in inr (h, omega arith)
      at (inr h) = let b = before_up n a far h in inl (h, omega arith)
