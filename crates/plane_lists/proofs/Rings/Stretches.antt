-- Cyclic lists, and what is left when a stretch is cut out.
use Rattle.std.proofs.Common.{Bool, List, [], ap, inl, inr, refl, subst, sym, ◌++◌, ◌∙◌, ◌∷◌, ◌≡◌, ◌⊎◌}
use Rattle.plane_lists.specs.Rings.Walk.{Follow, IsCycle, last}
use Rattle.lists.specs.Member.{In}
use Rattle.lists.proofs.ListsKit.{in-either, in-left, in-right}

pub append-nil : {X : Type 0} (xs : List X) → xs ++ [] ≡ xs
append-nil [] = refl
append-nil (x ∷ xs) = ap (λ l. x ∷ l) (append-nil xs)

pub last-append : {X : Type 0} (z : X) (xs ys : List X) → last z (xs ++ ys) ≡ last (last z xs) ys
last-append z [] ys = refl
last-append z (x ∷ xs) ys = last-append x xs ys

pub follow-left : {X : Type 0} (T : X → X → Type 0) (z : X) (xs ys : List X) → Follow T z (xs ++ ys) → Follow T z xs
follow-left T z [] ys h = tt
follow-left T z (x ∷ xs) ys h = (h.0, follow-left T x xs ys h.1)

pub follow-right : {X : Type 0} (T : X → X → Type 0) (z : X) (xs ys : List X) → Follow T z (xs ++ ys) → Follow T (last z xs) ys
follow-right T z [] ys h = h
follow-right T z (x ∷ xs) ys h = follow-right T x xs ys h.1

pub follow-join : {X : Type 0} (T : X → X → Type 0) (z : X) (xs ys : List X) → Follow T z xs → Follow T (last z xs) ys → Follow T z (xs ++ ys)
follow-join T z [] ys h k = k
follow-join T z (x ∷ xs) ys h k = (h.0, follow-join T x xs ys h.1 k)

pub follow-weaker : {X : Type 0} (S T : X → X → Type 0) (P : X → Type 0) → ((x y : X) → P x → P y → S x y → T x y) → (z : X) (xs : List X) → P z → ((x : X) → In x xs → P x) → Follow S z xs → Follow T z xs
follow-weaker S T P f z [] pz p h = tt
follow-weaker S T P f z (x ∷ xs) pz p h = (f z x pz (p x (inl refl)) h.0, follow-weaker S T P f x xs (p x (inl refl)) (λ y i. p y (inr i)) h.1)

-- a colour that changes only at elements that are not out
module _ {X : Type 0} (IsOut : X → Type 0) (c : X → Bool) where
  abbrev pub Keeps : X → X → Type 0
  Keeps x y = IsOut x → IsOut y → c x ≡ c y

  abbrev AllOut : List X → Type 0
  AllOut xs = (x : X) → In x xs → IsOut x

  chain : (z : X) (xs : List X) → IsOut z → AllOut xs → Follow Keeps z xs → (x : X) → In x xs → c z ≡ c x
  chain z [] o a h x i = absurd i
  chain z (y ∷ ys) o a h x (inl e) = h.0 o (a y (inl refl)) ∙ ap c (sym e)
  chain z (y ∷ ys) o a h x (inr i) = h.0 o (a y (inl refl)) ∙ chain y ys (a y (inl refl)) (λ w j. a w (inr j)) h.1 x i

  chain-last : (z : X) (xs : List X) → IsOut z → AllOut xs → Follow Keeps z xs → (c z ≡ c (last z xs)) × IsOut (last z xs)
  chain-last z [] o a h = (refl, o)
  chain-last z (y ∷ ys) o a h = let k = chain-last y ys (a y (inl refl)) (λ w j. a w (inr j)) h.1 in (h.0 o (a y (inl refl)) ∙ k.0, k.1)

  head-same : (y : X) (ys : List X) → AllOut (y ∷ ys) → Follow Keeps y ys → (x : X) → In x (y ∷ ys) → c y ≡ c x
  head-same y ys a h x (inl e) = ap c (sym e)
  head-same y ys a h x (inr i) = chain y ys (a y (inl refl)) (λ w j. a w (inr j)) h x i

  -- all of a stretch that is out have one colour
  pub stretch_same : (z : X) (xs : List X) → AllOut xs → Follow Keeps z xs → (x y : X) → In x xs → In y xs → c x ≡ c y
  stretch_same z [] a h x y i j = absurd i
  stretch_same z (w ∷ ws) a h x y i j = sym (head-same w ws a h.1 x i) ∙ head-same w ws a h.1 y j

  -- over a stretch that is out
  bridge : (u y : X) (p : List X) → AllOut p → Follow Keeps u p → Keeps (last u p) y → Keeps u y
  bridge u y p a h k o q = let l = chain-last u p o a h in l.0 ∙ k l.1 q

  cut-more : (z : X) (a p : List X) (y : X) (b : List X) → AllOut p → last z (a ++ (p ++ (y ∷ b))) ≡ z → Follow Keeps z (a ++ (p ++ (y ∷ b))) → IsCycle Keeps (a ++ (y ∷ b))
  cut-more z a p y b o e h =
      let u = last z a in let r = follow-right Keeps z a (p ++ (y ∷ b)) h in let k = follow-right Keeps u p (y ∷ b) r in
      record {
        end = z;
        closed = last-append z a (y ∷ b) ∙ sym (last-append u p (y ∷ b)) ∙ sym (last-append z a (p ++ (y ∷ b))) ∙ e;
        steps = follow-join Keeps z a (y ∷ b) (follow-left Keeps z a (p ++ (y ∷ b)) h) (bridge u y p o (follow-left Keeps u p (y ∷ b) r) k.0, k.1);
      }

  cut-end : (z : X) (a p : List X) → AllOut p → last z (a ++ p) ≡ z → Follow Keeps z (a ++ p) → IsCycle Keeps a
  cut-end z [] p o e h = record { end = z; closed = refl; steps = tt }
  cut-end z (x ∷ a) p o e h =
      let u = last x a in let l : last u p ≡ z = sym (last-append x a p) ∙ e in
      record {
        end = u;
        closed = refl;
        steps = (bridge u x p o (follow-right Keeps x a p h.1) (subst (λ w. Keeps w x) (sym l) h.0), follow-left Keeps x a p h.1);
      }

  -- a stretch that is out can be cut out of the cycle
  pub cut_cycle : (a p b : List X) → AllOut p → IsCycle Keeps (a ++ (p ++ b)) → IsCycle Keeps (a ++ b)
  cut_cycle a p [] o k =
      subst (λ l. IsCycle Keeps l) (sym (append-nil a)) (cut-end k.end a p o (ap (λ l. last k.end (a ++ l)) (sym (append-nil p)) ∙ k.closed) (subst (λ l. Follow Keeps k.end (a ++ l)) (append-nil p) k.steps))
  cut_cycle a p (y ∷ b) o k = cut-more k.end a p y b o k.closed k.steps

  covers-by : (z : X) (a p : List X) (y : X) (b : List X) → AllOut (a ++ (y ∷ b)) → last z (a ++ (p ++ (y ∷ b))) ≡ z → Follow Keeps z (a ++ (p ++ (y ∷ b))) → Follow Keeps y b → (x : X) → (In x a) ⊎ (In x (y ∷ b)) → c y ≡ c x
  covers-by z a p y b o e h k x (inr i) = head-same y b (λ w j. o w (in-right a (y ∷ b) w j)) k x i
  covers-by z a p y b o e h k x (inl i) =
      let out = λ (w : X) (j : In w (y ∷ b)). o w (in-right a (y ∷ b) w j) in
      let l = chain-last y b (out y (inl refl)) (λ w j. out w (inr j)) k in
      let q : last y b ≡ z = sym (last-append (last z a) p (y ∷ b)) ∙ sym (last-append z a (p ++ (y ∷ b))) ∙ e in
      l.0 ∙ ap c q ∙ chain z a (subst IsOut q l.1) (λ w j. o w (in-left a (y ∷ b) w j)) (follow-left Keeps z a (p ++ (y ∷ b)) h) x i

  covers-more : (z : X) (a p : List X) (y : X) (b : List X) → AllOut (a ++ (y ∷ b)) → last z (a ++ (p ++ (y ∷ b))) ≡ z → Follow Keeps z (a ++ (p ++ (y ∷ b))) → (x : X) → (In x a) ⊎ (In x (y ∷ b)) → c y ≡ c x
  covers-more z a p y b o e h x i =
      let u = last z a in let r = follow-right Keeps z a (p ++ (y ∷ b)) h in let k = follow-right Keeps u p (y ∷ b) r in
      covers-by z a p y b o e h k.1 x i

  -- a stretch of the cycle that is out has one colour
  pub piece_same : (a p b : List X) → AllOut p → IsCycle Keeps (a ++ (p ++ b)) → (x y : X) → In x p → In y p → c x ≡ c y
  piece_same a p b o k x y i j = stretch_same (last k.end a) p o (follow-left Keeps (last k.end a) p b (follow-right Keeps k.end a (p ++ b) k.steps)) x y i j

  -- the rest of the cycle, if it is out, has one colour
  pub covers_same : (a p b : List X) → AllOut (a ++ b) → IsCycle Keeps (a ++ (p ++ b)) → (x y : X) → In x (a ++ b) → In y (a ++ b) → c x ≡ c y
  covers_same a p [] o k x y i j =
      stretch_same k.end a (λ w m. o w (in-left a [] w m)) (follow-left Keeps k.end a (p ++ []) k.steps) x y (subst (λ l. In x l) (append-nil a) i) (subst (λ l. In y l) (append-nil a) j)
  covers_same a p (q ∷ b) o k x y i j =
      sym (covers-more k.end a p q b o k.closed k.steps x (in-either a (q ∷ b) x i)) ∙ covers-more k.end a p q b o k.closed k.steps y (in-either a (q ∷ b) y j)
