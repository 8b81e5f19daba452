-- The nearest of several sites, from the nearest of some and of the others.
use Rattle.std.proofs.Common.{◌≡◌, ◌⊎◌, inl, inr, Bool, List, sym, subst, ⊎_elim}
use Rattle.std.proofs.Math.Nat.{le_trans}
use Rattle.osm_lattice.specs.declared.loc.Loc.{Loc}
use Rattle.coast_join.specs.declared.sites.Near.{Near}
use Rattle.coast_join.specs.declared.sites.Site.{Site}
use Rattle.coast_join.specs.Sites.{IsFreeNear, IsNearestSite}

module _ (gone : List Bool) (p : Loc) where
  stands_too : (P Q : Site → Type 0) (near : Near) → ((s : Site) → P s → Q s) → IsFreeNear P gone p near → IsFreeNear Q gone p near
  stands_too P Q near h f = record { stands = h near.site f.stands; free = f.free; square = f.square }

  pub nearest_joined : (P Q R : Site → Type 0) (best mid near : Near) → ((s : Site) → P s → R s) → ((s : Site) → Q s → R s) → ((s : Site) → R s → P s ⊎ Q s) → IsNearestSite P gone p best mid → IsNearestSite Q gone p mid near → IsNearestSite R gone p best near
  nearest_joined P Q R best mid near pr qr split a b = record {
    within = le_trans b.within a.within;
    least = λ s r f. ⊎_elim (λ l. le_trans b.within (a.least s l f)) (λ l. b.least s l f) (split s r);
    origin = ⊎_elim
        (λ e. subst (λ n. (n ≡ best) ⊎ IsFreeNear R gone p n) (sym e) (⊎_elim (λ d. inl d) (λ f. inr (stands_too P R mid pr f)) a.origin))
        (λ f. inr (stands_too Q R near qr f))
        b.origin;
  }
