-- Objects no two of which have one kind and id, told one behind the other.
use Rattle.std.proofs.Common.{◌≡◌, ◌∙◌, refl, ap, cond, Bool, false, None, Some, List, [], ◌∷◌, ◌++◌}
use Rattle.osm_elements.specs.declared.object.Object.{Object}
use Rattle.osm_objects.specs.Object.{is_at, ref_of}
use Rattle.osm_objects.specs.Objects.{AreApart, object_at}
use Rattle.osm_objects.proofs.ObjectsKit.{is_at-symmetric, passes}

not_there : (us : List Object) (o : Object) (vs : List Object) (u : Object) → object_at (us ++ o ∷ vs) (ref_of u) ≡ None → is_at (ref_of u) o ≡ false
not_there [] o vs u none = (passes (is_at (ref_of u) o) o (object_at vs (ref_of u)) none).0
not_there (w ∷ us) o vs u none = not_there us o vs u (passes (is_at (ref_of u) w) w (object_at (us ++ o ∷ vs) (ref_of u)) none).1

pub none_before : (us : List Object) (o : Object) (vs : List Object) → AreApart (us ++ o ∷ vs) → object_at us (ref_of o) ≡ None
none_before [] o vs apart = refl
none_before (u ∷ us) o vs apart =
    ap (λ (b : Bool). cond b (Some u) (object_at us (ref_of o))) (is_at-symmetric o u ∙ not_there us o vs u apart.0) ∙ none_before us o vs apart.1
