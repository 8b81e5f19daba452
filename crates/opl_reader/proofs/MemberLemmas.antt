-- Members, one more at a time.
use Rattle.std.proofs.Common.{◌≡◌, ◌++◌, ◌∷◌, [], ℕ, List, Some, Result, Ok, Err, refl, sym}
use Rattle.osm_elements.specs.declared.object.Member.{Member}
use Rattle.osm_elements.specs.declared.object.ObjectRef.{ObjectRef}
use Rattle.opl_reader.specs.declared.fault.LineFault.{LineFault}
use Rattle.opl_reader.specs.declared.fault.LineError.{LineError}
use Rattle.opl_reader.specs.declared.fault.LineError.TheVariants.{Fault, OutOfMemory}
use Rattle.opl_reader.specs.ItemReading.{halves, member_at, target_of}
use Rattle.opl_reader.specs.Reading.{◌>>=◌, Fails}
use Rattle.osm_elements.specs.Seen.{member_of}
use Rattle.opl_reader.specs.Steps.{with_member_at}
use Rattle.opl_reader.specs.StringReading.{string_at, string_of}

abbrev adding : List Member → Result Member LineFault → Result (List Member) LineFault
adding members r = r >>= λ m. Ok (members ++ m ∷ [])

pub added_from : (r : Result Member LineFault) (members new : List Member) → adding members r ≡ Ok new → (m : Member) × (r ≡ Ok m) × (members ++ m ∷ [] ≡ new)
added_from (Ok m) members new e = (m, refl, cc)
added_from (Err f) members new e = absurd cc

pub not_added : (r : Result Member LineFault) (members : List Member) (err : LineError) → Fails err (adding members r) → Fails err r
not_added (Ok m) members OutOfMemory h = tt
not_added (Err g) members OutOfMemory h = tt
not_added (Ok m) members (Fault f) h = absurd cc
not_added (Err g) members (Fault f) h = cc

-- a role that stands for itself
pub plain_added : (members : List Member) (place : ℕ) (item text role : List ℕ) (target : ObjectRef) → Some (text, role) ≡ halves 64 item → Some (target.kind, target.id) ≡ target_of text → string_of role ≡ Some role
    → with_member_at members place item ≡ Ok (members ++ member_of target role ∷ [])
unfolding member_at string_at
plain_added members place item text role target cut named plain = rw (sym cut, sym named, plain) refl
