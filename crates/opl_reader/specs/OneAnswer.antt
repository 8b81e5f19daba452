-- Every line has one answer: passed over, an object, or a fault.
use Rattle.std.specs.Prelude.{◌≡◌, ◌↔◌, ◌⊎◌, ℕ, List, Some, None, Ok, Err}
use Rattle.opl_reader.specs.declared.fault.LineFault.{LineFault}
use Rattle.osm_elements.specs.declared.object.Object.{Object}
use Rattle.opl_reader.specs.LineReading.{reading}
use Rattle.opl_reader.specs.Spells.{Spells, IsPassedOver}
use Rattle.opl_reader.specs.Faults.{HasFault}

-- a line is read as what it spells, as passed over if it is that, or as its fault
pub record IsAnswer (line : List ℕ) : Type 0 where
  pub object : (o : Object) → (reading line ≡ Ok (Some o)) ↔ Spells line o
  pub passed : (reading line ≡ Ok None) ↔ IsPassedOver line
  pub fault : (x : LineFault) → (reading line ≡ Err x) ↔ HasFault line x

-- a line has an answer
abbrev pub HasAnswer : List ℕ → Type 0
HasAnswer line = IsPassedOver line ⊎ (((o : Object) × Spells line o) ⊎ ((x : LineFault) × HasFault line x))

-- a line has no two answers
pub record HasNoOther (line : List ℕ) : Type 0 where
  pub object : (o p : Object) → Spells line o → Spells line p → o ≡ p
  pub fault : (x y : LineFault) → HasFault line x → HasFault line y → x ≡ y
  pub object_passed : (o : Object) → Spells line o → IsPassedOver line → ⊥
  pub object_fault : (o : Object) (x : LineFault) → Spells line o → HasFault line x → ⊥
  pub passed_fault : (x : LineFault) → IsPassedOver line → HasFault line x → ⊥
