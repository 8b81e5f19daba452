-- The text of a fault.
use Rattle.std.specs.Prelude.{ℕ, List, codes}
use Rattle.opl_reader.specs.declared.fault.FaultKind.{FaultKind}
use Rattle.opl_reader.specs.declared.fault.FaultKind.TheVariants.{NotUtf8, UnknownObject, UnknownField, RepeatedField, BadNumber, BadFlag, BadCoordinate, BadEscape, BadTag, BadReference, BadMember}

-- what a report calls a fault of this kind
abbrev pub fault_text : FaultKind → List ℕ
fault_text NotUtf8 = codes "not utf-8"
fault_text UnknownObject = codes "unknown object"
fault_text UnknownField = codes "unknown field"
fault_text RepeatedField = codes "repeated field"
fault_text BadNumber = codes "bad number"
fault_text BadFlag = codes "bad flag"
fault_text BadCoordinate = codes "bad coordinate"
fault_text BadEscape = codes "bad escape"
fault_text BadTag = codes "bad tag"
fault_text BadReference = codes "bad reference"
fault_text BadMember = codes "bad member"
