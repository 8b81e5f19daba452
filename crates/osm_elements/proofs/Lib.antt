mod UsualLemmas
mod PackedLemmas
mod CompactLemmas
mod HeldLemmas
mod PlaceLaws
pub mod ElementsKit
