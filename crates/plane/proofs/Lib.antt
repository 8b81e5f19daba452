mod Bits
mod Conflicts
mod Edges
mod Examples
mod FreeSegments
mod Heights
mod Identities
mod OnEdges
pub mod PlaneKit
mod PointOrder
mod Points
mod Products
mod RayCrossings
mod Scaling
mod Sectors
pub mod SignKit
mod Signs
mod Views
