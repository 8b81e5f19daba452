pub mod AreaExists
pub mod AreaLemmas
mod FewNames
mod HeldFaults
pub mod MadeLemmas
pub mod OutcomeExists
pub mod OutcomeLemmas
pub mod OutcomeOne
pub mod OutcomeParity
pub mod ProblemKinds
pub mod RefLemmas
pub mod RingSums
pub mod RoleLemmas
pub mod RoleSteps
mod RoleWalks
pub mod SoundAreas
pub mod WholeRings
pub mod WholeWays
