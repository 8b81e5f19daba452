pub mod EntryOne
pub mod ExportOne
pub mod OneCoast
pub mod ReadingOne
mod RoundedPieces
pub mod RunOne
mod SampleOne
mod ValidAreas
mod WholeOne
pub mod WholeThere
