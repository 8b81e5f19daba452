mod DecimalLemmas
pub mod DecimalValues
pub mod KeptTexts
pub mod RoundedRange
mod StringLemmas
