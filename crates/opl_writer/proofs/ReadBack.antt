pub mod Apart
pub mod ReadAlone
pub mod ReadBack
pub mod ReadSound
