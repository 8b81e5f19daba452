mod Counted
mod OneMore
mod Rising
mod Short
mod Sampled
mod Good
mod OneCoast
