mod Endings
mod Jobs
mod OutputKept
