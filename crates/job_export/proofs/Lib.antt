mod Additions
mod Candidates
mod Entries
mod Exports
mod Lent
mod ReportLines
mod Wholes
