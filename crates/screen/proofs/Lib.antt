mod Covers
mod Once
mod Overlaps
mod Rows
mod Runs
