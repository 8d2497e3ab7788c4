mod Counts
mod Makings
mod Signs
mod Telling
mod Turns
mod Walks
