mod Moments
mod Torn
mod Recorded
