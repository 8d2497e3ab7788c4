mod Turns
mod Wording
mod Both
mod Within
mod Writing
mod Putting
mod EventLines
mod OnSchedule
mod ReadyClients
mod TextStarts
mod RefusedTexts
pub mod WholeTexts
