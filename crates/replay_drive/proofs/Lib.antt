-- The lemmas behind the answers.
mod Playing
pub mod Among
mod Beginning
mod Waiting
pub mod Polling
pub mod PollStands
pub mod Alike
pub mod AdvanceStands
mod TurnStands
pub mod StoreKept
pub mod PartsKept
pub mod AdvanceStores
pub mod StepsTaken
mod StepsMany
mod Started
mod RunWhole
mod RunEnded
mod EndStores
mod ReplayWhole
