-- The lemmas behind the answers.
mod Collecting
mod KnowingEach
mod PollingOne
mod Polling
mod PollingSides
mod Beginning
mod Advancing
mod AdvancingSides
mod AdvancingKnows
mod Storing
mod Early
