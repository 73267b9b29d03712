-- The lemmas behind the answers.
mod EndsJoined
mod EndsCut
mod EndsStore
mod EndsRecorded
mod Driving
mod Scoped
mod Whole
