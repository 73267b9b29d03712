-- Lemmas of the top call with threads.
pub mod Begun
pub mod Printed
pub mod Owed
pub mod Promises
pub mod Sound
