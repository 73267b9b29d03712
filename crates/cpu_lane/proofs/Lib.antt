-- The lemmas behind the answers, lowest first.
pub mod Told
pub mod Handing
pub mod Looking
pub mod Readying
pub mod Sampling
pub mod Turning
pub mod Keeping
pub mod Running
