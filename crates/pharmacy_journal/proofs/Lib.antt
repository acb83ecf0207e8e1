pub mod Circle
pub mod PlaceLemmas
pub mod OpenPlaces
pub mod Turning
pub mod ReadingLemmas
pub mod Entering
pub mod Dues
pub mod Few
pub mod Standing
pub mod Hearings
pub mod Answering
pub mod AnotherRule
pub mod Switches
pub mod StopStart
pub mod Payable
mod Tellings
pub mod Sends
pub mod Idle
