mod Common
pub mod Delivery
pub mod TurnLemmas
pub mod Sending
pub mod FittingLemmas
pub mod StandLemmas
pub mod ItemLemmas
pub mod StartLemmas
pub mod RoundLemmas
pub mod EndLemmas
