pub mod EachTimer
pub mod NoSlack
mod OneText
pub mod OwnParts
pub mod ObjectOrder
pub mod ObjectTurns
pub mod OwnPoints
pub mod Moments
pub mod Readings
pub mod Replies
pub mod SignalCalls
pub mod SignalDeeds
pub mod SignalLaws
pub mod SignalLists
pub mod Signals
pub mod SignalTurns
