-- Laws of the definitions of request one, a file for each thing that they say.
pub mod Runs
pub mod Letters
pub mod OneComponent
pub mod Complete
pub mod Sound
pub mod Stands
pub mod Walks
pub mod Begins
pub mod Refused
pub mod Right
pub mod Places
pub mod Answered
pub mod Worth
