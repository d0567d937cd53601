-- One transaction alone: what is always true of it, and that every move and every cut keeps it so
pub mod Alone
pub mod Move
pub mod Cut
-- From there to the claim
pub mod Top
-- What a log tells of a transaction, how a table shows it, what a step is given, and what its signals are about
pub mod Story
pub mod View
pub mod Given
pub mod Messages
-- What is written can be read back
pub mod Open
pub mod Fitting
-- Every event is a move
pub mod Own
pub mod Reactions
pub mod Calls
pub mod Ends
pub mod Reenlisted
pub mod Steps
-- A restart gives back what the stored log tells
pub mod Restarts
-- Demand 3
pub mod Safety
-- It is not empty, and each premise is needed
pub mod Played
pub mod Samples
pub mod Pinned
-- Beyond the demand: a decision is remembered; no bricking
pub mod Memory
pub mod Lengths
pub mod Reopened
pub mod Bricks
pub mod Asked
pub mod Restarted
