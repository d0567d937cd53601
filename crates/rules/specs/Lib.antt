-- Document 01, in its order. First the numbers that it names, then its sections.
pub mod Sizes
pub mod Kinds
pub mod Marks
pub mod TransactionState
pub mod EnlistmentState
pub mod EventName
pub mod RefusalNumber
pub mod MessageType
-- What the table holds
pub mod Identifiers
pub mod Table
pub mod Sound
-- The log, of which the events write records
pub mod Log
pub mod Signals
-- The events
pub mod Events
-- Refusal numbers
pub mod Refusals
pub mod Checks
pub mod Step
-- Restart
pub mod Restart
pub mod Dispenser
-- The eight messages
pub mod Messages
-- Listing
pub mod Listing
-- The trace program
pub mod Trace
-- Samples
pub mod Words
