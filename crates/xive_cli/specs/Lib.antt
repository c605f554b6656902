-- What the program reads, runs and tells.
pub mod Command
pub mod Complaints
pub mod Input
pub mod Output
pub mod Reading
pub mod Line
pub mod Work
pub mod Report
pub mod Stop
pub mod Ending
pub mod Top
pub mod commands
