pub mod NextLogs
