pub mod Returns
pub mod TxnTable
pub mod CountUpTo
pub mod OpenEntry
pub mod OpenList
pub mod OpenTransactions
pub mod Pending
pub mod TxnState
