pub mod Fault
pub mod LineFault
pub mod Read
pub mod Reply
pub mod Script
pub mod Words
