pub mod CopyHeader
pub mod CopyRows
pub mod HeadText
pub mod RecordText
pub mod PageText
pub mod Summary
pub mod Wanted
