mod Chains
mod SecondFolders
