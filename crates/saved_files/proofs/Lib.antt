mod Crashes
mod MemFolders
mod Puts
mod PutsBoth
mod Saves
