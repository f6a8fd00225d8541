mod Anew
mod Forgotten
mod LogThere
mod OldVolumes
mod Resumed
mod TakingUp
mod Volumes
