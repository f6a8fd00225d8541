mod CutLives
mod PowerCuts
