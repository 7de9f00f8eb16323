mod Growing
mod Moving
mod Starring
