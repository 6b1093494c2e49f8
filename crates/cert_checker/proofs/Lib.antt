mod Walking
mod Holding
mod WholeLines
mod FirstFailing
mod Shown
mod Refusing
mod CutLines
mod Ends
mod Reading
pub mod TooLong
mod Judged
mod Listed
mod LineDuals
mod RunPlaces
mod RunClaims
mod MarkedClaims
mod OlderCuts
pub mod Sizes
