-- The proof of the statement in specs/Halving.antt: `halving-hides` in Halving.
mod Level
mod Exact
mod Spread
mod Kept
mod Asked
mod Found
mod Run
pub mod Halving
