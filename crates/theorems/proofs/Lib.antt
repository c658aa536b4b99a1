-- The proofs of the statements in specs/: `demand` in Run, `lists-are-offers` in Lists, `rest-alone` in Alike, `totals-count` in Totals.
mod Kept
pub mod Sound
mod Small
pub mod Restored
mod Logged
mod Reload
mod Exact
pub mod Alike
pub mod Totals
pub mod Run
pub mod Lists
