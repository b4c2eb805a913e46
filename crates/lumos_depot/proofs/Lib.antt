pub mod FileKinds
pub mod OutsideLemmas
pub mod Overwrites
pub mod Pieces
pub mod StepLemmas
pub mod Written
