pub mod BlockLemmas
pub mod BucketLemmas
pub mod FittingLemmas
pub mod RangeLemmas
