pub mod ChunkLemmas
pub mod JoinLemmas
pub mod OrderLemmas
pub mod Permutations
pub mod SkipLemmas
pub mod SumLemmas
pub mod ValueLemmas
