pub mod BlockLemmas
pub mod CursorLemmas
pub mod EdgeLemmas
pub mod FaultLemmas
pub mod ReadLemmas
