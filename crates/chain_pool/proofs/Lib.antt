pub mod ChainLemmas
pub mod HeldLemmas
pub mod MoveLemmas
pub mod NodeLemmas
pub mod StartLemmas
