pub mod Active
