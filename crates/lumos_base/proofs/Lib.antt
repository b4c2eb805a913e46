pub mod WritesBack
