pub mod Optimal
