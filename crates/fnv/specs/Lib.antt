pub mod Fnv
