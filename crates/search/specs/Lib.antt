-- The pole-count search: its turns and what its arithmetic wants.
pub mod Search
pub mod Bounds
