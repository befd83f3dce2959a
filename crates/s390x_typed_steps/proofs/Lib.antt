pub mod Trees
pub mod Causes
pub mod Baseline
pub mod CallRows
pub mod RelativeRows
pub mod Traps
pub mod Folding
pub mod FoldedRelocs
