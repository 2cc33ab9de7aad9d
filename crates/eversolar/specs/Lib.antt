pub mod Wire
pub mod Rules
pub mod Machine
pub mod Reader
pub mod Slice
pub mod Writer
pub mod Demands
pub mod Inside
