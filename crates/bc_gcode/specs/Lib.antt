pub mod Answers
pub mod Blocks
pub mod Program
pub mod Gcode
pub mod Laws
