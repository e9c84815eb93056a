pub mod CutLaws
pub mod Known
pub mod LineLaws
pub mod NumeralLaws
mod PartLine
