mod ErasedRows
pub mod ExpressionNorms
pub mod Formed
pub mod Layers
mod MaskRows
pub mod Norms
pub mod Once
pub mod PlainMasks
pub mod Rolls
pub mod Sizes
pub mod SortedMasks
pub mod Whole
