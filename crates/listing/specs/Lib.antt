pub mod Opening
pub mod Piece
pub mod Whole
