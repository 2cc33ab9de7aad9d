pub mod PlacesGathered
pub mod BytesDecide
pub mod One
pub mod Demands
