-- the image
pub mod Sizes
pub mod Formed
pub mod RecordWords
pub mod Ends
pub mod Loads
pub mod ListPlaces
pub mod Counts
pub mod Room
pub mod WordSize
pub mod Examples
-- header and parts
pub mod Headers
pub mod Parts
pub mod EdgePart
