-- what a verdict says
pub mod Walks
pub mod Verdicts
pub mod Numbers
pub mod SoundLoads
pub mod SavedSound
pub mod LoadCodes
pub mod HeaderCode
-- the first bad word
pub mod Offsets
pub mod WithDegrees
pub mod ReadOrder
pub mod FirstBad
pub mod Fill
pub mod Follows
-- the code
pub mod Readings
pub mod Capacity
pub mod Turns
pub mod VertexPass
pub mod EdgePass
pub mod ListPass
pub mod DegreePass
pub mod ScratchPass
