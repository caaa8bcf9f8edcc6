-- The pass that stores a message, that what it leaves is the message of the definitions, and what its code promises.
pub mod Emit
pub mod CellLengths
pub mod EmitLayout
pub mod EmitSheet
pub mod EmitFlats
pub mod EmitParts
pub mod EmitObjects
pub mod Measure
pub mod EmitRun
pub mod Emitting
pub mod EmitStructs
pub mod EmitBy
