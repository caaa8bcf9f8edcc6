pub mod StepsWithin
pub mod DirectCases
pub mod FoundsWithin
pub mod PartCases
pub mod RowCases
pub mod ElementSound
