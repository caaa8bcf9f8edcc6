-- What the survey answers, and that it is what the definitions say of a sheet.
pub mod Survey
pub mod Marks
pub mod Mapped
pub mod Summed
pub mod SlotSizes
pub mod SurveyFlats
pub mod SurveyParts
pub mod Widths
pub mod SurveyObjects
pub mod Surveyed
pub mod UnmarkedElements
pub mod BlobReferred
pub mod SimpleElements
pub mod SimpleMembers
pub mod SurveyBy
