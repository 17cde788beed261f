pub mod Elements
pub mod Examples
pub mod Listed
pub mod Looking
pub mod SameReads
pub mod SameArrays
pub mod SameParts
pub mod SamePlan
