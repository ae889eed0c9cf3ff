pub mod Steps
pub mod InitializerIs
pub mod ParameterLaw
pub mod ParameterComplete
pub mod InitializerLaw
pub mod MemberLaw
pub mod MemberComplete
