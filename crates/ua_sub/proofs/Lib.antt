pub mod MemberLaws
pub mod HomLaws
pub mod FlawLaws
pub mod ExtensionLaws
mod TwinLaws
mod MembersExist
mod HomExist
