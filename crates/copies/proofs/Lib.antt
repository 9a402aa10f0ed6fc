pub mod RoleLaws
pub mod CopyLaws
pub mod PlaceLaws
pub mod MadeLaws
