pub mod Calls
pub mod Serving
pub mod ServedLaws
pub mod Asking
pub mod Waits
pub mod Sealing
pub mod Notices
