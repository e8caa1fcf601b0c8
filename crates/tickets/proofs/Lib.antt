pub mod Made
pub mod Others
pub mod Inside
pub mod Apart
pub mod Accepted
pub mod Ends
