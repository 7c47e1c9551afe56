pub mod Dues
pub mod Kept
pub mod Links
pub mod SlotDues
pub mod Turning
