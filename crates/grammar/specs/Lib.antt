pub mod BoxesWritten
pub mod Written
pub mod Grammar
pub mod Tables
pub mod Meant
