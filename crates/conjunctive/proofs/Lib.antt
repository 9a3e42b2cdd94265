pub mod Anew
pub mod Firsts
pub mod Records
