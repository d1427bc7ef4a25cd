pub mod Firsts
pub mod Numbers
pub mod Joined
pub mod Printed
