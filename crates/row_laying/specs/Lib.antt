pub mod SaidRows
pub mod KeptRows
pub mod Laying
pub mod Laid
