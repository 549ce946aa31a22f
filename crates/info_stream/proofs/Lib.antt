pub mod Fitting
pub mod Maps
pub mod Ages
