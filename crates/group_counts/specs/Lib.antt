-- `Groups` says which groups some documents make, `Keyed` what is said of each, by the words of `Numbers`. `Tallies` and
-- `Gathered` say how the code keeps that, and of which documents, `Figures` what it reads of columns.
pub mod Numbers
pub mod Keyed
pub mod Groups
pub mod Tallies
pub mod Gathered
pub mod Figures
