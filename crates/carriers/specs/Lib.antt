-- What a caller needs: `Fates`; `Plans` says what a carrier with plans keeps.
pub mod Fates
pub mod Plans
