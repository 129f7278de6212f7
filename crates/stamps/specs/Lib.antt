-- What a caller needs: `Order`, and `Printed` for the texts of stamps.
-- `Places` says which place is kept for a stamp.
pub mod Order
pub mod Printed
pub mod Places
pub mod Rising
