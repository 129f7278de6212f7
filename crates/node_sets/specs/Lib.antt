-- What a caller needs: `Members`.
pub mod Members
