-- What a caller needs: `Buckets` (buckets as sets of keys), `Paths` where runs are spoken of, and
-- `Printed` for the texts of buckets.
pub mod Buckets
pub mod Paths
pub mod Printed
