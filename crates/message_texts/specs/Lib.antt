-- What a caller needs: `Texts` (the text of a message, and the message of a text) and `Fitting` (which messages a
-- schema allows). `Bodies` and `Entries` say what each part is in JSON, `ByKey` in which order entries stand.
pub mod Texts
pub mod Fitting
pub mod Bodies
pub mod Entries
pub mod ByKey
pub mod Listed
pub mod Parts
